-- The linear value is never above the supply, and meets it behind two waits of P − Q ticks and any number of whole periods.
-- Assumes nothing.
use Prim.Native.Nat.{ℕ, suc, ◌+◌, ◌-◌, ◌*◌, ◌/◌, ◌≤◌, ◌<◌}
use native.Mathlib.Nat.{le_refl, div-add-mod', lt-div-mul-add, mul_comm, mul_right_comm, mul-add, mul-le-mul_right, mul-le-mul_left, sub-add_cancel, add-mul}
use native.Mathlib.Omega.{arith}
use native.Mathlib.Decide.{dec_le}
use mathlib.Core.Path.{◌≡◌, sym, ap, ◌∙◌}
use lib.Dec.{le→leb}
use lib.IntN.{ℤ, pos, neg_ℤ, ◌-ℤ◌, ◌*ℤ◌}
use lib.Signed.{◌≤ℤ◌}
use Rattle.least.specs.Round.{ceil_div}
use Rattle.least.proofs.Round.{ceil_covers, ceil_least}
use Rattle.supply.specs.Supply.{supply_of}
use Rattle.supply.specs.Linear.{linear_times_p, LinearUnderSupply}
use Rattle.supply.proofs.SupplyLaws.{reach, reach_needed, reach_enough}
use Rattle.supply.proofs.SupplySigned.{pos_minus, below_minus}
use Rattle.supply.proofs.CeilingLaws.{neg_le_pos}

-- a line that starts behind any number of waits
module _ (P Q t w : ℕ) (b : Q ≤ P) where
  abbrev line : ℤ
  line = pos Q *ℤ (pos t -ℤ pos w *ℤ (pos P -ℤ pos Q))

  line_from : w * (P - Q) ≤ t → line ≡ pos (Q * (t - w * (P - Q)))
  line_from l = rw (pos_minus P Q b) (ap (λ (z : ℤ). pos Q *ℤ z) (pos_minus t (w * (P - Q)) l))

  line_before : t < w * (P - Q) → line ≡ neg_ℤ (pos (Q * suc (w * (P - Q) - suc t)))
  line_before l = rw (pos_minus P Q b) (ap (λ (z : ℤ). pos Q *ℤ z) (below_minus t (w * (P - Q)) l))

  -- x ticks behind the waits
  line_at : (x : ℕ) → w * (P - Q) + x ≡ t → line ≡ pos (Q * x)
  line_at x e =
      let past : t - w * (P - Q) ≡ x = omega arith in
      line_from (omega arith) ∙ ap (λ (y : ℕ). pos (Q * y)) past

  -- below a number if it is so behind the waits
  line_le : (y : ℕ) → Q * (t - w * (P - Q)) ≤ y → line ≤ℤ pos y
  line_le y h = go (dec_le (w * (P - Q)) t)
    where
      go : Dec (w * (P - Q) ≤ t) → line ≤ℤ pos y
      go (yes l) = rw (line_from l) (record { le = le→leb (Q * (t - w * (P - Q))) y h })
      go (no l) = rw (line_before (omega arith)) (neg_le_pos (Q * suc (w * (P - Q) - suc t)) y)

module _ (P Q t : ℕ) (h : 1 ≤ Q) (b : Q ≤ P) where
  -- the next tick of supply is not there yet
  next_late : t < reach P Q (suc (supply_of P Q t))
  next_late = go (dec_le (reach P Q (suc (supply_of P Q t))) t)
    where
      go : Dec (reach P Q (suc (supply_of P Q t)) ≤ t) → t < reach P Q (suc (supply_of P Q t))
      go (yes l) = absurd (omega (arith, reach_enough P Q t (suc (supply_of P Q t)) h b l))
      go (no l) = omega arith

  -- so t has at most two waits more than whole budgets
  waits_most : t ≤ supply_of P Q t + (supply_of P Q t / Q + 2) * (P - Q)
  unfolding reach
  waits_most =
      let x = supply_of P Q t in
      let c : ceil_div (suc x) Q ≤ suc (x / Q) = ceil_least (suc x) Q (suc (x / Q)) h (omega (arith, lt-div-mul-add {a = x} {b = Q} h)) in
      omega (arith, next_late, mul-le-mul_right (P - Q) c)

  linear_below : Q * (t - 2 * (P - Q)) ≤ P * supply_of P Q t
  linear_below =
      let x = supply_of P Q t in
      let u : t - 2 * (P - Q) ≤ x + x / Q * (P - Q) = omega (arith, waits_most) in
      let j : x / Q * Q ≤ x = omega (arith, div-add-mod' x Q) in
      let e : P * x ≡ (P - Q) * x + Q * x = ap (λ (y : ℕ). y * x) (sym (sub-add_cancel b)) ∙ add-mul (P - Q) Q x in
      omega (arith, mul-le-mul_left Q u, mul-le-mul_right (P - Q) j)

linear_never_above : (P Q t : ℕ) → 1 ≤ Q → Q ≤ P → linear_times_p (pos P) (pos Q) (pos t) ≤ℤ pos (P * supply_of P Q t)
unfolding linear_times_p
linear_never_above P Q t h b = line_le P Q t _ b (P * supply_of P Q t) (linear_below P Q t h b)

module _ (P Q k : ℕ) (h : 1 ≤ Q) (b : Q ≤ P) where
  -- after two waits and k whole periods
  supply_whole : supply_of P Q (2 * (P - Q) + k * P) ≡ k * Q
  unfolding reach
  supply_whole = go (dec_le (supply_of P Q t) (k * Q))
    where
      t : ℕ
      t = 2 * (P - Q) + k * P

      periods : k * (P - Q) + k * Q ≡ k * P
      periods = sym (mul-add k (P - Q) Q) ∙ ap (λ (x : ℕ). k * x) (sub-add_cancel b)

      least : k * Q ≤ supply_of P Q t
      least = reach_enough P Q t (k * Q) h b (omega (arith, periods, mul-le-mul_right (P - Q) (ceil_least (k * Q) Q k h (le_refl _))))

      go : Dec (supply_of P Q t ≤ k * Q) → supply_of P Q t ≡ k * Q
      go (yes l) = omega (arith, least)
      go (no l) = absurd (late (dec_le (suc k) (ceil_div (suc (k * Q)) Q)))
        where
          late : Dec (suc k ≤ ceil_div (suc (k * Q)) Q) → ⊥
          late (yes c) = omega (arith, periods, reach_needed P Q t (suc (k * Q)) h b (omega arith) (omega arith), mul-le-mul_right (P - Q) c)
          late (no c) =
              let c' : ceil_div (suc (k * Q)) Q ≤ k = omega arith in
              omega (arith, ceil_covers (suc (k * Q)) Q h, mul-le-mul_right Q c')

  -- the linear value is the supply there
  linear_meets : linear_times_p (pos P) (pos Q) (pos (2 * (P - Q) + k * P)) ≡ pos (P * supply_of P Q (2 * (P - Q) + k * P))
  unfolding linear_times_p
  linear_meets = line_at P Q (2 * (P - Q) + k * P) _ b (k * P) (omega arith) ∙ rw supply_whole (ap pos (swap Q k P))
    where
      swap : (x y z : ℕ) → x * (y * z) ≡ z * (y * x)
      swap x y z = mul_comm x (y * z) ∙ mul_right_comm y z x ∙ mul_comm (y * x) z

pub linear_under_supply : LinearUnderSupply
linear_under_supply = record { never_above = linear_never_above; meets = linear_meets }
