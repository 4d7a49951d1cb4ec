-- Laws of the supply. `reach`: a supply of x or more is there from a certain t on. Every other law follows from it.
-- Assumes nothing.
use Prim.Native.Nat.{ℕ, zero, suc, ◌+◌, ◌-◌, ◌*◌, max, ◌≤◌, ◌<◌}
use native.Mathlib.Nat.{le_refl, le_trans, mul_comm, mul_assoc, mul_right_comm, mul-add, add-mul, suc-mul, zero-mul, mul-le-mul_right, add-sub_cancel, sub-add_cancel, add-le-add, mul-le-mul, sub-le-sub_left}
use native.Mathlib.Numerals.{add-one, sub-one}
use native.Mathlib.Omega.{arith}
use native.Mathlib.Decide.{dec_le, dec_lt}
use mathlib.Core.Path.{◌≡◌, refl, ap, ◌∙◌}
use mathlib.Core.Logic.{◌⊎◌, inl, inr, ◌↔◌}
use mathlib.Core.Bool.{cond, ◌&&◌}
use lib.Dec.{leb}
use borrow.Author.Tests.{le-leb, lt-leb}
use Rattle.least.specs.Round.{ceil_div}
use Rattle.least.proofs.Round.{ceil_covers, ceil_least, ceil_mono, ceil_anti}
use Rattle.supply.specs.Supply.{round_of, supply_at, supply_of}

-- the least t in which (P,Q) gives x ticks, for x from 1 on
unfoldable pub reach : ℕ → ℕ → ℕ → ℕ
reach P Q x = x + (ceil_div x Q + 1) * (P - Q)

pub twice_more : (j x : ℕ) → (suc j + 1) * x ≡ j * x + x + x
twice_more j x = simp (add-one, suc-mul)

-- where the branch of the round k = j + 1 begins and ends, with g = P − Q and q = Q
round_start : (g q j : ℕ) → (suc j + 1) * (g + q) - 2 * q ≡ j * q + j * g + g + g
round_start g q j = omega (arith, twice_more j (g + q), mul-add j g q)

round_end : (g q j : ℕ) → (suc j + 1) * (g + q) - q ≡ j * q + j * g + q + g + g
round_end g q j = omega (arith, twice_more j (g + q), mul-add j g q)

-- the supply as one sum: j whole budgets and what this round has given
supply_sum : (g q t j : ℕ) → t ≤ j * q + j * g + q + g + g → supply_at (g + q) q t (suc j) ≡ j * q + (t - (j * q + j * g + g + g))
unfolding supply_at
supply_sum g q t j u = rw (round_start g q j, round_end g q j) (go (dec_le (j * q + j * g + g + g) t))
  where
    go : Dec (j * q + j * g + g + g ≤ t) → cond (leb (j * q + j * g + g + g) t && leb t (j * q + j * g + q + g + g)) (t - (suc j + 1) * (g + q - q)) ((suc j - 1) * q) ≡ j * q + (t - (j * q + j * g + g + g))
    go (yes l) = rw (le-leb _ _ l, le-leb _ _ u, add-sub_cancel g q) (omega (arith, twice_more j g))
    go (no l) =
        let h : t < j * q + j * g + g + g = omega arith in
        rw (lt-leb _ _ h) (omega (arith, ap (λ (n : ℕ). n * q) (sub-one (suc j))))

round_is : (g q t : ℕ) → round_of (g + q) q t ≡ max (ceil_div (t - g) (g + q)) 1
unfolding round_of
round_is g q t = ap (λ (x : ℕ). max (ceil_div (t - x) (g + q)) 1) (add-sub_cancel g q)

-- what is known of t at the round k = j + 1 that the definition picks
pub record Round (g q t j : ℕ) : Type 0 where
  pub upper : t ≤ j * q + j * g + q + g + g
  pub lower : (j ≡ 0) ⊎ (j * q + j * g + g < t)
  pub value : supply_of (g + q) q t ≡ j * q + (t - (j * q + j * g + g + g))

module _ (g q t : ℕ) (h : 1 ≤ q) where
  value_at : (j : ℕ) → max (ceil_div (t - g) (g + q)) 1 ≡ suc j → t ≤ j * q + j * g + q + g + g → supply_of (g + q) q t ≡ j * q + (t - (j * q + j * g + g + g))
  unfolding supply_of
  value_at j e u = ap (supply_at (g + q) q t) (round_is g q t ∙ e) ∙ supply_sum g q t j u

  round_zero : ceil_div (t - g) (g + q) ≡ 0 → Round g q t 0
  round_zero e =
      let u : t ≤ 0 * q + 0 * g + q + g + g = omega (arith, rw e at (ceil_covers (t - g) (g + q) (omega arith)), zero-mul (g + q)) in
      record { upper = u; lower = inl refl; value = value_at 0 (rw e refl) u }

  pub round_suc : (j : ℕ) → ceil_div (t - g) (g + q) ≡ suc j → Round g q t j
  round_suc j e =
      let u : t ≤ j * q + j * g + q + g + g = omega (arith, rw e at (ceil_covers (t - g) (g + q) (omega arith)), suc-mul j (g + q), mul-add j g q) in
      record { upper = u; lower = inr (low (dec_lt _ _)); value = value_at j (omega arith) u }
    where
      low : Dec (j * q + j * g + g < t) → j * q + j * g + g < t
      low (yes l) = l
      low (no l) = absurd (omega (arith, ceil_least (t - g) (g + q) j (omega arith) (omega (arith, mul-add j g q))))

  round_known : (j : ℕ) × Round g q t j
  round_known = go (ceil_div (t - g) (g + q)) refl
    where
      go : (k : ℕ) → ceil_div (t - g) (g + q) ≡ k → (j : ℕ) × Round g q t j
      go zero e = (0, round_zero e)
      go (suc j) e = (j, round_suc j e)

-- nothing in the first P − Q ticks
pub supply_early : (P Q t : ℕ) → 1 ≤ Q → Q ≤ P → t ≤ P - Q → supply_of P Q t ≡ 0
supply_early P Q t h b l =
    let e : P - Q + Q ≡ P = sub-add_cancel b in
    let r = round_known (P - Q) Q t h in
    rw e at (go r.0 r.1 r.1.lower)
  where
    go : (j : ℕ) → Round (P - Q) Q t j → (j ≡ 0) ⊎ (j * Q + j * (P - Q) + (P - Q) < t) → supply_of (P - Q + Q) Q t ≡ 0
    go j r (inl z) = omega (arith, r.value, ap (λ (n : ℕ). n * Q) z, zero-mul Q)
    go j r (inr n) = absurd (omega arith)

module _ (g q t x : ℕ) (h : 1 ≤ q) where
  enough : (m j : ℕ) → Round g q t j → x ≤ m * q → x + (m + 1) * g ≤ t → x ≤ supply_of (g + q) q t
  enough m j r hi l = go (dec_le m j)
    where
      go : Dec (m ≤ j) → x ≤ supply_of (g + q) q t
      go (yes a) = omega (arith, r.value, mul-le-mul_right q a)
      go (no a) = omega (arith, r.value, twice_more j g, mul-le-mul_right {m = suc j + 1} {n = m + 1} g (omega arith))

  needed : (j : ℕ) → Round g q t j → 1 ≤ x → x ≤ supply_of (g + q) q t → x + (ceil_div x q + 1) * g ≤ t
  needed j r p l = go (dec_le x (j * q)) r.lower
    where
      few : (n : ℕ) → x ≤ n * q → (ceil_div x q + 1) * g ≤ n * g + g
      few n a = omega (arith, mul-le-mul_right g (ceil_least x q n h a), suc-mul (ceil_div x q) g, ap (λ (k : ℕ). k * g) (add-one (ceil_div x q)))

      go : Dec (x ≤ j * q) → (j ≡ 0) ⊎ (j * q + j * g + g < t) → x + (ceil_div x q + 1) * g ≤ t
      go (yes a) (inl e) = absurd (omega (arith, ap (λ (k : ℕ). k * q) e, zero-mul q))
      go (yes a) (inr b) = omega (arith, few j a)
      go (no a) d = omega (arith, r.value, r.upper, few (suc j) (omega (arith, suc-mul j q, r.value, r.upper)), suc-mul j g)

module _ (P Q t x : ℕ) (h : 1 ≤ Q) (b : Q ≤ P) where
  pub reach_enough : reach P Q x ≤ t → x ≤ supply_of P Q t
  unfolding reach
  reach_enough l =
      let e : P - Q + Q ≡ P = sub-add_cancel b in
      let r = round_known (P - Q) Q t h in
      rw e at (enough (P - Q) Q t x h (ceil_div x Q) r.0 r.1 (ceil_covers x Q h) l)

  pub reach_needed : 1 ≤ x → x ≤ supply_of P Q t → reach P Q x ≤ t
  unfolding reach
  reach_needed o l =
      let e : P - Q + Q ≡ P = sub-add_cancel b in
      let r = round_known (P - Q) Q t h in
      needed (P - Q) Q t x h r.0 r.1 o (rw (← e) at l)

  pub reach_iff : 1 ≤ x → (x ≤ supply_of P Q t) ↔ (reach P Q x ≤ t)
  reach_iff o = (reach_needed o, reach_enough)

pub reach_over : (P Q x : ℕ) → x ≤ reach P Q x
unfolding reach
reach_over P Q x = omega arith

pub reach_mono : (P Q x y : ℕ) → 1 ≤ Q → x ≤ y → reach P Q x ≤ reach P Q y
unfolding reach
reach_mono P Q x y h l = add-le-add l (mul-le-mul_right (P - Q) (add-le-add (ceil_mono x y Q h l) (le_refl 1)))

-- a straight line under the inverse
pub reach_line : (P Q x : ℕ) → 1 ≤ Q → Q ≤ P → P * x + Q * (P - Q) ≤ Q * reach P Q x
unfolding reach
reach_line P Q x h b =
    let g = P - Q in
    let m = ceil_div x Q in
    let e : g + Q ≡ P = sub-add_cancel b in
    omega (
      arith,
      mul-add Q x ((m + 1) * g),
      mul_assoc Q (m + 1) g,
      mul_right_comm Q (m + 1) g,
      mul_comm Q g,
      mul-le-mul_right g (ceil_covers x Q h),
      mul_comm x g,
      mul_comm x Q,
      mul_comm m Q,
      mul_right_comm Q m g,
      mul-add Q m 1,
      add-mul (Q * m) Q g,
      add-mul g Q x,
      ap (λ (k : ℕ). k * x) e,
    )

-- one tick more of supply is at least one tick later
reach_next : (P Q x : ℕ) → 1 ≤ Q → suc (reach P Q x) ≤ reach P Q (suc x)
unfolding reach
reach_next P Q x h = omega (arith, mul-le-mul_right (P - Q) (add-le-add (ceil_mono x (suc x) Q h (omega arith)) (le_refl 1)))

-- a greater budget reaches as much as soon
pub reach_anti : (P Q R x : ℕ) → 1 ≤ Q → Q ≤ R → reach P R x ≤ reach P Q x
unfolding reach
reach_anti P Q R x h l = add-le-add (le_refl x) (mul-le-mul (add-le-add (ceil_anti x Q R h l) (le_refl 1)) (sub-le-sub_left l P))

-- a supply x is there, or x is 0
from_supply : (P Q t : ℕ) → 1 ≤ Q → Q ≤ P → (u R : ℕ) → 1 ≤ R → R ≤ P
    → (reach P Q (supply_of P Q t) ≤ t → reach P R (supply_of P Q t) ≤ u) → supply_of P Q t ≤ supply_of P R u
from_supply P Q t h b u R k d f = go (supply_of P Q t) refl
  where
    go : (x : ℕ) → supply_of P Q t ≡ x → supply_of P Q t ≤ supply_of P R u
    go zero e = omega arith
    go (suc x) e = reach_enough P R u (supply_of P Q t) k d (f (reach_needed P Q t (supply_of P Q t) h b (omega arith) (le_refl _)))

pub supply_mono_t : (P Q t u : ℕ) → 1 ≤ Q → Q ≤ P → t ≤ u → supply_of P Q t ≤ supply_of P Q u
supply_mono_t P Q t u h b l = from_supply P Q t h b u Q h b (λ r. le_trans r l)

pub supply_mono-Q : (P Q R t : ℕ) → 1 ≤ Q → Q ≤ R → R ≤ P → supply_of P Q t ≤ supply_of P R t
supply_mono-Q P Q R t h l b =
    from_supply P Q t h (le_trans l b) t R (le_trans h l) b (λ k. le_trans (reach_anti P Q R (supply_of P Q t) h l) k)

pub supply_le_t : (P Q t : ℕ) → 1 ≤ Q → Q ≤ P → supply_of P Q t ≤ t
supply_le_t P Q t h b = go (supply_of P Q t) refl
  where
    go : (x : ℕ) → supply_of P Q t ≡ x → supply_of P Q t ≤ t
    go zero e = omega arith
    go (suc x) e = le_trans (reach_over P Q (supply_of P Q t)) (reach_needed P Q t (supply_of P Q t) h b (omega arith) (le_refl _))

-- one tick more gives one tick of supply more at most
pub supply_step : (P Q t : ℕ) → 1 ≤ Q → Q ≤ P → supply_of P Q (suc t) ≤ suc (supply_of P Q t)
supply_step P Q t h b = go (supply_of P Q (suc t)) (le_refl _)
  where
    go : (x : ℕ) → x ≤ supply_of P Q (suc t) → x ≤ suc (supply_of P Q t)
    go zero l = omega arith
    go (suc zero) l = omega arith
    go (suc (suc x)) l =
        let r : reach P Q (suc x) ≤ t = omega (arith, reach_next P Q (suc x) h, reach_needed P Q (suc t) (suc (suc x)) h b (omega arith) l) in
        omega (arith, reach_enough P Q t (suc x) h b r)
