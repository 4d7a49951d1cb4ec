-- Every window has the supply, where each period gives Q ticks or more. A window with j whole periods has at least j × Q given ticks and at most (j+2)(P−Q) others,
-- so one with fewer than x given ticks is shorter than `reach x`, the ticks in which x are supplied.
-- Assumes nothing.
use Prim.Native.Nat.{ℕ, zero, suc, ◌+◌, ◌-◌, ◌*◌, ◌/◌, ◌≤◌, ◌<◌}
use native.Mathlib.Nat.{suc-mul, zero-mul, add-mul, div-add-mod', lt-div-mul-add, mul-add, mul-le-mul_right, add-sub_cancel, sub-add_cancel, le_refl, le_of_eq}
use native.Mathlib.Omega.{arith}
use native.Mathlib.Decide.{dec_le, dec_lt}
use mathlib.Core.Path.{◌≡◌, sym, ap, ◌∙◌}
use Rattle.least.specs.Round.{ceil_div}
use Rattle.least.proofs.Round.{ceil_covers}
use Rattle.supply.specs.Supply.{supply_of}
use Rattle.supply.proofs.SupplyLaws.{reach, reach_needed}
use Rattle.delivery.specs.Assignment.{Assignment, given, Delivers}
use Rattle.delivery.proofs.Given.{given_append, given_inside, missed_inside}

-- with g = P − Q and q = Q
module _ (g q : ℕ) (A : Assignment) (d : (n : ℕ) → q ≤ given A (n * (g + q)) (g + q)) where
  -- k periods from the n-th on
  periods_least : (n k : ℕ) → k * q ≤ given A (n * (g + q)) (k * (g + q))
  periods_least n zero = omega (arith, zero-mul q)
  periods_least n (suc k) =
      rw (suc-mul k (g + q), given_append A (n * (g + q)) (k * (g + q)) (g + q), ← add-mul n k (g + q))
      (omega (arith, periods_least n k, d (n + k), suc-mul k q))

  -- the window has j whole periods, and the rest of it lies in two more
  record WholePeriods (s t j : ℕ) : Type 0 where
    full : j * q ≤ given A s t
    rest : t ≤ given A s t + (j + 2) * g

  -- it starts in period n, and ends j + 2 periods later or before
  rest_most : (s t n j : ℕ) → n * (g + q) ≤ s → s + t ≤ (n + (j + 2)) * (g + q) → t ≤ given A s t + (j + 2) * g
  rest_most s t n j a b =
      omega (arith, missed_inside A (n * (g + q)) ((j + 2) * (g + q)) s t a (rw (add-mul n (j + 2) (g + q)) at b), periods_least n (j + 2), mul-add (j + 2) g q)

  -- it starts in period n and ends in period m
  module _ (s t n m : ℕ) (a : n * (g + q) ≤ s) (b : s ≤ suc n * (g + q)) (c : m * (g + q) ≤ s + t) (e : s + t ≤ suc m * (g + q)) where
    between : Dec (m ≤ n) → (j : ℕ) × WholePeriods s t j
    between (yes l) =
        let k : suc m * (g + q) ≤ (n + (0 + 2)) * (g + q) = mul-le-mul_right (g + q) (omega arith) in
        (0, record { full = omega arith; rest = rest_most s t n 0 a (omega arith) })
    between (no l) =
        let j : ℕ = m - suc n in
        let k : suc n * (g + q) + j * (g + q) ≡ m * (g + q) = sym (add-mul (suc n) j (g + q)) ∙ ap (λ (x : ℕ). x * (g + q)) (omega arith) in
        let k' : suc m ≡ n + (j + 2) = omega arith in
        (j, record { full = omega (arith, periods_least (suc n) j, given_inside A s t (suc n * (g + q)) (j * (g + q)) b (omega arith)); rest = rest_most s t n j a (rw k' at e) })

  whole_periods : 1 ≤ q → (s t : ℕ) → (j : ℕ) × WholePeriods s t j
  whole_periods h s t =
      between s t (s / (g + q)) ((s + t) / (g + q)) (low s) (high s) (low (s + t)) (high (s + t)) (dec_le _ _)
    where
      low : (y : ℕ) → y / (g + q) * (g + q) ≤ y
      low y = omega (arith, div-add-mod' y (g + q))

      high : (y : ℕ) → y ≤ suc (y / (g + q)) * (g + q)
      high y = omega (arith, lt-div-mul-add {a = y} {b = g + q} (omega arith))

  -- a window in which fewer than x ticks are given is too short for a supply of x
  fewer_short : 1 ≤ q → (s t x : ℕ) → given A s t < x → t < reach (g + q) q x
  unfolding reach
  fewer_short h s t x l =
      let w = whole_periods h s t in
      rw (add-sub_cancel g q) (go w.0 w.1 (dec_lt w.0 (ceil_div x q)))
    where
      go : (j : ℕ) → WholePeriods s t j → Dec (j < ceil_div x q) → t < x + (ceil_div x q + 1) * g
      go j w (yes k) = omega (arith, w.rest, mul-le-mul_right g k)
      go j w (no k) =
          let k' : ceil_div x q ≤ j = omega arith in
          absurd (omega (arith, w.full, ceil_covers x q h, mul-le-mul_right q k'))

module _ (P Q t : ℕ) (h : 1 ≤ Q) (b : Q ≤ P) where
  -- no window has fewer given ticks than the supply
  pub supply_le_given : (A : Assignment) → ((n : ℕ) → Q ≤ given A (n * P) P) → (s : ℕ) → supply_of P Q t ≤ given A s t
  supply_le_given A d s = go (dec_le (supply_of P Q t) (given A s t))
    where
      e : P - Q + Q ≡ P
      e = sub-add_cancel b

      go : Dec (supply_of P Q t ≤ given A s t) → supply_of P Q t ≤ given A s t
      go (yes l) = l
      go (no l) =
          let short : t < reach P Q (supply_of P Q t) = rw e at (fewer_short (P - Q) Q A (rw e d) h s t (supply_of P Q t) (omega arith)) in
          absurd (omega (arith, reach_needed P Q t (supply_of P Q t) h b (omega arith) (le_refl _)))

  pub supply_le_delivered : (A : Assignment) → Delivers P Q A → (s : ℕ) → supply_of P Q t ≤ given A s t
  supply_le_delivered A d = supply_le_given A (λ n. le_of_eq (sym (d n)))
