-- A budget that is delivered early in the first period and late in every one after it: exactly Q ticks in each period, and behind the first Q of them just the supply.
-- Assumes nothing.
use Prim.Native.Nat.{ℕ, zero, suc, ◌+◌, ◌-◌, ◌*◌, ◌/◌, ◌%◌, min, ◌≤◌, ◌<◌}
use native.Mathlib.Nat.{zero-add, zero-mul, div-add-mod', mod-lt, mul-le-mul_right, mul-add-mod_self_right, mod-eq_of_lt, add-sub_cancel, sub-add_cancel}
use native.Mathlib.Omega.{arith}
use native.Mathlib.Decide.{dec_le}
use mathlib.Core.Path.{◌≡◌, refl, ap, ◌∙◌}
use mathlib.Core.Bool.{Bool, true, false}
use lib.Dec.{leb, ltb}
use borrow.Author.Tests.{lt-ltb, le-ltb, ltb-true, ltb-false, leb-true, leb-false}
use Rattle.least.specs.Round.{ceil_div}
use Rattle.least.proofs.Round.{ceil_least}
use Rattle.supply.specs.Supply.{supply_of}
use Rattle.supply.proofs.SupplyLaws.{reach, reach_enough}
use Rattle.delivery.specs.Assignment.{Assignment, given, Delivers}
use Rattle.first_principles.specs.FirstPrinciples.{early_then_late}
use Rattle.delivery.proofs.Given.{tick, given_none, given_last, given_window, given_periods}
use Rattle.first_principles.proofs.Windows.{supply_le_delivered}

-- of the first r ticks min r q are below q, and r − g from g on: with the next tick there is one more, if it is such a tick
tick_min : (r q : ℕ) → min r q + tick (ltb r q) ≡ min (suc r) q
tick_min r q = go (ltb r q) refl
  where
    go : (b : Bool) → ltb r q ≡ b → min r q + tick b ≡ min (suc r) q
    go true e = omega (arith, ltb-true r q e)
    go false e = omega (arith, ltb-false r q e)

tick_sub : (g r : ℕ) → r - g + tick (leb g r) ≡ suc r - g
tick_sub g r = go (leb g r) refl
  where
    go : (b : Bool) → leb g r ≡ b → r - g + tick b ≡ suc r - g
    go true e = omega (arith, leb-true g r e)
    go false e = omega (arith, leb-false g r e)

-- with g = P − Q and q = Q
module _ (g q : ℕ) (h : 1 ≤ q) where
  abbrev worst : Assignment
  worst = early_then_late (g + q) q

  worst_early : (y : ℕ) → y < g + q → worst y ≡ ltb y q
  unfolding early_then_late
  worst_early y l = rw (lt-ltb y (g + q) l) refl

  worst_late : (m r : ℕ) → 1 ≤ m → r < g + q → worst (m * (g + q) + r) ≡ leb g r
  unfolding early_then_late
  worst_late m r k l =
      let p : g + q ≤ m * (g + q) + r = omega (arith, mul-le-mul_right (g + q) k) in
      rw (le-ltb (m * (g + q) + r) (g + q) p, add-sub_cancel g q, mul-add-mod_self_right m (g + q) r, mod-eq_of_lt l) refl

  early_given : (r : ℕ) → r ≤ g + q → given worst 0 r ≡ min r q
  early_given zero l = omega (arith, given_none worst 0)
  early_given (suc r) l =
      let e : tick (worst (0 + r)) ≡ tick (ltb r q) = ap (λ (y : ℕ). tick (worst y)) (zero-add r) ∙ ap tick (worst_early r l) in
      omega (arith, given_last worst 0 r, early_given r (omega arith), tick_min r q)

  late_given : (m r : ℕ) → 1 ≤ m → r ≤ g + q → given worst (m * (g + q)) r ≡ r - g
  late_given m zero k l = omega (arith, given_none worst (m * (g + q)))
  late_given m (suc r) k l =
      omega (arith, given_last worst (m * (g + q)) r, late_given m r k (omega arith), ap tick (worst_late m r k l), tick_sub g r)

  worst_delivers : Delivers (g + q) q worst
  worst_delivers zero = ap (λ (y : ℕ). given worst y (g + q)) (zero-mul (g + q)) ∙ early_given (g + q) (omega arith) ∙ omega arith
  worst_delivers (suc n) = late_given (suc n) (g + q) (omega arith) (omega arith) ∙ omega arith

  -- a window from q on that ends in the first period
  worst_none : (t : ℕ) → q + t < g + q → given worst q t ≡ 0
  worst_none t l = omega (arith, given_window worst q t, early_given (q + t) (omega arith), early_given q (omega arith))

  -- one that ends r ticks into a later period
  module _ (t m r : ℕ) (e : suc m * (g + q) + r ≡ q + t) (l : r < g + q) where
    worst_count : given worst q t ≡ m * q + (r - g)
    worst_count =
        let w : given worst 0 (suc m * (g + q) + r) ≡ given worst 0 q + given worst q t = rw (← e) at (given_window worst q t) in
        omega (arith, given_window worst (suc m * (g + q)) r, given_periods (g + q) q worst worst_delivers (suc m), late_given (suc m) r (omega arith) (omega arith), early_given q (omega arith))

    -- it is long enough for a supply of as many ticks
    worst_long : reach (g + q) q (m * q + (r - g)) ≤ t
    unfolding reach
    worst_long = rw (add-sub_cancel g q) (go (dec_le r g))
      where
        go : Dec (r ≤ g) → m * q + (r - g) + (ceil_div (m * q + (r - g)) q + 1) * g ≤ t
        go (yes k) = omega (arith, mul-le-mul_right g (ceil_least (m * q + (r - g)) q m h (omega arith)))
        go (no k) = omega (arith, mul-le-mul_right g (ceil_least (m * q + (r - g)) q (suc m) h (omega arith)))

  worst_most : (t : ℕ) → given worst q t ≤ supply_of (g + q) q t
  worst_most t = go ((q + t) / (g + q)) (div-add-mod' (q + t) (g + q))
    where
      below : (q + t) % (g + q) < g + q
      below = mod-lt (q + t) (omega arith)

      go : (m : ℕ) → m * (g + q) + (q + t) % (g + q) ≡ q + t → given worst q t ≤ supply_of (g + q) q t
      go zero e = omega (arith, worst_none t (omega (arith, below)))
      go (suc m) e =
          rw (worst_count t m _ e below) (reach_enough (g + q) q t _ h (omega arith) (worst_long t m _ e below))

pub early_delivers : (P Q : ℕ) → 1 ≤ Q → Q ≤ P → Delivers P Q (early_then_late P Q)
early_delivers P Q h b = rw (sub-add_cancel b) at (worst_delivers (P - Q) Q h)

-- in the window of t ticks from tick Q on
pub early_is_supply : (P Q t : ℕ) → 1 ≤ Q → Q ≤ P → given (early_then_late P Q) Q t ≡ supply_of P Q t
early_is_supply P Q t h b =
    let most : given (early_then_late P Q) Q t ≤ supply_of P Q t = rw (sub-add_cancel b) at (worst_most (P - Q) Q h t) in
    omega (arith, supply_le_delivered P Q t h b (early_then_late P Q) (early_delivers P Q h b) Q)
