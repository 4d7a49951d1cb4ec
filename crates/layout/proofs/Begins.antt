-- Beginnings of periods in a window: at most ⌈t/P⌉ among t ticks, wherever the window starts.
-- Assumes nothing.
use Prim.Native.Nat.{ℕ, zero, suc, ◌+◌, ◌*◌, ◌/◌, ◌%◌, ◌≤◌, ◌<◌}
use native.Mathlib.Nat.{suc-add, add-suc, add-zero, zero-add, mul-le-mul_right, div-add-mod', mul-mod_left, mod-add-mod, zero-mod}
use native.Mathlib.Omega.{arith}
use native.Mathlib.Decide.{dec_lt}
use mathlib.Core.Path.{◌≡◌, refl, sym, ap, ◌∙◌}
use mathlib.Core.Bool.{Bool, true, false}
use lib.Dec.{eqb}
use borrow.Author.Tests.{eq-eqb, eqb-true}
use Rattle.least.specs.Round.{ceil_div}
use Rattle.least.proofs.Round.{ceil_covers, ceil_least, ceil_mono}
use Rattle.delivery.specs.Assignment.{given}
use Rattle.layout.specs.Layout.{begins}
use Rattle.delivery.proofs.Given.{tick, given_none, given_first}

pub begins_start : (P : ℕ) → begins P 0 ≡ true
begins_start P = eq-eqb (0 % P) 0 (zero-mod P)

pub begins_multiple : (P n : ℕ) → begins P (n * P) ≡ true
begins_multiple P n = eq-eqb _ _ (mul-mod_left n P)

-- from a beginning on the beginnings are those from tick 0 on
pub begins_again : (P n : ℕ) → begins P n ≡ true → (y : ℕ) → begins P (n + y) ≡ begins P y
begins_again P n e y =
    let z : n % P ≡ 0 = eqb-true (n % P) 0 e in
    let m : (0 + y) % P ≡ (n + y) % P = rw z at (mod-add-mod n P y) in
    ap (λ (x : ℕ). eqb x 0) (sym m ∙ ap (λ (x : ℕ). x % P) (zero-add y))

pub ceil_self : (P : ℕ) → 1 ≤ P → ceil_div P P ≤ 1
ceil_self P h = ceil_least P P 1 h (omega arith)

module _ (P : ℕ) (h : 1 ≤ P) where
  -- at a multiple of P, ⌈y/P⌉ rises
  ceil_rises : (y : ℕ) → y % P ≡ 0 → ceil_div y P < ceil_div (suc y) P
  ceil_rises y e = go (dec_lt (ceil_div y P) (ceil_div (suc y) P))
    where
      low : ceil_div y P ≤ y / P
      low = ceil_least y P (y / P) h (omega (arith, div-add-mod' y P))

      go : Dec (ceil_div y P < ceil_div (suc y) P) → ceil_div y P < ceil_div (suc y) P
      go (yes l) = l
      go (no l) =
          let k : ceil_div (suc y) P ≤ y / P = omega (arith, low) in
          absurd (omega (arith, ceil_covers (suc y) P h, mul-le-mul_right P k, div-add-mod' y P))

  ceil_next : (y : ℕ) → ceil_div y P + tick (begins P y) ≤ ceil_div (suc y) P
  ceil_next y = go (begins P y) refl
    where
      go : (b : Bool) → begins P y ≡ b → ceil_div y P + tick b ≤ ceil_div (suc y) P
      go true e = omega (arith, ceil_rises y (eqb-true _ _ e))
      go false e = omega (arith, ceil_mono y (suc y) P h (omega arith))

  -- ⌈y/P⌉ rises at each beginning
  begins_ceil : (s t : ℕ) → ceil_div s P + given (begins P) s t ≤ ceil_div (s + t) P
  begins_ceil s zero = rw (add-zero s) (omega (arith, given_none (begins P) s))
  begins_ceil s (suc t) =
      rw (add-suc s t) (omega (arith, given_first (begins P) s t, ceil_next s, rw (suc-add s t) at (begins_ceil (suc s) t)))

  ceil_sum : (s t : ℕ) → ceil_div (s + t) P ≤ ceil_div s P + ceil_div t P
  ceil_sum s t = ceil_least (s + t) P (ceil_div s P + ceil_div t P) h (omega (arith, ceil_covers s P h, ceil_covers t P h))

  pub begins_most : (s t : ℕ) → given (begins P) s t ≤ ceil_div t P
  begins_most s t = omega (arith, begins_ceil s t, ceil_sum s t)
