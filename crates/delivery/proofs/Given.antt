-- Laws of given ticks: windows one behind another, a window inside another one, two assignments in one window, and whole periods.
-- Assumes nothing.
use Prim.Native.Nat.{ℕ, zero, suc, ◌+◌, ◌-◌, ◌*◌, ◌≤◌, ◌<◌}
use native.Mathlib.Nat.{suc-add, add-suc, add-zero, zero-add, suc-mul, zero-mul}
use native.Mathlib.Omega.{arith}
use mathlib.Core.Path.{◌≡◌, refl, sym, ap, ◌∙◌}
use mathlib.Core.Bool.{Bool, true, false, cond}
use mathlib.Core.List.{◌∷◌}
use lib.ListN.{length}
use Rattle.least.specs.Lists.{count_from, those}
use Rattle.least.proofs.Lists.{those_pass, those_fail}
use Rattle.delivery.specs.Assignment.{Assignment, given, Delivers}

-- a tick as a number
abbrev pub tick : Bool → ℕ
tick b = cond b 1 0

pub tick_le : (b : Bool) → tick b ≤ 1
tick_le true = omega arith
tick_le false = omega arith

module _ (A : Assignment) where
  pub given_none : (s : ℕ) → given A s 0 ≡ 0
  unfolding given count_from those
  given_none s = refl

  pub given_first : (s t : ℕ) → given A s (suc t) ≡ tick (A s) + given A (suc s) t
  unfolding given count_from
  given_first s t = go (A s) refl
    where
      go : (b : Bool) → A s ≡ b → length (those A (s ∷ count_from (suc s) t)) ≡ tick b + length (those A (count_from (suc s) t))
      go true e = rw (those_pass A s (count_from (suc s) t) e) (omega arith)
      go false e = rw (those_fail A s (count_from (suc s) t) e) (omega arith)

  pub given_le : (s t : ℕ) → given A s t ≤ t
  given_le s zero = omega (arith, given_none s)
  given_le s (suc t) = omega (arith, given_first s t, tick_le (A s), given_le (suc s) t)

  pub given_append : (s t u : ℕ) → given A s (t + u) ≡ given A s t + given A (s + t) u
  given_append s zero u = rw (zero-add u, add-zero s) (omega (arith, given_none s))
  given_append s (suc t) u =
      let ih : given A (suc s) (t + u) ≡ given A (suc s) t + given A (s + suc t) u = rw (suc-add s t, ← add-suc s t) at (given_append (suc s) t u) in
      rw (suc-add t u) (omega (arith, given_first s (t + u), given_first s t))

  pub given_last : (s t : ℕ) → given A s (suc t) ≡ given A s t + tick (A (s + t))
  given_last s t =
      let e : t + 1 ≡ suc t = omega arith in
      omega (arith, rw e at (given_append s t 1), given_first (s + t) 0, given_none (suc (s + t)))

  -- a window, by the ticks from 0 on
  pub given_window : (s t : ℕ) → given A 0 (s + t) ≡ given A 0 s + given A s t
  given_window s t = given_append 0 s t ∙ ap (λ (y : ℕ). given A 0 s + given A y t) (zero-add s)

  -- up to a later tick there are no fewer given ticks, and no fewer that are not given
  given_mono : (y z : ℕ) → y ≤ z → given A 0 y ≤ given A 0 z
  given_mono y z h =
      let e : y + (z - y) ≡ z = omega arith in
      omega (arith, rw e at (given_window y (z - y)))

  missed_mono : (y z : ℕ) → y ≤ z → given A 0 z + y ≤ given A 0 y + z
  missed_mono y z h =
      let e : y + (z - y) ≡ z = omega arith in
      omega (arith, rw e at (given_window y (z - y)), given_le y (z - y))

  -- a window inside another one has no more given ticks, and no more that are not given
  module _ (s t y u : ℕ) (a : s ≤ y) (b : y + u ≤ s + t) where
    pub given_inside : given A y u ≤ given A s t
    given_inside = omega (arith, given_window y u, given_window s t, given_mono s y a, given_mono (y + u) (s + t) b)

    pub missed_inside : given A s t + u ≤ given A y u + t
    missed_inside = omega (arith, given_window y u, given_window s t, missed_mono s y a, missed_mono (y + u) (s + t) b)

  -- a window that is given whole is given whole from its start on
  pub given_whole : (s t u : ℕ) → t ≤ u → given A s u ≡ u → given A s t ≡ t
  given_whole s t u h w = omega (arith, missed_inside s u s t (omega arith) (omega arith), given_le s t)

  pub given_never : ((y : ℕ) → tick (A y) ≡ 0) → (s t : ℕ) → given A s t ≡ 0
  given_never h s zero = given_none s
  given_never h s (suc t) = omega (arith, given_first s t, h s, given_never h (suc s) t)

module _ (A B : Assignment) where
  -- only the ticks of the window count
  pub given_same_in : (s t : ℕ) → ((y : ℕ) → s ≤ y → y < s + t → A y ≡ B y) → given A s t ≡ given B s t
  given_same_in s zero h = given_none A s ∙ sym (given_none B s)
  given_same_in s (suc t) h =
      omega (arith, given_first A s t, given_first B s t, ap tick (h s (omega arith) (omega arith)), given_same_in (suc s) t (λ y l m. h y (omega arith) (omega arith)))

  pub given_same : ((y : ℕ) → A y ≡ B y) → (s t : ℕ) → given A s t ≡ given B s t
  given_same h s t = given_same_in s t (λ y l m. h y)

  -- ticks that one or the other of two has, never both
  pub given_both : (C : Assignment) → ((y : ℕ) → tick (C y) ≡ tick (A y) + tick (B y)) → (s t : ℕ) → given C s t ≡ given A s t + given B s t
  given_both C h s zero = omega (arith, given_none A s, given_none B s, given_none C s)
  given_both C h s (suc t) = omega (arith, given_first A s t, given_first B s t, given_first C s t, h s, given_both C h (suc s) t)

-- the first n periods
pub given_periods : (P Q : ℕ) (A : Assignment) → Delivers P Q A → (n : ℕ) → given A 0 (n * P) ≡ n * Q
given_periods P Q A d zero = rw (zero-mul P, zero-mul Q) (given_none A 0)
given_periods P Q A d (suc n) =
    let e : suc n * P ≡ n * P + P = suc-mul n P in
    rw e (omega (arith, given_window A (n * P) P, d n, given_periods P Q A d n, suc-mul n Q))

pub periods_delivered : (P Q : ℕ) (A : Assignment) → ((n : ℕ) → given A 0 (n * P) ≡ n * Q) → Delivers P Q A
periods_delivered P Q A f n =
    let e : given A 0 (n * P + P) ≡ suc n * Q = rw (suc-mul n P) at (f (suc n)) in
    omega (arith, given_window A (n * P) P, f n, suc-mul n Q)
