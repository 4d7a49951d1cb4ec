-- A list that is made place by place: f 0, f 1, .., f (n - 1).
-- Assumes nothing.
use Prim.Native.Nat.{ℕ, zero, suc, ◌+◌, ◌<◌}
use native.Mathlib.Omega.{arith}
use mathlib.Core.Path.{◌≡◌, refl, ap, ◌∙◌}
use mathlib.Core.List.{map}
use lib.ListN.{length, get_or, length-map}
use Rattle.least.specs.Lists.{count_from}
use Rattle.least.proofs.Sums.{length_count}

module _ {A : Type 0} (f : ℕ → A) where
  from_get : (d : A) (k a n : ℕ) → k < n → get_or (map f (count_from a n)) k d ≡ f (a + k)
  unfolding count_from
  from_get d k a zero h = absurd (omega arith)
  from_get d zero a (suc n) h = let e : a + 0 ≡ a = omega arith in rw e refl
  from_get d (suc k) a (suc n) h = let e : a + suc k ≡ suc a + k = omega arith in rw e (from_get d k (suc a) n (omega arith))

  pub column_length : (n : ℕ) → length (map f (count_from 0 n)) ≡ n
  column_length n = length-map (count_from 0 n) f ∙ length_count n 0

  pub column_get : (d : A) (k n : ℕ) → k < n → get_or (map f (count_from 0 n)) k d ≡ f k
  column_get d k n h = let e : 0 + k ≡ k = omega arith in from_get d k 0 n h ∙ ap f e
