-- An array that is filled from the front, over any type of element.
--   Filled d g n xs i == xs has n places, of which the first i hold the values of g
-- Assumes nothing.
use Prim.Native.Nat.{ℕ, ◌+◌, ◌<◌}
use native.Mathlib.Omega.{arith}
use native.Mathlib.Decide.{ℕ_discrete}
use mathlib.Core.Path.{◌≡◌, ◌∙◌}
use mathlib.Core.List.{List}
use lib.ListN.{length, get_or, set, length-set}
use lib.Seq.{get_or-set_same, get_or-set_other}

pub record Filled {A : Type 0} (d : A) (g : ℕ → A) (n : ℕ) (xs : List A) (i : ℕ) : Type 0 where
  pub room : length xs ≡ n
  pub each : (k : ℕ) → k < i → get_or xs k d ≡ g k

module _ {A : Type 0} (d : A) (g : ℕ → A) (n : ℕ) where
  pub fill_step : (xs : List A) (i : ℕ) (v : A) → Filled d g n xs i → i < n → v ≡ g i → Filled d g n (set xs i v) (i + 1)
  fill_step xs i v f l e = record { room = length-set xs i v ∙ f.room; each = λ k h. at k h (ℕ_discrete k i) }
    where
      at : (k : ℕ) → k < i + 1 → Dec (k ≡ i) → get_or (set xs i v) k d ≡ g k
      at k h (yes q) = rw q (get_or-set_same xs i v d (omega (arith, f.room)) ∙ e)
      at k h (no q) = get_or-set_other xs i k v d q ∙ f.each k (omega arith)
