-- The least w with f w ≤ w, for a monotone f, by iteration. A value with no solution below it, from 1 or from any start on, steps to f of it,
-- which again has none below it, and jumps to any number that no solution from there on is below; where f w ≤ w it is the least solution.
-- Assumes nothing.
use Rattle.std.specs.Prelude.{Some, None}
use Prim.Native.Nat.{ℕ, ◌+◌, ◌≤◌, ◌<◌}
use native.Mathlib.Nat.{le_trans, lt_of_lt_of_le}
use native.Mathlib.Omega.{arith}
use native.Mathlib.Decide.{dec_lt}
use mathlib.Core.Path.{◌≡◌}
use mathlib.Core.Bool.{Bool}
use borrow.Author.Tests.{le-leb, lt-leb}
use lib.Dec.{leb}
use Rattle.least.specs.Search.{least_from}
use Rattle.least.proofs.Search.{NoneIn, least_at, least_nothing}

abbrev pub Mono : (ℕ → ℕ) → Type 0
Mono f = (v w : ℕ) → v ≤ w → f v ≤ f w

-- the test f w ≤ w
abbrev pub settles : (ℕ → ℕ) → ℕ → Bool
settles f w = leb (f w) w

-- no v with a ≤ v < w solves f v ≤ v
abbrev pub UnsolvedFrom : ℕ → (ℕ → ℕ) → ℕ → Type 0
UnsolvedFrom a f w = (v : ℕ) → a ≤ v → v < w → v < f v

-- the same of the numbers from 1 on
abbrev pub Unsolved : (ℕ → ℕ) → ℕ → Type 0
Unsolved f w = UnsolvedFrom 1 f w

-- a start: what every value of f reaches
pub start_unsolved : (f : ℕ → ℕ) (g : ℕ) → ((v : ℕ) → g ≤ f v) → Unsolved f g
start_unsolved f g low v l h = lt_of_lt_of_le h (low v)

-- a step, to f w or to anything below it
pub step_from : (a : ℕ) (f : ℕ → ℕ) (w x : ℕ) → Mono f → UnsolvedFrom a f w → x ≤ f w → UnsolvedFrom a f x
step_from a f w x mono uns s v l h = go (dec_lt v w)
  where
    go : Dec (v < w) → v < f v
    go (yes q) = uns v l q
    go (no q) = lt_of_lt_of_le h (le_trans s (mono w v (omega arith)))

-- a jump: no solution from w and x on, where x is a step, is below y
pub jump_from : (a : ℕ) (f : ℕ → ℕ) (w x y : ℕ) → Mono f → UnsolvedFrom a f w → x ≤ f w → ((v : ℕ) → w ≤ v → x ≤ v → f v ≤ v → y ≤ v) → UnsolvedFrom a f y
jump_from a f w x y mono uns s far v l h = go (dec_lt v w) (dec_lt v (f v))
  where
    go : Dec (v < w) → Dec (v < f v) → v < f v
    go (yes q) d = uns v l q
    go (no q) (yes r) = r
    go (no q) (no r) = absurd (omega (arith, mono w v (omega arith), far v (omega arith) (omega (arith, mono w v (omega arith))) (omega arith)))

pub step_unsolved : (f : ℕ → ℕ) (w x : ℕ) → Mono f → Unsolved f w → x ≤ f w → Unsolved f x
step_unsolved f w x mono uns s = step_from 1 f w x mono uns s

pub jump_unsolved : (f : ℕ → ℕ) (w x y : ℕ) → Mono f → Unsolved f w → x ≤ f w → ((v : ℕ) → w ≤ v → x ≤ v → f v ≤ v → y ≤ v) → Unsolved f y
jump_unsolved f w x y mono uns s far = jump_from 1 f w x y mono uns s far

none_settles : (a : ℕ) (f : ℕ → ℕ) (w e : ℕ) → UnsolvedFrom a f w → e ≤ w → NoneIn (settles f) a e
none_settles a f w e uns l v p h = lt-leb (f v) v (uns v p (omega arith))

-- past the n numbers from a on: none of them is a solution
pub past_from : (a n : ℕ) (f : ℕ → ℕ) (w : ℕ) → UnsolvedFrom a f w → a + n ≤ w → least_from (settles f) a n ≡ None
past_from a n f w uns l = least_nothing (settles f) n a (none_settles a f w (a + n) uns l)

-- at rest among them: it is the least solution
pub rest_from : (a n : ℕ) (f : ℕ → ℕ) (w : ℕ) → UnsolvedFrom a f w → a ≤ w → w < a + n → f w ≤ w → least_from (settles f) a n ≡ Some w
rest_from a n f w uns p l h =
    least_at (settles f) n a w (record { from = p; below = l; passes = le-leb (f w) w h; before = none_settles a f w w uns (omega arith) })

-- the same of the numbers from 1 to a limit
pub past_limit : (f : ℕ → ℕ) (w limit : ℕ) → Unsolved f w → limit < w → least_from (settles f) 1 limit ≡ None
past_limit f w limit uns l = past_from 1 limit f w uns (omega arith)

pub at_rest : (f : ℕ → ℕ) (w limit : ℕ) → Unsolved f w → 1 ≤ w → w ≤ limit → f w ≤ w → least_from (settles f) 1 limit ≡ Some w
at_rest f w limit uns p l h = rest_from 1 limit f w uns p (omega arith) h
