-- What the rows or tasks before one ask is the same whether they are counted up or down: the greatest of a list is that of the list reversed.
-- Assumes nothing.
use Prim.Native.Nat.{ℕ, suc, ◌+◌, max}
use native.Mathlib.Omega.{arith}
use mathlib.Core.Path.{◌≡◌, ap, ◌∙◌}
use mathlib.Core.List.{List, [], ◌∷◌, map, reverse, reverse_aux}
use lib.ListN.{length, length-reverse}
use Rattle.least.specs.Lists.{greatest}
use Rattle.task_set.specs.declared.Task.{Task}
use Rattle.task_set.specs.Blocking.{Setting, blocked_by, blocking_of}
use Rattle.load.specs.declared.Row.{Row}
use Rattle.load.specs.Load.{row_sum, demand_of, load_at}

module _ {A : Type 0} where
  greatest_onto : (f : A → ℕ) (xs ys : List A) → greatest (map f (reverse_aux xs ys)) ≡ max (greatest (map f xs)) (greatest (map f ys))
  unfolding greatest
  greatest_onto f [] ys = omega arith
  greatest_onto f (x ∷ xs) ys = omega (arith, greatest_onto f xs (x ∷ ys))

  greatest_reverse : (f : A → ℕ) (xs : List A) → greatest (map f (reverse xs)) ≡ greatest (map f xs)
  unfolding greatest
  greatest_reverse f xs = omega (arith, greatest_onto f xs [])

pub blocking_reverse : (m : ℕ) (σ : Setting) (lower : List Task) → blocking_of m σ (reverse lower) ≡ blocking_of m σ lower
unfolding blocking_of
blocking_reverse m σ lower =
    greatest_reverse (blocked_by m σ (suc (length (reverse lower)))) lower ∙ ap (λ (n : ℕ). greatest (map (blocked_by m σ (suc n)) lower)) (length-reverse lower)

pub load_at-reverse : (lower : List Row) (s : Row) (higher : List Row) (t : ℕ) → load_at (reverse lower) s higher t ≡ load_at lower s higher t
unfolding load_at
load_at-reverse lower s higher t = ap (λ (n : ℕ). row_sum s + demand_of higher t + n) (greatest_reverse (λ k. k.holding) lower)
