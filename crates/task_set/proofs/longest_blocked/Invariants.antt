-- `task_set::longest_blocked` meets its contract. The invariant: the greatest so far and that of the locks that are left make up the whole.
-- Assumes nothing.
use Prim.Native.Nat.{ℕ, ◌+◌, ◌-◌, ◌*◌, max}
use mathlib.Core.Path.{◌≡◌}
use mathlib.Core.List.{List, map}
use lib.ListN.{get_or}
use Rattle.least.specs.Lists.{greatest, count_from}
use Rattle.task_set.specs.Code.ByLock.{blocked_for, blocking_by}
use Rattle.task_set.proofs.longest_blocked.Given as goal

-- what the lock at the place j blocks the task for
abbrev pub by : List ℕ → List ℕ → ℕ → ℕ → ℕ
by below ceilings i j = blocked_for (get_or ceilings j 0) (get_or below (8 * i + j) 0) i

-- the greatest of it over the locks from the place j on
abbrev pub left : List ℕ → List ℕ → ℕ → ℕ → ℕ → ℕ
left below ceilings m i j = greatest (map (by below ceilings i) (count_from j (m - j)))

abbrev pub invariant-loop-j : goal.invariant-loop-j
invariant-loop-j l = max l.greatest (left l.below l.ceilings l.m l.i l.j) ≡ blocking_by l.below l.ceilings l.m l.i
