-- `task_set::columns_of` meets its contract: each turn fills one place of the three columns.
-- Assumes nothing.
use Prim.Native.Nat.{ℕ}
use mathlib.Core.Path.{◌≡◌}
use lib.ListN.{get_or}
use Rattle.least.proofs.Fill.{Filled}
use Rattle.task_set.specs.declared.Part.{Part}
use Rattle.task_set.specs.Code.Fine.{blank_task}
use Rattle.task_set.proofs.columns_of.Given as goal

-- the columns
abbrev pub T : Part → ℕ → ℕ
T p k = (get_or p.tasks k blank_task).separation

abbrev pub C : Part → ℕ → ℕ
C p k = (get_or p.tasks k blank_task).cost

abbrev pub D : Part → ℕ → ℕ
D p k = (get_or p.tasks k blank_task).deadline

abbrev pub invariant-loop-k : goal.invariant-loop-k
invariant-loop-k l =
    Filled 0 (T l.part) 16 l.times.periods l.k × Filled 0 (C l.part) 16 l.times.costs l.k × Filled 0 (D l.part) 16 l.deadlines l.k × (l.times.count ≡ l.part.count)
