-- `holding::lowest_within` meets its contract. The invariant: the search from r on has come to the ceiling k and the time `start`.
-- Assumes nothing.
use Prim.Native.Nat.{◌≤◌}
use Rattle.task_set.specs.Code.ByColumn.{times_of}
use Rattle.holding.specs.Code.Search.{SearchedTo}
use Rattle.holding.proofs.lowest_within.Given as goal

abbrev pub invariant-loop-k : goal.invariant-loop-k
invariant-loop-k l = (l.r ≤ l.k) × SearchedTo (times_of l.tasks) l.g l.most l.r l.k l.start
