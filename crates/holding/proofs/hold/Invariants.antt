-- `holding::hold` meets its contract. The invariant: no number below w is a solution. A step and a jump keep it, at rest w is the least, and past the limit
-- there is none.
-- Assumes nothing.
use Prim.Native.Nat.{◌+◌, ◌-◌, ◌≤◌}
use Rattle.least.proofs.Iterate.{Unsolved}
use Rattle.task_set.specs.Code.ByColumn.{times_of}
use Rattle.holding.proofs.Iteration.{hold_need}
use Rattle.holding.proofs.hold.Given as goal

abbrev pub invariant-loop-w : goal.invariant-loop-w
invariant-loop-w l = (1 ≤ l.w) × Unsolved (hold_need (times_of l.tasks) l.g l.r) l.w

abbrev pub decreases-loop-w : goal.decreases-loop-w
decreases-loop-w l = l.limit + 1 - l.w
