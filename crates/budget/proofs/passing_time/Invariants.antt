-- `budget::passing_time` meets its contract. The invariant: at no time below t is the need met.
-- Assumes nothing.
use Prim.Native.Nat.{◌+◌, ◌-◌, ◌≤◌}
use Rattle.least.proofs.Iterate.{Unsolved}
use Rattle.budget.specs.Code.Passing.{due_task, above}
use Rattle.budget.proofs.Iteration.{ticks}
use Rattle.budget.proofs.passing_time.Given as goal

abbrev pub invariant-loop-t : goal.invariant-loop-t
invariant-loop-t l = (1 ≤ l.t) × Unsolved (ticks l.period l.q l.b (due_task l.tasks.costs l.i l.deadline) (above l.tasks l.i)) l.t

abbrev pub decreases-loop-t : goal.decreases-loop-t
decreases-loop-t l = l.deadline + 1 - l.t
