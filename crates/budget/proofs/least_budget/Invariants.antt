-- `budget::least_budget` meets its contract. The invariant: the least budget is from low to high, and with no budget from low up to high is the need met
-- before `begin`; what is known to pass is high, if anything does.
-- Assumes nothing.
use Prim.Native.Nat.{◌-◌}
use Rattle.budget.specs.Code.Passing.{due_task, above}
use Rattle.budget.proofs.Narrow.{Narrowed}
use Rattle.budget.proofs.least_budget.Given as goal

abbrev pub invariant-loop-low : goal.invariant-loop-low
invariant-loop-low l = Narrowed l.period l.q l.b (due_task l.tasks.costs l.i l.deadline) (above l.tasks l.i) l.least l.begin l.low l.high

abbrev pub decreases-loop-low : goal.decreases-loop-low
decreases-loop-low l = l.high - l.low
