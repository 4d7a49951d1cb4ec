-- `candidates::budget_under` meets its contract. The invariant: from this budget on, the tasks that are left give the same answer; the places behind
-- them hold the blockings; and the need of the task above them is not met before `time`.
-- Assumes nothing.
use Rattle.candidates.proofs.Budgets.{Lowered}
use Rattle.candidates.proofs.Starts.{Carried}
use Rattle.candidates.proofs.budget_under.Given as goal

abbrev pub invariant-loop-k : goal.invariant-loop-k
invariant-loop-k l =
    Lowered l.tables l.ceilings l.last l.k l.passing × Carried l.tables.columns.times l.tables.columns.deadlines l.tables.period l.k l.passing.budget l.above l.time
