-- `planning::print_plan` meets its contract. What is measured is the listing of the plan; it is written if it fits. The invariant: the ceilings of the first k parts stand at their places.
-- Assumes nothing.
use Rattle.printing.proofs.Ceilings.{ShownTo}
use Rattle.planning.proofs.print_plan.Given as goal

abbrev pub invariant-loop-k : goal.invariant-loop-k
invariant-loop-k l = ShownTo l.f l.rows l.k l.ceilings
