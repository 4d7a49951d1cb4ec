-- `layout::place` meets its contract. The invariant: the part has its ticks of the periods before `from`, which is where one begins.
-- Assumes nothing.
use Rattle.layout.proofs.Placing.{PeriodsPlaced}
use Rattle.layout.proofs.place.Given as goal

abbrev pub invariant-loop-from : goal.invariant-loop-from
invariant-loop-from l = PeriodsPlaced l.initial.out l.period l.budget l.k l.from l.out
