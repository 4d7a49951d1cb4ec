-- `layout::place_in` meets its contract. The invariant: of the first ticks those that the part gets are its own, and `left` are left of its budget.
-- Assumes nothing.
use Rattle.layout.proofs.Placing.{Placing}
use Rattle.layout.proofs.place_in.Given as goal

abbrev pub invariant-loop-tick : goal.invariant-loop-tick
invariant-loop-tick l = Placing l.initial.ticks l.budget l.k l.tick-index l.left l.ticks
