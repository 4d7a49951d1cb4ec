-- `layout::lay_out` meets its contract. The invariant: the parts above the first k have their ticks.
-- Assumes nothing.
use Rattle.load.specs.Weigh.{rows_of}
use Rattle.layout.proofs.Laying.{LaidFrom}
use Rattle.layout.proofs.lay_out.Given as goal

abbrev pub invariant-loop-k : goal.invariant-loop-k
invariant-loop-k l = LaidFrom (rows_of l.rows) l.k l.initial.out l.out
