-- `layout::first_out_of_cycle` meets its contract. The invariant: the periods of the first k rows divide the ticks of a cycle.
-- Assumes nothing.
use mathlib.Core.Bool.{not}
use Rattle.least.proofs.First.{NoneBefore}
use Rattle.load.specs.Weigh.{rows_of}
use Rattle.load.specs.Code.Rows.{no_row}
use Rattle.layout.specs.Layout.{in_cycle}
use Rattle.layout.proofs.first_out_of_cycle.Given as goal

abbrev pub invariant-loop-k : goal.invariant-loop-k
invariant-loop-k l = NoneBefore no_row (λ r. not (in_cycle r)) (rows_of l.rows) l.k
