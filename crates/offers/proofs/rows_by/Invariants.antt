-- `offers::rows_by` meets its contract. The invariant: the first k rows stand there.
-- Assumes nothing.
use mathlib.Core.Path.{◌≡◌}
use lib.ListN.{take}
use Rattle.least.specs.Lists.{pad}
use Rattle.load.specs.Load.{row}
use Rattle.load.specs.Code.ByColumn.{rows_by}
use Rattle.offers.proofs.rows_by.Given as goal

abbrev pub invariant-loop-k : goal.invariant-loop-k
invariant-loop-k l = l.rows ≡ pad 16 (row 0 0 0) (take l.k (rows_by l.chosen))
