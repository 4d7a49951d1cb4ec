-- `offers::rows_by` meets its contract.
-- Assumes nothing.
use native.Mathlib.Omega.{arith}
use Rattle.offers.proofs.Choosing.{rows_start, rows_step, rows_end}
use Rattle.offers.proofs.rows_by.Goals as goal

pub loop-k-init : goal.loop-k-init
loop-k-init c = rows_start c.args.chosen.now

pub loop-k-preserved : goal.loop-k-preserved
loop-k-preserved c = rows_step c.args.chosen.now c.loop-k.rows c.loop-k.k c.loop-k-test.true (omega arith) c.loop-k.invariant

pub returns : goal.returns
returns c =
    λ i. record { rows = (rows_end c.args.chosen.now c.loop-k.rows c.loop-k.k c.loop-k-test.false c.loop-k.invariant) i; count = c.args.chosen.now.workload.count }
