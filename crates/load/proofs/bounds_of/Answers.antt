-- `load::bounds_of` meets its contract. The invariant: the first s places hold their rows' bounds, and the row at the place s is blocked as `blocking` says.
-- Assumes nothing.
use native.Mathlib.Omega.{arith}
use mathlib.Core.Path.{sym, ap, ◌∙◌}
use lib.Seq.{take_all}
use Rattle.least.specs.Lists.{pad}
use Rattle.load.specs.Load.{bounds_of}
use Rattle.load.specs.Code.ByColumn.{rows_by}
use Rattle.load.specs.Code.Rows.{no_frac}
use Rattle.load.proofs.Load.{bounds_of-length}
use Rattle.load.proofs.RowsBy.{rows_length, blocking_none, blocking_next, bounds_start, bounds_next}
use Rattle.load.proofs.bounds_of.Goals as goal

pub loop-s-init : goal.loop-s-init
loop-s-init c = let columns = c.args.columns.now in (bounds_start columns, sym (blocking_none columns), omega arith)

pub loop-s-preserved : goal.loop-s-preserved
loop-s-preserved c =
    let columns = c.args.columns.now in
    let at = c.loop-s in
    let next = bounds_next columns at.s c.bound_of.result (omega arith) (rw (← at.invariant.1) c.bound_of.ensures) in
    (rw at.invariant.0 next, omega (arith, at.invariant.1, blocking_next columns at.s (omega arith)), omega (arith, columns.fine.holdings_most at.s))

pub returns : goal.returns
returns c =
    let at = c.loop-s in
    let R = rows_by c.args.columns.now in
    at.invariant.0 ∙ ap (pad 16 no_frac) (take_all at.s (bounds_of R) (omega (arith, bounds_of-length R, rows_length c.args.columns.now)))
