-- `selection::first_reaching` meets its contract. The invariant: the bound of every row before s is below `best`, and the row at the place s is blocked
-- as `below` says.
-- Assumes nothing.
use mathlib.Core.Path.{sym}
use native.Mathlib.Omega.{arith}
use Rattle.load.proofs.RowsBy.{blocking_none, blocking_next}
use Rattle.selection.proofs.Leading.{stuck_here, stuck_next, stuck_nowhere}
use Rattle.selection.proofs.first_reaching.Goals as goal

pub loop-s-init : goal.loop-s-init
loop-s-init c = ((λ k l. absurd (omega arith)), sym (blocking_none c.args.columns.now), omega arith)

pub returns-then-reaches : goal.returns-then-reaches
returns-then-reaches c =
    let l = c.loop-s in
    stuck_here c.args.columns.now c.args.best l.s l.below c.reaches.result (omega arith) l.invariant.1 c.reaches.ensures c.if-reaches.true

pub loop-s-preserved : goal.loop-s-preserved
loop-s-preserved c =
    let columns = c.args.columns.now in
    let l = c.loop-s in (
      stuck_next columns c.args.best l.s l.below c.reaches.result (omega arith) l.invariant.1 c.reaches.ensures c.if-reaches.false l.invariant.0,
      omega (arith, l.invariant.1, blocking_next columns l.s (omega arith)),
      omega (arith, columns.fine.holdings_most l.s),
    )

pub returns : goal.returns
returns c = stuck_nowhere c.args.columns.now c.args.best c.loop-s.s (omega arith) c.loop-s.invariant.0
