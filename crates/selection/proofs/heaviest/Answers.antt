-- `selection::heaviest` meets its contract. The invariant: the bound and the blocking are those of a row before s that reaches the greatest bound so far,
-- and the row at the place s is blocked as `below` says.
-- Assumes nothing.
use Prim.Native.Nat.{◌<◌}
use native.Mathlib.Omega.{arith}
use Rattle.load.specs.Code.ByColumn.{rows_by}
use Rattle.load.proofs.RowsBy.{rows_length, blocking_none, blocking_next}
use Rattle.selection.proofs.Leading.{ahead_as, ahead_start, ahead_stays, ahead_goes, ahead_fine, bound_is, reaches_true, reaches_false, heaviest_of_all}
use Rattle.selection.proofs.heaviest.Goals as goal
use Rattle.selection.proofs.heaviest.Goals.{else-reaches, then-reaches}

pub loop-s-init : goal.loop-s-init
loop-s-init c =
    let columns = c.args.columns.now in
    (ahead_start columns c.bound_of-bound.result c.requires c.bound_of-bound.ensures, omega (arith, blocking_none columns, blocking_next columns 0 c.requires), columns.fine.holdings_most 0 c.requires)

pub reaches-requires : goal.reaches-requires
reaches-requires c =
    let l = c.loop-s in
    let h : l.s < c.args.columns.now.workload.count = omega arith in
    let columns = c.args.columns.now in
    let f = columns.fine.demand in
    (f, f.fine.some l.s h, f.fine.most l.s h, omega (arith, columns.fine.some l.s h), omega (arith, f.most l.s h), ahead_fine columns l.s l.bound l.blocking (omega arith) l.invariant.0)

pub loop-s-preserved : goal.loop-s-preserved
loop-s-preserved c =
    let columns = c.args.columns.now in
    let l = c.loop-s in
    let h : l.s < columns.workload.count = omega arith in
    let held = l.invariant.1 in
    let r = c.reaches in (
      elim c.if-reaches.branch [
        | then-reaches w ↦
            ahead_as (rows_by columns) _ w.bound-is w.blocking-is
            (ahead_goes (rows_by columns) l.s l.bound l.blocking l.invariant.0 _ l.below (bound_is columns l.s l.below _ h held w.bound_of-bound-then-reaches.ensures) held (omega (arith, rows_length columns)) (reaches_true columns l.bound l.s l.below r.result h held r.ensures w.if-reaches.true))
        | else-reaches w ↦
            ahead_as (rows_by columns) _ w.bound-is w.blocking-is (ahead_stays (rows_by columns) l.s l.bound l.blocking l.invariant.0 (reaches_false columns l.bound l.s l.below r.result h held r.ensures w.if-reaches.false))
      ],
      omega (arith, held, blocking_next columns l.s h),
      omega (arith, columns.fine.holdings_most l.s h),
    )

pub returns : goal.returns
returns c =
    let l = c.loop-s in
    heaviest_of_all c.args.columns.now l.s l.bound l.blocking (omega arith) l.invariant.0
