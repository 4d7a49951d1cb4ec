-- `load::likely` meets its contract. The invariant: the ratio so far is attained, or 1/1.
-- Assumes nothing.
use native.Mathlib.Nat.{div-mul-le_self}
use native.Mathlib.Omega.{arith}
use lib.ListN.{get_or}
use Rattle.load.proofs.BoundBy.{lower_next}
use Rattle.load.proofs.likely.Goals as goal

pub loop-k-preserved : goal.loop-k-preserved
loop-k-preserved c =
    let a = c.args in
    lower_next a.rows.now a.s a.own _ a.period _ c.loop-k.best _ (omega arith)
    (omega (arith, c.max-t.ensures, div-mul-le_self a.period (get_or a.rows.now.periods c.loop-k.k 0))) c.loop-k.invariant c.better-best-in-loop-k.ensures
