-- `load::further` meets its contract. The invariant: the ratio so far is attained, or `here`, and m strides end within the period.
-- Assumes nothing.
use Prim.Native.Nat.{◌/◌}
use native.Mathlib.Nat.{mul-le-mul_right}
use native.Mathlib.Omega.{arith}
use Rattle.load.proofs.BoundBy.{lower_next}
use Rattle.load.proofs.further.Goals as goal

pub loop-m-preserved : goal.loop-m-preserved
loop-m-preserved c =
    let a = c.args in
    let at = c.loop-m in
    (lower_next a.rows.now a.s a.own _ a.period _ at.best _ (omega arith) at.invariant.1 at.invariant.0 c.better-best.ensures, omega (arith, mul-le-mul_right {m = at.m / 2} {n = at.m} a.stride (omega arith)))
