-- `load::further` meets its contract. The invariant: the ratio so far is attained, or `here`, and m strides end within the period.
-- Assumes nothing.
use Prim.Native.Nat.{◌+◌, ◌*◌, ◌≤◌}
use Rattle.load.specs.Code.ByColumn.{LowerIs}
use Rattle.load.proofs.further.Given as goal

abbrev pub invariant-loop-m : goal.invariant-loop-m
invariant-loop-m l = LowerIs l.rows l.s l.period l.own l.here l.best × (l.here.den + l.m * l.stride ≤ l.period)

abbrev pub decreases-loop-m : goal.decreases-loop-m
decreases-loop-m l = l.m
