-- `load::bound_of` meets its contract. The invariant: no time up to `last` is looked for, and the ratio is the least so far or sought.
-- Assumes nothing.
use Prim.Native.Nat.{◌-◌}
use Rattle.load.proofs.BoundBy.{BestBy}
use Rattle.load.proofs.bound_of.Given as goal

abbrev pub invariant-loop-t : goal.invariant-loop-t
invariant-loop-t l = BestBy l.rows l.s l.period l.own l.last l.best l.found

abbrev pub decreases-loop-t : goal.decreases-loop-t
decreases-loop-t l = l.period - l.last
