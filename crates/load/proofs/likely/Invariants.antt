-- `load::likely` meets its contract. The invariant: the ratio so far is attained, or 1/1.
-- Assumes nothing.
use Rattle.least.specs.Fraction.{frac}
use Rattle.load.specs.Code.ByColumn.{LowerIs}
use Rattle.load.proofs.likely.Given as goal

abbrev pub invariant-loop-k : goal.invariant-loop-k
invariant-loop-k l = LowerIs l.rows l.s l.period l.own (frac 1 1) l.best
