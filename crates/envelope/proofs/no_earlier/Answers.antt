-- `envelope::no_earlier` meets its contract. The invariant: the demand is met at no time before `far`.
-- Assumes nothing.
use native.Mathlib.Omega.{arith}
use Rattle.envelope.proofs.Jump.{under_crossing}
use Rattle.envelope.proofs.no_earlier.Goals as goal

pub loop-far-preserved : goal.loop-far-preserved
loop-far-preserved c = record {
  from = omega (arith, c.loop-far.invariant.from);
  none_before = λ v l k m. under_crossing _ _ _ _ _ _ _ _ _ c.line_from-line.ensures c.crossing-v.ensures v l m;
}
