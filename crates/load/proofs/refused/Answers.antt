-- `load::refused` meets its contract, which is its code.
-- Assumes nothing.
use mathlib.Core.Path.{refl}
use Rattle.least.specs.Lists.{pad}
use Rattle.load.specs.Weigh.{weighed}
use Rattle.load.proofs.refused.Goals as goal

pub returns : goal.returns
unfolding weighed pad
returns c = refl
