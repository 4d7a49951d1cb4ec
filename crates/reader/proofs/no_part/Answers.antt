-- `reader::no_part` meets its contract: the array of tasks is one task sixteen times.
-- Assumes nothing.
use mathlib.Core.Path.{refl}
use Rattle.least.specs.Lists.{pad}
use Rattle.reader.specs.Code.Reader.{closed_part}
use Rattle.reader.proofs.no_part.Goals as goal

pub returns : goal.returns
unfolding closed_part pad
returns c = refl
