-- `reader::PlanFile::new` meets its contract: the array of parts is one part sixteen times.
-- Assumes nothing.
use mathlib.Core.Path.{ap}
use lib.ListN.{replicate}
use Rattle.least.specs.Lists.{pad}
use Rattle.reader.specs.declared.PartRead.{PartRead}
use Rattle.reader.specs.declared.PlanFile.{PlanFile}
use Rattle.reader.proofs.PlanFile.new.Goals as goal

pub returns : goal.returns
unfolding pad
returns c =
    let places : PartRead → PlanFile = λ p. record { parts = replicate 16 p; count = 0 } in
    ap places c.no_part.ensures
