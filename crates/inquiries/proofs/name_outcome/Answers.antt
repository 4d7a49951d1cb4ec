-- `inquiries::name_outcome` meets its contract: the outcome of the stretch.
-- Assumes nothing.
use mathlib.Core.Path.{ap, ◌∙◌}
use Rattle.inquiries.specs.declared.NameStretch.{NameStretch}
use Rattle.inquiries.proofs.Named.{stretch_outcome}
use Rattle.inquiries.proofs.name_outcome.Goals as goal

pub returns : goal.returns
returns c = ap (λ (r : NameStretch). r.outcome) c.name_stretch.ensures.is ∙ stretch_outcome c.args.file.now c.args.part
