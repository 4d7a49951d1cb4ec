-- `records::span_to` meets its contract.
-- Assumes nothing.
use Rattle.records.specs.Code.Shapes.{up_to}
use Rattle.records.proofs.span_to.Goals as goal

pub returns : goal.returns
unfolding up_to
returns c = simp c.saturating_sub.ensures
