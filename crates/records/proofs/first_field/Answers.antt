-- `records::first_field` meets its contract.
-- Assumes nothing.
use Rattle.records.specs.Code.Shapes.{first_field}
use Rattle.records.proofs.first_field.Goals as goal

pub returns : goal.returns
unfolding first_field
returns c = cc
