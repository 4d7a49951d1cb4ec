-- `listing::write_bound` meets its contract.
-- Assumes nothing.
use Rattle.writer.proofs.Written.{left_all, left_room, left_more, left_last}
use Rattle.listing.proofs.Lines.{two_pieces}
use Rattle.listing.proofs.write_bound.Goals as goal

pub number_field-requires : goal.number_field-requires
number_field-requires c = left_room _ (two_pieces c.args.bound.num c.args.bound.den) (left_all c.requires)

pub number_field-requires-2 : goal.number_field-requires-2
number_field-requires-2 c = (left_more (two_pieces c.args.bound.num c.args.bound.den) (left_all c.requires) c.number_field.ensures).room

pub returns : goal.returns
returns c = left_last (left_more (two_pieces c.args.bound.num c.args.bound.den) (left_all c.requires) c.number_field.ensures) c.number_field-2.ensures
