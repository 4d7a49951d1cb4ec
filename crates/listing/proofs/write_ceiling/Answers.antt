-- `listing::write_ceiling` meets its contract.
-- Assumes nothing.
use Rattle.text.specs.Bytes.{bytes}
use Rattle.writer.proofs.Written.{left_all, left_room, left_more, left_last}
use Rattle.listing.proofs.Lines.{ceiling_pieces}
use Rattle.listing.proofs.write_ceiling.Goals as goal

pub write_head-requires : goal.write_head-requires
unfolding bytes
write_head-requires c = left_room _ (ceiling_pieces c.args.lock.now c.args.number) (left_all c.requires)

pub number_field-requires : goal.number_field-requires
unfolding bytes
number_field-requires c = (left_more (ceiling_pieces c.args.lock.now c.args.number) (left_all c.requires) c.write_head.ensures).room

pub returns : goal.returns
unfolding bytes
returns c = left_last (left_more (ceiling_pieces c.args.lock.now c.args.number) (left_all c.requires) c.write_head.ensures) c.number_field.ensures
