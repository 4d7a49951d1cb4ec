-- `listing::write_head` meets its contract.
-- Assumes nothing.
use mathlib.Core.Path.{refl}
use Rattle.writer.proofs.Written.{left_all, left_room, left_more, left_last}
use Rattle.listing.specs.Code.Shares.{head_of}
use Rattle.listing.proofs.write_head.Goals as goal

pub word_field-requires : goal.word_field-requires
unfolding head_of
word_field-requires c = left_room _ refl (left_all c.requires)

pub word_field-requires-2 : goal.word_field-requires-2
unfolding head_of
word_field-requires-2 c = (left_more refl (left_all c.requires) c.word_field.ensures).room

pub returns : goal.returns
unfolding head_of
returns c = left_last (left_more refl (left_all c.requires) c.word_field.ensures) c.word_field-2.ensures
