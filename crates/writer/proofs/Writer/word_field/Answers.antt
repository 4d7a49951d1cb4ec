-- `writer::Writer::word_field` meets its contract.
-- Assumes nothing.
use mathlib.Core.List.{[], ◌∷◌}
use Rattle.writer.proofs.Written.{room_first, room_second, wrote_two}
use Rattle.writer.proofs.Writer.word_field.Goals as goal

pub word-requires : goal.word-requires
word-requires c = room_first (c.args.word.now) (c.args.end ∷ []) c.requires

pub byte-requires : goal.byte-requires
byte-requires c = room_second (c.args.word.now) (c.args.end ∷ []) c.requires c.word.ensures

pub returns : goal.returns
returns c = wrote_two (c.args.word.now) (c.args.end ∷ []) c.requires c.word.ensures c.byte.ensures
