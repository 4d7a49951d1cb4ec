-- `writer::Writer::number_field` meets its contract.
-- Assumes nothing.
use mathlib.Core.List.{[], ◌∷◌}
use Rattle.text.specs.Decimal.{digits_of}
use Rattle.writer.proofs.Written.{room_first, room_second, wrote_two}
use Rattle.writer.proofs.Writer.number_field.Goals as goal

pub number-requires : goal.number-requires
number-requires c = room_first (digits_of c.args.n) (c.args.end ∷ []) c.requires

pub byte-requires : goal.byte-requires
byte-requires c = room_second (digits_of c.args.n) (c.args.end ∷ []) c.requires c.number.ensures

pub returns : goal.returns
returns c = wrote_two (digits_of c.args.n) (c.args.end ∷ []) c.requires c.number.ensures c.byte.ensures
