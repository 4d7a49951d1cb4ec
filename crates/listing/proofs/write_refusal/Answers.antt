-- `listing::write_refusal` meets its contract.
-- Assumes nothing.
use Prim.Native.Nat.{ℕ}
use Rattle.std.proofs.Common.{rules}
use Rattle.text.specs.Bytes.{bytes}
use Rattle.text.specs.Decimal.{digits_of}
use Rattle.writer.specs.declared.Writer.{Writer}
use Rattle.writer.specs.Code.Written.{Room, Wrote}
use Rattle.writer.proofs.Written.{Left, left_all, left_room, left_more, left_last, begun_room_at, begun_wrote_at}
use Rattle.listing.specs.Listing.{refused_line}
use Rattle.listing.proofs.Lines.{closed, last_two, two_pieces, refused_pieces}
use Rattle.listing.proofs.write_refusal.Goals as goal

-- what is left behind each field
module _ (n k : ℕ) {w a : Writer} (room : Room (refused_line n k) w) (word : Wrote (closed (bytes "refused") 9) w a) where
  behind_word : Left (refused_line n k) w (last_two n k) a
  behind_word = left_more (refused_pieces n k) (left_all room) word

  behind_number : {b : Writer} → Wrote (closed (digits_of n) 9) a b → Left (refused_line n k) w (closed (digits_of k) 10) b
  behind_number number = left_more (two_pieces n k) behind_word number

pub word_field-requires : goal.word_field-requires
unfolding bytes
word_field-requires c = left_room _ (refused_pieces c.args.number c.args.place) (left_all (begun_room_at c.new-w.ensures.begun c.args.at c.requires))

pub number_field-requires : goal.number_field-requires
unfolding bytes
number_field-requires c =
    let a = c.args in
    left_room _ (two_pieces a.number a.place) (behind_word a.number a.place (begun_room_at c.new-w.ensures.begun c.args.at c.requires) c.word_field.ensures)

pub number_field-requires-2 : goal.number_field-requires-2
unfolding bytes
number_field-requires-2 c =
    let a = c.args in
    (behind_number a.number a.place (begun_room_at c.new-w.ensures.begun c.args.at c.requires) c.word_field.ensures c.number_field.ensures).room

pub returns : goal.returns
unfolding bytes
returns c =
    let a = c.args in
    let left = behind_number a.number a.place (begun_room_at c.new-w.ensures.begun c.args.at c.requires) c.word_field.ensures c.number_field.ensures in
    let all : Wrote (refused_line a.number a.place) (record { out = c.new-w.result.out; at = a.at }) c.number_field-2.new.self = left_last left c.number_field-2.ensures in
    begun_wrote_at c.new-w.ensures.begun a.at all (search rules)
