-- `listing::ShareLines::write_share` meets its contract.
-- Assumes nothing.
use mathlib.Core.List.{[], ◌∷◌}
use Rattle.text.specs.Bytes.{bytes, line_of}
use Rattle.text.specs.Decimal.{digits_of}
use Rattle.writer.specs.declared.Writer.{Writer}
use Rattle.writer.specs.Code.Written.{Room, Wrote}
use Rattle.writer.proofs.Written.{Left, left_all, left_room, left_more, left_last}
use Rattle.listing.specs.Listing.{Share, share_under, share_line}
use Rattle.listing.specs.Code.Shares.{head_of, printed}
use Rattle.listing.proofs.Lines.{closed, bound_end, line_first, share_head}
use Rattle.listing.proofs.ShareLines.write_share.Goals as goal

-- what is left behind each field
module _ (s : Share) {w a : Writer} (room : Room (share_line s) w) (name : Wrote (head_of (bytes "share") s.name) w a) where
  behind_name : Left (share_line s) w (line_of (digits_of s.row.period ∷ digits_of s.row.budget ∷ digits_of s.row.holding ∷ digits_of s.bound.num ∷ digits_of s.bound.den ∷ [])) a
  behind_name = left_more (share_head s) (left_all room) name

  module _ {b : Writer} (period : Wrote (closed (digits_of s.row.period) 9) a b) where
    behind_period : Left (share_line s) w (line_of (digits_of s.row.budget ∷ digits_of s.row.holding ∷ digits_of s.bound.num ∷ digits_of s.bound.den ∷ [])) b
    behind_period = left_more (line_first _ _ _) behind_name period

    module _ {c : Writer} (budget : Wrote (closed (digits_of s.row.budget) 9) b c) where
      behind_budget : Left (share_line s) w (line_of (digits_of s.row.holding ∷ digits_of s.bound.num ∷ digits_of s.bound.den ∷ [])) c
      behind_budget = left_more (line_first _ _ _) behind_period budget

      behind_holding : {d : Writer} → Wrote (closed (digits_of s.row.holding) 9) c d → Left (share_line s) w (bound_end s.bound) d
      behind_holding holding = left_more (line_first _ _ _) behind_budget holding

pub write_head-requires : goal.write_head-requires
unfolding bytes share_under
write_head-requires c = left_room _ (share_head (printed c.args.self.now)) (left_all c.requires)

pub number_field-requires : goal.number_field-requires
unfolding bytes share_under
number_field-requires c = left_room _ (line_first _ _ _) (behind_name (printed c.args.self.now) c.requires c.write_head.ensures)

pub number_field-requires-2 : goal.number_field-requires-2
unfolding bytes share_under
number_field-requires-2 c = left_room _ (line_first _ _ _) (behind_period (printed c.args.self.now) c.requires c.write_head.ensures c.number_field.ensures)

pub number_field-requires-3 : goal.number_field-requires-3
unfolding bytes share_under
number_field-requires-3 c =
    left_room _ (line_first _ _ _) (behind_budget (printed c.args.self.now) c.requires c.write_head.ensures c.number_field.ensures c.number_field-2.ensures)

pub write_bound-requires : goal.write_bound-requires
unfolding bytes share_under
write_bound-requires c =
    (behind_holding (printed c.args.self.now) c.requires c.write_head.ensures c.number_field.ensures c.number_field-2.ensures c.number_field-3.ensures).room

pub returns : goal.returns
unfolding bytes share_under
returns c =
    left_last (behind_holding (printed c.args.self.now) c.requires c.write_head.ensures c.number_field.ensures c.number_field-2.ensures c.number_field-3.ensures) c.write_bound.ensures
