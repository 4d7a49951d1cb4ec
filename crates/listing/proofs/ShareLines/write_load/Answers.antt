-- `listing::ShareLines::write_load` meets its contract.
-- Assumes nothing.
use Rattle.text.specs.Bytes.{bytes}
use Rattle.writer.proofs.Written.{left_all, left_room, left_more, left_last}
use Rattle.listing.specs.Listing.{share_under}
use Rattle.listing.specs.Code.Shares.{printed}
use Rattle.listing.proofs.Lines.{load_pieces}
use Rattle.listing.proofs.ShareLines.write_load.Goals as goal

pub write_head-requires : goal.write_head-requires
unfolding bytes share_under
write_head-requires c = left_room _ (load_pieces (printed c.args.self.now)) (left_all c.requires)

pub write_bound-requires : goal.write_bound-requires
unfolding bytes share_under
write_bound-requires c = (left_more (load_pieces (printed c.args.self.now)) (left_all c.requires) c.write_head.ensures).room

pub returns : goal.returns
unfolding bytes share_under
returns c = left_last (left_more (load_pieces (printed c.args.self.now)) (left_all c.requires) c.write_head.ensures) c.write_bound.ensures
