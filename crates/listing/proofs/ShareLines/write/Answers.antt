-- `listing::ShareLines::write` meets its contract.
-- Assumes nothing.
use Rattle.writer.proofs.Written.{left_all, left_room, left_more, left_last}
use Rattle.listing.specs.Code.Shares.{printed}
use Rattle.listing.proofs.Ceilings.{share_pieces}
use Rattle.listing.proofs.ShareLines.write.Goals as goal

pub write_share-requires : goal.write_share-requires
write_share-requires c = left_room _ (share_pieces (printed c.args.self.now)) (left_all c.requires.room)

pub write_ceilings-requires : goal.write_ceilings-requires
write_ceilings-requires c = record {
  fine_locks = c.requires.fine_locks;
  room = (left_more (share_pieces (printed c.args.self.now)) (left_all c.requires.room) c.write_share.ensures).room;
}

pub returns : goal.returns
returns c = left_last (left_more (share_pieces (printed c.args.self.now)) (left_all c.requires.room) c.write_share.ensures) c.write_ceilings.ensures
