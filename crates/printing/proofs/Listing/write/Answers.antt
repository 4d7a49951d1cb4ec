-- `printing::Listing::write` meets its contract.
-- Assumes nothing.
use Rattle.std.proofs.Common.{rules}
use Rattle.writer.specs.Code.Written.{Wrote}
use Rattle.writer.proofs.Written.{Left, left_all, left_room, left_more, left_none, left_last, begun_room, begun_wrote}
use Rattle.printing.specs.Code.Printing.{listing_at, shares_in}
use Rattle.printing.proofs.Shares.{lines_from, parts_more, parts_end, listing_pieces}
use Rattle.printing.proofs.Listing.write.Goals as goal
use Rattle.printing.proofs.Listing.write.Goals.{After-write_load}

-- behind the load line, the parts are left
behind_load : (c : After-write_load) →
    let l = c.args.self.now in
    Left (listing_at l.weighed.now.row (shares_in l)) c.new-w.result (lines_from l 0) c.write_load.new.w
behind_load c =
    left_more (listing_pieces c.args.self.now c.share.ensures.share) (left_all (begun_room c.new-w.ensures.begun c.requires)) c.write_load.ensures

pub write_load-requires : goal.write_load-requires
write_load-requires c =
    left_room _ (listing_pieces c.args.self.now c.share.ensures.share) (left_all (begun_room c.new-w.ensures.begun c.requires))

pub loop-k-init : goal.loop-k-init
loop-k-init c = left_all (behind_load (goal.at.loop-k-init c).After-write_load).room

pub write-requires-clause-room : goal.write-requires-clause-room
write-requires-clause-room c =
    left_room _ (parts_more c.args.self.now c.loop-k.k c.loop-k-test.true c.share-in-loop-k.ensures.share) c.loop-k.invariant

pub loop-k-preserved : goal.loop-k-preserved
loop-k-preserved c =
    left_more (parts_more c.args.self.now c.loop-k.k c.loop-k-test.true c.share-in-loop-k.ensures.share) c.loop-k.invariant c.write.ensures

pub returns : goal.returns
returns c =
    let l = c.args.self.now in
    let parts : Wrote (lines_from l 0) c.write_load.new.w c.loop-k.w = left_none (parts_end l c.loop-k.k c.loop-k-test.false) c.loop-k.invariant in
    let all : Wrote (listing_at l.weighed.now.row (shares_in l)) c.new-w.result c.loop-k.w = left_last (behind_load (goal.at.returns c).After-write_load) parts in
    begun_wrote c.new-w.ensures.begun all (search rules)
