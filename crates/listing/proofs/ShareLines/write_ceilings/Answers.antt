-- `listing::ShareLines::write_ceilings` meets its contract.
-- Assumes nothing.
use Rattle.writer.proofs.Written.{left_all, left_room, left_more, left_none}
use Rattle.listing.specs.Listing.{share_under}
use Rattle.listing.proofs.Ceilings.{locks_more, locks_end}
use Rattle.listing.proofs.ShareLines.write_ceilings.Goals as goal

pub loop-i-init : goal.loop-i-init
unfolding share_under
loop-i-init c = left_all c.requires.room

pub write_ceiling-requires : goal.write_ceiling-requires
write_ceiling-requires c = left_room _ (locks_more c.args.self.now c.loop-i.i c.loop-i-test.true c.bytes.ensures) c.loop-i.invariant

pub loop-i-preserved : goal.loop-i-preserved
loop-i-preserved c = left_more (locks_more c.args.self.now c.loop-i.i c.loop-i-test.true c.bytes.ensures) c.loop-i.invariant c.write_ceiling.ensures

pub returns : goal.returns
unfolding share_under
returns c = left_none (locks_end c.args.self.now c.loop-i.i c.loop-i-test.false) c.loop-i.invariant
