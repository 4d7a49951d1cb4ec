-- `listing::ShareLines::ceilings_length` meets its contract.
-- Assumes nothing.
use mathlib.Core.Path.{ap}
use lib.ListN.{length}
use native.Mathlib.Omega.{arith}
use Rattle.listing.specs.Listing.{share_under}
use Rattle.listing.proofs.Ceilings.{stretch_length, locks_more_length, locks_end}
use Rattle.listing.proofs.ShareLines.ceilings_length.Goals as goal

pub ceiling_length-total-requires : goal.ceiling_length-total-requires
ceiling_length-total-requires c = omega (arith, c.requires.short.file, ap length c.bytes.ensures, stretch_length)

pub loop-i-preserved : goal.loop-i-preserved
loop-i-preserved c =
    let l = c.loop-i in
    let e = c.ceiling_length-total.ensures in
    record {
      small = omega (arith, l.invariant.small, e.1);
      left = omega (arith, e.0, locks_more_length c.args.self.now l.i c.loop-i-test.true c.bytes.ensures, l.invariant.left);
    }

pub returns : goal.returns
unfolding share_under
returns c =
    let l = c.loop-i in
    (omega (arith, l.invariant.left, ap length (locks_end c.args.self.now l.i c.loop-i-test.false)), omega (arith, l.invariant.small, c.requires.fine_locks.few))
