-- `printing::Listing::length` meets its contract.
-- Assumes nothing.
use Prim.Native.Nat.{◌+◌}
use mathlib.Core.Path.{ap}
use lib.ListN.{length, length-append}
use native.Mathlib.Omega.{arith}
use Rattle.listing.specs.Listing.{share_lines, load_line}
use Rattle.listing.specs.Code.Shares.{printed}
use Rattle.printing.proofs.Shares.{lines_from, parts_more, parts_end, listing_pieces}
use Rattle.printing.proofs.Listing.length.Goals as goal

pub loop-k-init : goal.loop-k-init
loop-k-init c =
    let l = c.args.self.now in
    let e = c.load_length-total.ensures in
    let pieces = ap length (listing_pieces l c.share.ensures.share) in
    record { small = e.1; left = omega (arith, e.0, pieces, length-append (load_line (printed c.share.result)) (lines_from l 0)) }

pub loop-k-preserved : goal.loop-k-preserved
loop-k-preserved c =
    let l = c.args.self.now in
    let k = c.loop-k.k in
    let i = c.loop-k.invariant in
    let e = c.length-total.ensures in
    let share = c.share-in-loop-k in
    let more = ap length (parts_more l k c.loop-k-test.true share.ensures.share) in
    record {
      small = omega (arith, i.small, e.1);
      left = omega (arith, i.left, e.0, more, length-append (share_lines (printed share.result)) (lines_from l (k + 1)));
    }

pub returns : goal.returns
returns c = omega (arith, c.loop-k.invariant.left, ap length (parts_end c.args.self.now c.loop-k.k c.loop-k-test.false))
