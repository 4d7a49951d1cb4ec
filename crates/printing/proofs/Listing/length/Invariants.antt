-- `printing::Listing::length` meets its contract. The invariant: the lines from the part k on are left to measure.
-- Assumes nothing.
use Prim.Native.Nat.{◌+◌, ◌*◌, ◌^◌, ◌≤◌}
use mathlib.Core.Path.{◌≡◌}
use lib.ListN.{length}
use Rattle.printing.specs.Code.Printing.{listing_at, shares_in}
use Rattle.printing.proofs.Shares.{lines_from}
use Rattle.printing.proofs.Listing.length.Given as goal

abbrev pub invariant-loop-k : goal.invariant-loop-k
invariant-loop-k l = record {
  small : l.total ≤ 2 ^ 33 + l.k * 2 ^ 37;
  left : l.total + length (lines_from l.self l.k) ≡ length (listing_at l.self.weighed.now.row (shares_in l.self));
}
