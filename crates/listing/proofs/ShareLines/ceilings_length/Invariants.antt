-- `listing::ShareLines::ceilings_length` meets its contract. The invariant: the lines from the lock i on are left to measure.
-- Assumes nothing.
use Prim.Native.Nat.{◌+◌, ◌*◌, ◌^◌, ◌≤◌}
use mathlib.Core.Path.{◌≡◌}
use lib.ListN.{length}
use Rattle.listing.specs.Code.Shares.{ceiling_lines}
use Rattle.listing.proofs.Ceilings.{locks_from}
use Rattle.listing.proofs.ShareLines.ceilings_length.Given as goal

abbrev pub invariant-loop-i : goal.invariant-loop-i
invariant-loop-i l = record {
  small : l.total ≤ l.i * 2 ^ 33;
  left : l.total + length (ceiling_lines (locks_from l.self l.i)) ≡ length (ceiling_lines (locks_from l.self 0));
}
