-- `listing::ShareLines::write_ceilings` meets its contract. The invariant: the lines from the lock i on are left to write.
-- Assumes nothing.
use Rattle.writer.proofs.Written.{Left}
use Rattle.listing.specs.Code.Shares.{ceiling_lines}
use Rattle.listing.proofs.Ceilings.{locks_from}
use Rattle.listing.proofs.ShareLines.write_ceilings.Given as goal

abbrev pub invariant-loop-i : goal.invariant-loop-i
invariant-loop-i l = Left (ceiling_lines (locks_from l.self 0)) l.initial.w (ceiling_lines (locks_from l.self l.i)) l.w
