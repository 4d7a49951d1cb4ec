-- `printing::Listing::write` meets its contract. The invariant: the lines from the part k on are left to write.
-- Assumes nothing.
use Rattle.writer.proofs.Written.{Left}
use Rattle.printing.proofs.Shares.{lines_from}
use Rattle.printing.proofs.Listing.write.Given as goal

abbrev pub invariant-loop-k : goal.invariant-loop-k
invariant-loop-k l = Left (lines_from l.self 0) l.initial.w (lines_from l.self l.k) l.w
