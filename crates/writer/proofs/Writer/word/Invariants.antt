-- `writer::Writer::word` meets its contract: each turn copies one byte.
-- Assumes nothing.
use mathlib.Core.Path.{◌≡◌}
use lib.ListN.{length, take}
use Rattle.writer.proofs.Writer.word.Given as goal

abbrev pub invariant-loop-i : goal.invariant-loop-i
invariant-loop-i l = (length l.place-items ≡ length l.word) × (take l.i l.place-items ≡ take l.i l.word)
