-- `writer::digit_count` meets its contract. The invariant: k digits are counted but one, and those of the rest are left.
-- Assumes nothing.
use Prim.Native.Nat.{◌+◌, ◌≤◌}
use mathlib.Core.Path.{◌≡◌}
use lib.ListN.{length}
use Rattle.text.specs.Decimal.{digits_of}
use Rattle.writer.proofs.digit_count.Given as goal

abbrev pub invariant-loop-rest : goal.invariant-loop-rest
invariant-loop-rest l = (1 ≤ l.k) × (l.k + l.rest ≤ l.n + 1) × (l.k + length (digits_of l.rest) ≡ length (digits_of l.n) + 1)

abbrev pub decreases-loop-rest : goal.decreases-loop-rest
decreases-loop-rest l = l.rest
