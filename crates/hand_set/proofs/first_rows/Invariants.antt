-- `hand_set::first_rows` meets its contract: the rows before the place i are in the struct.
-- Assumes nothing.
use mathlib.Core.Path.{◌≡◌}
use lib.ListN.{length, take}
use Rattle.load.specs.Code.Weigh.{rows_from}
use Rattle.hand_set.proofs.first_rows.Given as goal

abbrev pub invariant-loop-i : goal.invariant-loop-i
invariant-loop-i l = l.first ≡ rows_from (take l.i l.rows) (length l.rows)
