-- `scan::line_at` meets its contract. The invariant: some tabs ts have been passed, and the line is the one whose rest begins at i.
-- Assumes nothing.
use Prim.Native.Nat.{ℕ}
use mathlib.Core.Path.{◌≡◌}
use mathlib.Core.List.{List}
use lib.ListN.{drop}
use Rattle.scan.specs.Positions.{line_at, first_five}
use Rattle.scan.proofs.Scan.{line_from}
use Rattle.scan.proofs.line_at.Given as goal

abbrev pub invariant-loop-i : goal.invariant-loop-i
invariant-loop-i l = (ts : List ℕ) × (record { count = l.count; place = l.place } ≡ first_five ts) × (line_at l.s l.at ≡ line_from (drop l.i l.s) l.i ts)
