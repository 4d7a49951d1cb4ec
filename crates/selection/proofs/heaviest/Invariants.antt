-- `selection::heaviest` meets its contract. The invariant: the bound and the blocking are those of a row before s that reaches the greatest bound so far,
-- and the row at the place s is blocked as `below` says.
-- Assumes nothing.
use Prim.Native.Nat.{◌≤◌}
use mathlib.Core.Path.{◌≡◌}
use Rattle.refusal.specs.Limits.{number_limit}
use Rattle.load.specs.Code.ByColumn.{rows_by}
use Rattle.selection.specs.Code.Choosing.{held_before}
use Rattle.selection.proofs.Leading.{Ahead}
use Rattle.selection.proofs.heaviest.Given as goal

abbrev pub invariant-loop-s : goal.invariant-loop-s
invariant-loop-s l = Ahead (rows_by l.columns) l.s l.bound l.blocking × (l.below ≡ held_before (rows_by l.columns) l.s) × (l.below ≤ number_limit)
