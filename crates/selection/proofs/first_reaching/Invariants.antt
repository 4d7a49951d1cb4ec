-- `selection::first_reaching` meets its contract. The invariant: the bound of every row before s is below `best`, and the row at the place s is blocked
-- as `below` says.
-- Assumes nothing.
use Prim.Native.Nat.{ℕ, ◌≤◌, ◌<◌}
use mathlib.Core.Path.{◌≡◌}
use Rattle.least.specs.Fraction.{◌⊏◌}
use Rattle.refusal.specs.Limits.{number_limit}
use Rattle.load.specs.Code.ByColumn.{rows_by}
use Rattle.selection.specs.Code.Choosing.{bound_at, held_before}
use Rattle.selection.proofs.first_reaching.Given as goal

abbrev pub invariant-loop-s : goal.invariant-loop-s
invariant-loop-s l = ((k : ℕ) → k < l.s → bound_at (rows_by l.columns) k ⊏ l.best) × (l.below ≡ held_before (rows_by l.columns) l.s) × (l.below ≤ number_limit)
