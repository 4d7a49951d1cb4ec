-- `load::bounds_of` meets its contract. The invariant: the first s places hold their rows' bounds, and the row at the place s is blocked as `blocking` says.
-- Assumes nothing.
use Prim.Native.Nat.{◌≤◌}
use mathlib.Core.Path.{◌≡◌}
use lib.ListN.{take}
use Rattle.least.specs.Lists.{pad}
use Rattle.refusal.specs.Limits.{number_limit}
use Rattle.load.specs.Load.{bounds_of}
use Rattle.load.specs.Code.ByColumn.{rows_by}
use Rattle.load.specs.Code.Rows.{no_frac}
use Rattle.load.proofs.RowsBy.{blocking_at}
use Rattle.load.proofs.bounds_of.Given as goal

abbrev pub invariant-loop-s : goal.invariant-loop-s
invariant-loop-s l = (l.bounds ≡ pad 16 no_frac (take l.s (bounds_of (rows_by l.columns)))) × (l.blocking ≡ blocking_at l.columns l.s) × (l.blocking ≤ number_limit)
