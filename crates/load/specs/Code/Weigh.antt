-- Rows in the struct `Rows`.
--   rows_from rows n == these rows in the struct `Rows`, with the count n
-- Assumes nothing.
use Rattle.std.specs.Prelude.{ℕ, List}
use Rattle.least.specs.Lists.{pad}
use Rattle.refusal.specs.Limits.{row_limit}
use Rattle.load.specs.declared.Row.{Row}
use Rattle.load.specs.declared.Rows.{Rows}
use Rattle.load.specs.Load.{row}

abbrev pub rows_from : List Row → ℕ → Rows
rows_from rows n = record { rows = pad row_limit (row 0 0 0) rows; count = n }
