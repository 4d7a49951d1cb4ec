-- Rows in structs and arrays, as weighing takes them and gives their bounds.
--   FineRows rows       == at most sixteen rows, each with P and Q from 1 to the limit of numbers, and X up to it
--   ColumnsAre rows c   == c holds the numbers of the rows, place by place
--   InRange rows        == rows that pass question 12
--   FineBounds bounds   == they are fractions of numbers within the limit
-- Assumes nothing.
use Rattle.std.specs.Prelude.{ℕ, ◌+◌, ◌≤◌, ◌<◌, ◌≡◌, true, List, length, get_or}
use Rattle.least.specs.declared.Frac.{Frac}
use Rattle.least.specs.Fraction.{frac}
use Rattle.refusal.specs.Limits.{number_limit, row_limit}
use Rattle.load.specs.declared.Row.{Row}
use Rattle.load.specs.declared.Rows.{Rows}
use Rattle.load.specs.declared.columns.RowColumns.{RowColumns}
use Rattle.load.specs.Load.{row, row_sum}
use Rattle.load.specs.Weigh.{row_in_range}

-- what an unused place holds
abbrev pub no_row : Row
no_row = row 0 0 0

abbrev pub no_frac : Frac
no_frac = frac 0 0

pub record FineRow (r : Row) : Type 0 where
  pub period_some : 1 ≤ r.period
  pub period_most : r.period ≤ number_limit
  pub budget_some : 1 ≤ r.budget
  pub budget_most : r.budget ≤ number_limit
  pub holding_most : r.holding ≤ number_limit

pub record FineRows (rows : Rows) : Type 0 where
  pub few : rows.count ≤ row_limit
  pub room : rows.count ≤ length rows.rows
  pub each : (k : ℕ) → k < rows.count → FineRow (get_or rows.rows k no_row)

pub record ColumnsAre (rows : Rows) (c : RowColumns) : Type 0 where
  pub count : c.workload.count ≡ rows.count
  pub periods : (k : ℕ) → k < rows.count → get_or c.workload.periods k 0 ≡ (get_or rows.rows k no_row).period
  pub costs : (k : ℕ) → k < rows.count → get_or c.workload.costs k 0 ≡ row_sum (get_or rows.rows k no_row)
  pub holdings : (k : ℕ) → k < rows.count → get_or c.holdings k 0 ≡ (get_or rows.rows k no_row).holding

pub record InRange (rows : Rows) : Type 0 where
  pub some : 1 ≤ rows.count
  pub few : rows.count ≤ row_limit
  pub room : rows.count ≤ length rows.rows
  pub each : (k : ℕ) → k < rows.count → row_in_range (get_or rows.rows k no_row) ≡ true

pub record FineBound (b : Frac) : Type 0 where
  pub some : 1 ≤ b.num + b.den
  pub num_most : b.num ≤ number_limit
  pub den_most : b.den ≤ number_limit

pub record FineBounds (bounds : List Frac) : Type 0 where
  pub each : (k : ℕ) → k < length bounds → FineBound (get_or bounds k no_frac)
