-- Rows by columns, one array for each of their numbers.
--   rows_costing rows            == as many rows as `rows` counts, with its periods, each of which costs what it has for it
--   rows_by c                    == the rows with the periods, costs and holding times of these columns
--   own_limit                    == the greatest of what a row asks for itself: its cost, Q + X, and what blocks it
--   Attained rows s most own r   == r is L(t)/t, at most 1, for a time t up to `most`: L(t) is `own` and the demand of the rows from the place s on
--   LowerIs rows s most own best r == r is the ratio `best`, or a smaller one that is attained
-- Assumes nothing.
use Rattle.std.specs.Prelude.{ℕ, ◌+◌, ◌-◌, ◌≤◌, ◌≡◌, ◌⊎◌, List, map, get_or}
use Rattle.least.specs.declared.Frac.{Frac}
use Rattle.least.specs.Lists.{count_from}
use Rattle.least.specs.Fraction.{◌⊏◌}
use Rattle.refusal.specs.Limits.{number_limit}
use Rattle.demand.specs.declared.Workload.{Workload}
use Rattle.demand.specs.Code.Demand.{demand_from, cost_limit}
use Rattle.load.specs.declared.Row.{Row}
use Rattle.load.specs.declared.columns.RowColumns.{RowColumns}
use Rattle.load.specs.Load.{row}

-- the one at the place k, from 0
abbrev pub row_costing : Workload → ℕ → Row
row_costing rows k = row (get_or rows.periods k 0) (get_or rows.costs k 0) 0

unfoldable pub rows_costing : Workload → List Row
rows_costing rows = map (row_costing rows) (count_from 0 rows.count)

abbrev pub row_at : RowColumns → ℕ → Row
row_at c k = row (get_or c.workload.periods k 0) (get_or c.workload.costs k 0 - get_or c.holdings k 0) (get_or c.holdings k 0)

unfoldable pub rows_by : RowColumns → List Row
rows_by c = map (row_at c) (count_from 0 c.workload.count)

abbrev pub own_limit : ℕ
own_limit = cost_limit + number_limit

pub record Attained (rows : Workload) (s most own : ℕ) (r : Frac) : Type 0 where
  pub value : r.num ≡ own + demand_from rows.periods rows.costs rows.count s r.den
  pub reach : r.num ≤ r.den
  pub within : r.den ≤ most

pub record LowerIs (rows : Workload) (s most own : ℕ) (best r : Frac) : Type 0 where
  pub either : (r ≡ best) ⊎ (Attained rows s most own r × (r ⊏ best))
