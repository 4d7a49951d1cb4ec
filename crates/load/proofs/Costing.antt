-- The rows by columns: what they ask for is the demand of the columns.
-- Assumes nothing.
use Prim.Native.Nat.{ℕ, ◌≤◌, ◌<◌}
use native.Mathlib.Omega.{arith}
use mathlib.Core.Path.{◌≡◌, sym, ap, subst}
use mathlib.Core.List.{Memᴰ}
use lib.ListN.{length, drop, get_or}
use Rattle.least.proofs.Columns.{column_length, column_get}
use Rattle.least.proofs.Members.{each_place, drop_member}
use Rattle.demand.specs.declared.Workload.{Workload}
use Rattle.demand.specs.Code.Demand.{demand_from, FinePeriods}
use Rattle.demand.proofs.Demand.{list_demand}
use Rattle.load.specs.declared.Row.{Row}
use Rattle.load.specs.Load.{row_sum, demand_of}
use Rattle.load.specs.Code.ByColumn.{row_costing, rows_costing}
use Rattle.load.specs.Code.Rows.{no_row}

module _ (rows : Workload) where
  costing_length : length (rows_costing rows) ≡ rows.count
  unfolding rows_costing
  costing_length = column_length (row_costing rows) rows.count

  costing_get : (k : ℕ) → k < rows.count → get_or (rows_costing rows) k no_row ≡ row_costing rows k
  unfolding rows_costing
  costing_get k h = column_get (row_costing rows) no_row k rows.count h

  pub costing_demand : (s t : ℕ) → demand_of (drop s (rows_costing rows)) t ≡ demand_from rows.periods rows.costs rows.count s t
  unfolding demand_of
  costing_demand s t =
      list_demand (λ r. r.period) row_sum no_row (rows_costing rows) rows.periods rows.costs rows.count costing_length
      (λ k h. ap (λ (r : Row). r.period) (costing_get k h)) (λ k h. let e = ap row_sum (costing_get k h) in omega arith) t s

  -- each has a period
  pub costing_periods : FinePeriods rows.periods rows.count → (s : ℕ) (r : Row) → Memᴰ r (drop s (rows_costing rows)) → 1 ≤ r.period
  costing_periods fine s r m =
      each_place no_row (λ (x : Row). 1 ≤ x.period) (rows_costing rows)
      (λ k h. let l : k < rows.count = omega (arith, costing_length) in subst (λ (x : Row). 1 ≤ x.period) (sym (costing_get k l)) (fine.some k l))
      r (drop_member s (rows_costing rows) m)
