-- What is fine of rows by columns.
--   FineColumns workload holdings == the numbers are in range (`demand FineDemand`), and each row costs something, and no less than it holds
-- Assumes nothing.
use Rattle.std.specs.Prelude.{ℕ, ◌≤◌, ◌<◌, List, get_or}
use Rattle.refusal.specs.Limits.{number_limit}
use Rattle.demand.specs.declared.Workload.{Workload}
use Rattle.demand.specs.Code.Demand.{FineDemand}

pub record FineColumns (workload : Workload) (holdings : List ℕ) : Type 0 where
  pub demand : FineDemand workload.periods workload.costs workload.count
  pub some : (k : ℕ) → k < workload.count → 1 ≤ get_or workload.costs k 0
  pub holds : (k : ℕ) → k < workload.count → get_or holdings k 0 ≤ get_or workload.costs k 0
  pub holdings_most : (k : ℕ) → k < workload.count → get_or holdings k 0 ≤ number_limit
