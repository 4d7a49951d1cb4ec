-- What tasks, or rows, that come again and again ask for. They are given by columns: the periods in one array, the costs in another.
--   demand_from periods costs n s t == Σ ⌈t/P⌉×C over those from the place s on, of n
--   FinePeriods periods n           == there are at most 16 periods, each from 1 to the limit of numbers
--   FineDemand periods costs n      == and no cost is greater than that of a row
--   FineWorkload w                  == it is so of the columns of a workload
--   DemandIs periods costs n s t x  == x is this demand, and within its limit
--   SameUntil periods n s t most e  == e is from t to `most`, and in e ticks each task from the place s on comes as often as in t ticks
--   cost_limit                      == the greatest cost: Q + X of a row; a task's C is less
--   demand_limit                    == the greatest demand in a time within the limit of numbers: sixteen costs in every tick of it
-- Assumes nothing.
use Rattle.std.specs.Prelude.{ℕ, ◌-◌, ◌*◌, ◌≤◌, ◌<◌, ◌≡◌, List, map, get_or}
use Rattle.least.specs.Round.{ceil_div}
use Rattle.least.specs.Lists.{sum, count_from}
use Rattle.refusal.specs.Limits.{number_limit}
use Rattle.demand.specs.declared.Workload.{Workload}

unfoldable pub demand_from : List ℕ → List ℕ → ℕ → ℕ → ℕ → ℕ
demand_from periods costs n s t = sum (map (λ k. ceil_div t (get_or periods k 0) * get_or costs k 0) (count_from s (n - s)))

abbrev pub cost_limit : ℕ
cost_limit = 2 * number_limit

abbrev pub demand_limit : ℕ
demand_limit = 16 * (number_limit * cost_limit)

pub record FinePeriods (periods : List ℕ) (n : ℕ) : Type 0 where
  pub few : n ≤ 16
  pub some : (k : ℕ) → k < n → 1 ≤ get_or periods k 0
  pub most : (k : ℕ) → k < n → get_or periods k 0 ≤ number_limit

pub record FineDemand (periods costs : List ℕ) (n : ℕ) : Type 0 where
  pub fine : FinePeriods periods n
  pub most : (k : ℕ) → k < n → get_or costs k 0 ≤ cost_limit

abbrev pub FineWorkload : Workload → Type 0
FineWorkload w = FineDemand w.periods w.costs w.count

pub record DemandIs (periods costs : List ℕ) (n s t x : ℕ) : Type 0 where
  pub value : x ≡ demand_from periods costs n s t
  pub most : x ≤ demand_limit

pub record SameUntil (periods : List ℕ) (n s t most e : ℕ) : Type 0 where
  pub from : t ≤ e
  pub within : e ≤ most
  pub same : (k : ℕ) → s ≤ k → k < n → ceil_div e (get_or periods k 0) ≡ ceil_div t (get_or periods k 0)
