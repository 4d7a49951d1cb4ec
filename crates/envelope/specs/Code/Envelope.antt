-- A demand that is met by a linear supply, and straight lines under a demand. Tasks, or rows, are given by columns as in crate demand; `own` is what is asked for
-- beside their demand.
--   met_at by x v                               == times × x + wait ≤ rate × v: a demand of x is met by the time v
--   first_met periods costs n s own by a limit  == the least v, a ≤ v ≤ limit, by which `own` and the demand in v ticks are met
--   slope_scale                                 == a slope of 1 is so many ticks in so many: slopes are whole numbers
--   LineIs periods costs n s t line             == from t ticks on the demand is not below the line
--   CrossingIs x slope by r                     == a demand of x and of the slope is met at no time before r
--   NoEarlier periods costs n s own by t next r == r is `next` or later, and no time from t and `next` on by which the demand is met is before r
-- Assumes nothing.
use Rattle.std.specs.Prelude.{ℕ, suc, ◌+◌, ◌-◌, ◌*◌, ◌^◌, ◌≤◌, ◌<◌, Bool, List, leb, Option}
use Rattle.least.specs.Search.{least_from}
use Rattle.demand.specs.Code.Demand.{demand_from}
use Rattle.envelope.specs.declared.supply.LinearSupply.{LinearSupply}
use Rattle.envelope.specs.declared.Line.{Line}

abbrev pub met_at : LinearSupply → ℕ → ℕ → Bool
met_at by x v = leb (by.times * x + by.wait) (by.rate * v)

unfoldable pub first_met : List ℕ → List ℕ → ℕ → ℕ → ℕ → LinearSupply → ℕ → ℕ → Option ℕ
first_met periods costs n s own by a limit = least_from (λ v. met_at by (own + demand_from periods costs n s v) v) a (suc limit - a)

abbrev pub slope_scale : ℕ
slope_scale = 2 ^ 28

pub record LineIs (periods costs : List ℕ) (n s t : ℕ) (line : Line) : Type 0 where
  pub fixed_most : line.fixed ≤ demand_from periods costs n s t
  pub slope_most : line.slope < slope_scale
  pub under : (v : ℕ) → t ≤ v → slope_scale * line.fixed + line.slope * v ≤ slope_scale * demand_from periods costs n s v

pub record CrossingIs (x slope : ℕ) (by : LinearSupply) (r : ℕ) : Type 0 where
  pub none_before : (v : ℕ) → by.times * (slope_scale * x + slope * v) + slope_scale * by.wait ≤ slope_scale * (by.rate * v) → r ≤ v

pub record NoEarlier (periods costs : List ℕ) (n s own : ℕ) (by : LinearSupply) (t next r : ℕ) : Type 0 where
  pub from : next ≤ r
  pub none_before : (v : ℕ) → t ≤ v → next ≤ v → by.times * (own + demand_from periods costs n s v) + by.wait ≤ by.rate * v → r ≤ v
