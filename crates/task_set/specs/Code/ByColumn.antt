-- The tasks of a part by columns, one array for each of their numbers: what a loop reads.
--   times_of w     == the tasks with these separations and costs, without deadlines and locks
--   FineTimes w    == there are at most 16 of them, and T and C of each are from 1 to the limit of numbers
--   ColumnsAre p c == c holds the numbers of the part's tasks, place by place
-- Assumes nothing.
use Rattle.std.specs.Prelude.{ℕ, ◌≤◌, ◌<◌, ◌≡◌, List, [], map, get_or}
use Rattle.least.specs.Lists.{count_from}
use Rattle.refusal.specs.Limits.{number_limit}
use Rattle.demand.specs.declared.Workload.{Workload}
use Rattle.task_set.specs.declared.Task.{Task}
use Rattle.task_set.specs.declared.Part.{Part}
use Rattle.task_set.specs.declared.Columns.{Columns}
use Rattle.task_set.specs.Code.Fine.{blank_task}

-- the one at the place k, from 0
abbrev pub times_at : Workload → ℕ → Task
times_at w k = record { separation = get_or w.periods k 0; cost = get_or w.costs k 0; deadline = 0; uses = [] }

unfoldable pub times_of : Workload → List Task
times_of w = map (times_at w) (count_from 0 w.count)

pub record FineTime (T C : ℕ) : Type 0 where
  pub separation_some : 1 ≤ T
  pub separation_most : T ≤ number_limit
  pub cost_some : 1 ≤ C
  pub cost_most : C ≤ number_limit

pub record FineTimes (w : Workload) : Type 0 where
  pub few : w.count ≤ 16
  pub each : (k : ℕ) → k < w.count → FineTime (get_or w.periods k 0) (get_or w.costs k 0)

pub record ColumnsAre (p : Part) (c : Columns) : Type 0 where
  pub count : c.times.count ≡ p.count
  pub separations : (k : ℕ) → k < 16 → get_or c.times.periods k 0 ≡ (get_or p.tasks k blank_task).separation
  pub costs : (k : ℕ) → k < 16 → get_or c.times.costs k 0 ≡ (get_or p.tasks k blank_task).cost
  pub deadlines : (k : ℕ) → k < 16 → get_or c.deadlines k 0 ≡ (get_or p.tasks k blank_task).deadline
