-- What the structs of a readable file hold.
--   FineTask, FinePart == the numbers of a task and of a part are in range: 1 ≤ C ≤ D ≤ T, which is within the limit of numbers, c ≤ C, and every lock has a user
-- Assumes nothing.
use Rattle.std.specs.Prelude.{ℕ, ◌≤◌, ◌<◌, ◌≡◌, [], length, get_or}
use Rattle.refusal.specs.Limits.{number_limit}
use Rattle.task_set.specs.declared.Task.{Task}
use Rattle.task_set.specs.declared.Part.{Part}
use Rattle.task_set.specs.Tasks.{held_for, greatest_held}
use Rattle.task_set.specs.Code.Tasks.{tasks_of}

-- what is read past the end of an array of tasks, which nobody does
abbrev pub blank_task : Task
blank_task = record { separation = 0; cost = 0; deadline = 0; uses = [] }

-- of a part with m locks
pub record FineTask (m : ℕ) (t : Task) : Type 0 where
  pub cost_some : 1 ≤ t.cost
  pub cost_most : t.cost ≤ t.deadline
  pub deadline_most : t.deadline ≤ t.separation
  pub separation_most : t.separation ≤ number_limit
  pub uses_most : (l : ℕ) → 1 ≤ l → l ≤ m → held_for l t ≤ t.cost

pub record FinePart (p : Part) : Type 0 where
  pub few : p.count ≤ 16
  pub room : length p.tasks ≡ 16
  pub few_locks : p.locks ≤ 8
  pub each : (k : ℕ) → k < p.count → FineTask p.locks (get_or p.tasks k blank_task)
  pub used : (l : ℕ) → 1 ≤ l → l ≤ p.locks → 1 ≤ greatest_held l (tasks_of p)
