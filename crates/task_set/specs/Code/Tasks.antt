-- The tasks that the struct `Part` holds.
--   tasks_of part == the tasks that the struct `Part` holds
-- Assumes nothing.
use Rattle.std.specs.Prelude.{ℕ, List, map, take}
use Rattle.task_set.specs.declared.Task.{Task}
use Rattle.task_set.specs.declared.Part.{Part}

-- a task with the numbers of the m locks that there are
abbrev pub with_locks : ℕ → Task → Task
with_locks m task = record { separation = task.separation; cost = task.cost; deadline = task.deadline; uses = take m task.uses }

unfoldable pub tasks_of : Part → List Task
tasks_of part = map (with_locks part.locks) (take part.count part.tasks)
