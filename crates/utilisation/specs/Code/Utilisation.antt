-- The utilisation of tasks, Σ C/T, rounded down: they ask for at least this share of the processor. It is counted in parts of slope_scale.
--   share C T      == C/T in such parts, rounded down
--   share_in ts    == the sum over these tasks
--   ShareIs part r == r is that of the part's tasks, and at most sixteen times the processor
-- Assumes nothing.
use Rattle.std.specs.Prelude.{ℕ, ◌*◌, ◌/◌, ◌≤◌, ◌≡◌, List, map}
use Rattle.least.specs.Lists.{sum}
use Rattle.envelope.specs.Code.Envelope.{slope_scale}
use Rattle.task_set.specs.declared.Task.{Task}
use Rattle.task_set.specs.declared.Part.{Part}
use Rattle.task_set.specs.Code.Tasks.{tasks_of}

abbrev pub share : ℕ → ℕ → ℕ
share C T = C * slope_scale / T

unfoldable pub share_in : List Task → ℕ
share_in ts = sum (map (λ t. share t.cost t.separation) ts)

pub record ShareIs (part : Part) (r : ℕ) : Type 0 where
  pub value : r ≡ share_in (tasks_of part)
  pub most : r ≤ 16 * slope_scale
