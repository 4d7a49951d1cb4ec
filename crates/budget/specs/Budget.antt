-- The local test (document 001, equation 3) of a partition v under the setting σ.
--   is_met P Q blocking task higher t    == C_i + Σ_{k>i} ⌈t/T_k⌉×C_k + blocking ≤ supply(t)
--   task_passes P Q blocking task higher == some t, 1 ≤ t ≤ D_i, has that
--   passes v σ Q                         == a budget Q passes: every task i does
--   least_budget v σ                     == the least Q, 1 ≤ Q ≤ P, that passes, if there is one
-- Assumes nothing.
use Rattle.std.specs.Prelude.{ℕ, Bool, List, leb, Option}
use Rattle.least.specs.Search.{least_up_to, any_up_to}
use Rattle.least.specs.Lists.{every_along}
use Rattle.supply.specs.Supply.{supply_of}
use Rattle.task_set.specs.declared.Task.{Task}
use Rattle.task_set.specs.Partition.{Partition}
use Rattle.task_set.specs.Blocking.{Setting, blocking_of, need_of}

abbrev pub is_met : ℕ → ℕ → ℕ → Task → List Task → ℕ → Bool
is_met P Q blocking task higher t = leb (need_of blocking task higher t) (supply_of P Q t)

unfoldable pub task_passes : ℕ → ℕ → ℕ → Task → List Task → Bool
task_passes P Q blocking task higher = any_up_to (is_met P Q blocking task higher) task.deadline

unfoldable pub passes : Partition → Setting → ℕ → Bool
passes v σ Q = every_along (λ lower task higher. task_passes v.period Q (blocking_of v.locks σ lower) task higher) v.tasks

unfoldable pub least_budget : Partition → Setting → Option ℕ
least_budget v σ = least_up_to (passes v σ) v.period
