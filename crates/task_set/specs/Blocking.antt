-- Settings, and what they block. A setting gives each lock a ceiling, a task number: it is a function of the lock's number.
--   Setting                        == a ceiling for each lock
--   blocked_by m σ i h             == the greatest c of task h on a lock with ceiling ≥ i, else 0
--   blocking_of m σ lower          == the blocking of the task above the tasks `lower`: of task i, where there are i − 1 of them
--   need_of blocking task higher t == C_i + Σ_{k>i} ⌈t/T_k⌉×C_k + blocking, of the task i below the tasks `higher`
-- Assumes nothing.
use Rattle.std.specs.Prelude.{ℕ, suc, ◌+◌, cond, List, map, leb, length}
use Rattle.least.specs.Lists.{greatest, range}
use Rattle.task_set.specs.declared.Task.{Task}
use Rattle.task_set.specs.Tasks.{held_for, demand_in}

abbrev pub Setting : Type 0
Setting = ℕ → ℕ

unfoldable pub blocked_by : ℕ → Setting → ℕ → Task → ℕ
blocked_by m σ i h = greatest (map (λ l. cond (leb i (σ l)) (held_for l h) 0) (range 1 m))

unfoldable pub blocking_of : ℕ → Setting → List Task → ℕ
blocking_of m σ lower = greatest (map (blocked_by m σ (suc (length lower))) lower)

unfoldable pub need_of : ℕ → Task → List Task → ℕ → ℕ
need_of blocking task higher t = task.cost + demand_in higher t + blocking
