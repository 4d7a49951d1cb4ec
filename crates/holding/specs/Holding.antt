-- Holding times (document 001, equation 1) of a lock among the tasks `ts`, and permitted settings of a partition v.
--   held ts l r w       == g + Σ_{k>r} ⌈w/T_k⌉×C_k ≤ w, with g the greatest c of lock l
--   holding_of ts l r   == the least such w ≥ 1, if it exists and is at most the smallest deadline among the users of lock l
--   within x a          == a holding time that was found is at most x
--   highest_ceiling v l == n; a private lock keeps its lowest ceiling
--   in_range v σ        == σ is a setting: each ceiling is from the lock's lowest to its highest
--   permitted v σ       == each shared lock's w exists and is at most the smallest deadline among its users; a private lock asks no permission
--   holding_time_of v σ == X: the greatest w of a shared lock, or 0 without shared locks; a private lock has no holding time
-- The search for w ends at that deadline; the law `holding_paper` says what it finds without it.
-- Assumes nothing.
use Rattle.std.specs.Prelude.{ℕ, ◌+◌, Bool, true, false, cond, ◌&&◌, List, map, leb, length, Option, Some, None}
use Rattle.least.specs.Search.{least_up_to, number_or0}
use Rattle.least.specs.Lists.{greatest, range, every}
use Rattle.task_set.specs.declared.Task.{Task}
use Rattle.task_set.specs.Tasks.{higher, demand_in, lowest_ceiling, greatest_held, smallest_deadline}
use Rattle.task_set.specs.Partition.{Partition, is_shared, shared_locks}
use Rattle.task_set.specs.Blocking.{Setting}

unfoldable pub held : List Task → ℕ → ℕ → ℕ → Bool
held ts l r w = leb (greatest_held l ts + demand_in (higher r ts) w) w

unfoldable pub holding_of : List Task → ℕ → ℕ → Option ℕ
holding_of ts l r = least_up_to (held ts l r) (smallest_deadline l ts)

abbrev pub within : ℕ → Option ℕ → Bool
within x (Some w) = leb w x
within x None = false

unfoldable pub highest_ceiling : Partition → ℕ → ℕ
highest_ceiling v l = cond (is_shared v l) (length v.tasks) (lowest_ceiling l v.tasks)

unfoldable pub in_range : Partition → Setting → Bool
in_range v σ = every (λ l. leb (lowest_ceiling l v.tasks) (σ l) && leb (σ l) (highest_ceiling v l)) (range 1 v.locks)

unfoldable pub exists : Option ℕ → Bool
exists (Some w) = true
exists None = false

unfoldable pub permitted : Partition → Setting → Bool
permitted v σ = every (λ l. exists (holding_of v.tasks l (σ l))) (shared_locks v)

unfoldable pub holding_time_of : Partition → Setting → ℕ
holding_time_of v σ = greatest (map (λ l. number_or0 (holding_of v.tasks l (σ l))) (shared_locks v))
