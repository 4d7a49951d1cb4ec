-- The holding time of a lock, without a limit of the search.
--   HoldingTime ts l r w == w is the holding time of lock l at r: the least whole number w ≥ 1 that passes `held`
-- Assumes nothing.
use Rattle.std.specs.Prelude.{ℕ, List}
use Rattle.least.specs.Code.Search.{IsLeast}
use Rattle.task_set.specs.declared.Task.{Task}
use Rattle.holding.specs.Holding.{held}

abbrev pub HoldingTime : List Task → ℕ → ℕ → ℕ → Type 0
HoldingTime ts l r w = IsLeast (held ts l r) w
