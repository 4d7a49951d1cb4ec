-- The paper's sentences on candidates over every setting and every budget, whether or not a list of them was made.
--   Permitted v σ == σ is a permitted setting
--   Candidate v c == c is a permitted setting's X with its least passing Q
--   IsKept v c    == c is a candidate, and no other candidate has X no greater and Q+X no greater
-- Assumes nothing.
use Rattle.std.specs.Prelude.{◌+◌, ◌≤◌, ◌≡◌, true, Some}
use Rattle.task_set.specs.Partition.{Partition}
use Rattle.task_set.specs.Blocking.{Setting}
use Rattle.holding.specs.Holding.{in_range, permitted, holding_time_of}
use Rattle.budget.specs.Budget.{least_budget}
use Rattle.candidates.specs.declared.Pair.{Pair}

pub record Permitted (v : Partition) (σ : Setting) : Type 0 where
  pub ranged : in_range v σ ≡ true
  pub held : permitted v σ ≡ true

pub record Candidate (v : Partition) (c : Pair) : Type 0 where
  pub setting : Setting
  pub allowed : Permitted v setting
  pub holding : holding_time_of v setting ≡ c.holding
  pub budget : least_budget v setting ≡ Some c.budget

pub record IsKept (v : Partition) (c : Pair) : Type 0 where
  pub candidate : Candidate v c
  pub alone : (d : Pair) → Candidate v d → d.holding ≤ c.holding → d.budget + d.holding ≤ c.budget + c.holding → d ≡ c
