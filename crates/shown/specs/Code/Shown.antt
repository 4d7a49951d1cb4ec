-- The ceilings shown, in code: those of all parts in one array, of which the part at the place k has those from lock_limit × k on.
--   ShownAre v x k cs                    == cs holds, for each lock of the partition v at the place k, the ceiling shown for it at x
--   Shown v x k before after             == `after` is `before` with these
-- Assumes nothing.
use Rattle.std.specs.Prelude.{ℕ, suc, ◌+◌, ◌*◌, ◌<◌, ◌≡◌, List, get_or}
use Rattle.least.specs.Code.Stored.{Stored}
use Rattle.refusal.specs.Limits.{lock_limit}
use Rattle.task_set.specs.Partition.{Partition}
use Rattle.candidates.specs.Candidates.{shown_ceiling}

abbrev pub ShownAre : Partition → ℕ → ℕ → List ℕ → Type 0
ShownAre v x k cs = (j : ℕ) → j < v.locks → get_or cs (lock_limit * k + j) 0 ≡ shown_ceiling v x (suc j)

abbrev pub Shown : Partition → ℕ → ℕ → List ℕ → List ℕ → Type 0
Shown v x k before after = Stored (λ j. shown_ceiling v x (suc j)) (lock_limit * k) v.locks before after
