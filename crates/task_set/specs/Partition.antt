-- A part as the local test sees it: numbers only.
--   Partition     == its server period P; its tasks 1 to n, lowest priority first; the number m of its locks, which are counted in order of first mention; and
--                    for each of them whether it is shared: another part of the file names it too. Any other is private
--   is_shared v l  == lock l is shared
--   shared_locks v == the numbers of the shared locks
-- Assumes nothing.
use Rattle.std.specs.Prelude.{ℕ, Bool, false, List}
use Rattle.least.specs.Lists.{nth_or, range, those}
use Rattle.task_set.specs.declared.Task.{Task}

pub record Partition : Type 0 where
  pub period : ℕ
  pub tasks : List Task
  pub locks : ℕ
  pub shared : List Bool

unfoldable pub is_shared : Partition → ℕ → Bool
is_shared v l = nth_or false l v.shared

abbrev pub shared_locks : Partition → List ℕ
shared_locks v = those (is_shared v) (range 1 v.locks)
