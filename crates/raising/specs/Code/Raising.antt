-- The ceilings of the locks of a part, by places from 0, as x falls: at x each is found from the one at a greater x.
--   next_ceiling ts lock c w x         == the ceiling of a lock at x, with its holding time; c and w are those at a greater x, or w is past every limit and c is
--                                         the lock's lowest ceiling
--   FineLock lock                      == the greatest c and the smallest deadline of the lock are in range
--   FineLocks locks ceilings m         == the numbers of m locks are in range, and a ceiling for each of them
--   ceiling_at ts locks ceilings times x j == next_ceiling of the lock at the place j
--   held_time a                        == the holding time at the ceiling a, 0 where there is none
--   AllRaised next m r                 == r holds the ceilings and times `next` of m locks, and the greatest of the times
--   RaisedIs next m r                  == r does so; or it is none, and one of the locks has no ceiling
-- Assumes nothing.
use Rattle.std.specs.Prelude.{ℕ, ◌+◌, ◌≤◌, ◌<◌, ◌≡◌, cond, List, map, leb, get_or, Option, Some, None}
use Rattle.least.specs.Lists.{greatest, count_from}
use Rattle.refusal.specs.Limits.{number_limit}
use Rattle.task_set.specs.declared.Task.{Task}
use Rattle.task_set.specs.declared.Lock.{Lock}
use Rattle.task_set.specs.Code.ByLock.{lock_at}
use Rattle.holding.specs.declared.Held.{Held}
use Rattle.holding.specs.Code.Search.{lowest_held}
use Rattle.raising.specs.declared.Raised.{Raised}

unfoldable pub next_ceiling : List Task → Lock → ℕ → ℕ → ℕ → Option Held
next_ceiling ts lock c w x =
    cond (leb w x) (Some (record { ceiling = c; time = w })) (lowest_held ts lock.longest lock.deadline x (cond (leb w number_limit) (c + 1) c))

pub record FineLock (lock : Lock) : Type 0 where
  pub longest_some : 1 ≤ lock.longest
  pub longest_most : lock.longest ≤ number_limit
  pub deadline_most : lock.deadline ≤ number_limit

pub record FineLocks (locks : List Lock) (ceilings : List ℕ) (m : ℕ) : Type 0 where
  pub few : m ≤ 8
  pub each : (j : ℕ) → j < m → FineLock (lock_at locks j)
  pub ceilings_most : (j : ℕ) → j < m → get_or ceilings j 0 ≤ 16

abbrev pub ceiling_at : List Task → List Lock → List ℕ → List ℕ → ℕ → ℕ → Option Held
ceiling_at ts locks ceilings times x j = next_ceiling ts (lock_at locks j) (get_or ceilings j 0) (get_or times j 0) x

abbrev pub held_time : Option Held → ℕ
held_time (Some h) = h.time
held_time None = 0

pub record AllRaised (next : ℕ → Option Held) (m : ℕ) (r : Raised) : Type 0 where
  pub each : (j : ℕ) → j < m → next j ≡ Some (record { ceiling = get_or r.ceilings j 0; time = get_or r.times j 0 })
  pub holding : r.holding ≡ greatest (map (λ j. held_time (next j)) (count_from 0 m))

abbrev pub RaisedIs : (ℕ → Option Held) → ℕ → Option Raised → Type 0
RaisedIs next m (Some r) = AllRaised next m r
RaisedIs next m None = (j : ℕ) × (j < m) × (next j ≡ None)
