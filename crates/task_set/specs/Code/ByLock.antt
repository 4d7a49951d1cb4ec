-- The locks of a part by places, from 0: arrays with their numbers, and the blocking of a task from such arrays.
--   lock_of l ts                     == of lock l: its lowest ceiling, the greatest c and the smallest deadline of its users
--   with_user lock number c deadline == the lock, once the task with this number is known to hold it for c; c = 0 where it does not use it
--   lock_at locks j                  == the lock at the place j
--   LocksAre p locks                 == the first places hold the numbers of the part's locks
--   LowestAre locks ceilings         == the array holds the lowest ceiling of each of eight locks
--   LongestBelow p table             == at 8 i + j, i < 16, j < 8, the longest use of lock j + 1 by a task below the place i
--   blocked_for ceiling c i          == c, where a lock with this ceiling blocks the task at the place i, else 0
--   blocking_by below ceilings m i   == the blocking of the task at the place i under these ceilings of m locks, from the table `below`
--   setting_from ceilings first      == the setting whose ceilings stand from the place `first` on: lock l, from 1 on, has the place first + (l - 1)
--   setting_of ceilings              == the same from the place 0 on
--   lower_than i ts                  == the tasks below the place i, nearest first
-- Assumes nothing.
use Rattle.std.specs.Prelude.{ℕ, suc, ◌+◌, ◌-◌, ◌*◌, min, max, ◌<◌, ◌≡◌, cond, List, map, reverse, leb, take, get_or}
use Rattle.least.specs.Lists.{greatest, count_from}
use Rattle.task_set.specs.declared.Task.{Task}
use Rattle.task_set.specs.declared.Part.{Part}
use Rattle.task_set.specs.declared.Lock.{Lock}
use Rattle.task_set.specs.Tasks.{held_for, lowest_ceiling, greatest_held, smallest_deadline}
use Rattle.task_set.specs.Code.Tasks.{tasks_of}
use Rattle.task_set.specs.Blocking.{Setting}

abbrev pub lock_of : ℕ → List Task → Lock
lock_of l ts = record { lowest = lowest_ceiling l ts; longest = greatest_held l ts; deadline = smallest_deadline l ts }

unfoldable pub with_user : Lock → ℕ → ℕ → ℕ → Lock
with_user lock number c deadline =
    cond (leb 1 c)
    (record { lowest = number; longest = max lock.longest c; deadline = min lock.deadline deadline })
    lock

-- what is read past the end of an array of locks, which nobody does
abbrev pub blank_lock : Lock
blank_lock = record { lowest = 0; longest = 0; deadline = 0 }

abbrev pub lock_at : List Lock → ℕ → Lock
lock_at locks j = get_or locks j blank_lock

pub record LocksAre (p : Part) (locks : List Lock) : Type 0 where
  pub lowest : (j : ℕ) → j < p.locks → (lock_at locks j).lowest ≡ lowest_ceiling (suc j) (tasks_of p)
  pub longest : (j : ℕ) → j < p.locks → (lock_at locks j).longest ≡ greatest_held (suc j) (tasks_of p)
  pub deadlines : (j : ℕ) → j < p.locks → (lock_at locks j).deadline ≡ smallest_deadline (suc j) (tasks_of p)

abbrev pub LowestAre : List Lock → List ℕ → Type 0
LowestAre locks ceilings = (j : ℕ) → j < 8 → get_or ceilings j 0 ≡ (lock_at locks j).lowest

abbrev pub LongestBelow : Part → List ℕ → Type 0
LongestBelow p table = (i j : ℕ) → i < 16 → j < 8 → get_or table (8 * i + j) 0 ≡ greatest (map (held_for (suc j)) (take i p.tasks))

-- the task at the place i has the number i + 1
abbrev pub blocked_for : ℕ → ℕ → ℕ → ℕ
blocked_for ceiling c i = cond (leb (suc i) ceiling) c 0

unfoldable pub blocking_by : List ℕ → List ℕ → ℕ → ℕ → ℕ
blocking_by below ceilings m i = greatest (map (λ j. blocked_for (get_or ceilings j 0) (get_or below (8 * i + j) 0) i) (count_from 0 m))

abbrev pub setting_from : List ℕ → ℕ → Setting
setting_from ceilings first l = get_or ceilings (first + (l - 1)) 0

abbrev pub setting_of : List ℕ → Setting
setting_of ceilings = setting_from ceilings 0

abbrev pub lower_than : ℕ → List Task → List Task
lower_than i ts = reverse (take i ts)
