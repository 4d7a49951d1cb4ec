-- For each n from 1 on, a part with n tasks and one shared lock, which only the lowest task uses. Each ceiling of the lock gives a kept pair of its own.
--   light n j     == a task of one tick that uses no lock, with j tasks above it
--   heavy n       == the lowest task: it holds the lock for all of its 4n ticks, and has n − 1 tasks above it
--   lights n j    == j light tasks, lowest priority first
--   stair_tasks n == the n tasks
--   stairs n      == the part, with the period 8n
-- A task's deadline is what it asks for, with the 4n ticks of blocking of a light one, and four ticks more for each task above it.
-- Assumes nothing.
use Prim.Native.Nat.{ℕ, zero, suc, ◌+◌, ◌-◌, ◌*◌, ◌≤◌, ◌<◌}
use native.Mathlib.Omega.{arith}
use mathlib.Core.Path.{◌≡◌, refl, ap, ◌∙◌}
use mathlib.Core.Bool.{true}
use mathlib.Core.List.{List, [], ◌∷◌, map}
use lib.ListN.{length, drop, get_or}
use borrow.Author.Tests.{le-leb}
use Rattle.least.specs.Round.{ceil_div}
use Rattle.least.specs.Lists.{sum, greatest, smallest, nth_or, those, numbers_from}
use Rattle.least.proofs.Round.{ceil_least, ceil_pos}
use Rattle.least.proofs.Lists.{those_pass}
use Rattle.task_set.specs.declared.Task.{Task}
use Rattle.task_set.specs.Tasks.{held_for, uses, demand_in, lowest_ceiling, greatest_held, smallest_deadline}
use Rattle.task_set.specs.Partition.{Partition}
use Rattle.task_set.specs.Code.Fine.{blank_task}

-- up to b, ⌈a/b⌉ is 1
pub ceil_one : (a b : ℕ) → 1 ≤ a → a ≤ b → ceil_div a b ≡ 1
ceil_one a b l u = omega (arith, ceil_least a b 1 (omega arith) (omega arith), ceil_pos a b (omega arith) l)

module _ (n : ℕ) where
  abbrev pub light : ℕ → Task
  light j = record { separation = 9 * n; cost = 1; deadline = 1 + 4 * n + 5 * j; uses = 0 ∷ [] }

  abbrev pub heavy : Task
  heavy = record { separation = 9 * n; cost = 4 * n; deadline = 4 * n + 5 * (n - 1); uses = 4 * n ∷ [] }

  unfoldable pub lights : ℕ → List Task
  lights zero = []
  lights (suc j) = light j ∷ lights j

  abbrev pub stair_tasks : List Task
  stair_tasks = heavy ∷ lights (n - 1)

  abbrev pub stairs : Partition
  stairs = record { period = 8 * n; tasks = stair_tasks; locks = 1; shared = true ∷ [] }

  -- the light tasks by places
  lights_length : (p : ℕ) → length (lights p) ≡ p
  unfolding lights
  lights_length zero = refl
  lights_length (suc p) = ap suc (lights_length p)

  pub lights_drop : (k p : ℕ) → drop k (lights p) ≡ lights (p - k)
  unfolding lights
  lights_drop zero p = let e : p - 0 ≡ p = omega arith in rw e refl
  lights_drop (suc k) zero = let e : 0 - suc k ≡ 0 = omega arith in rw e refl
  lights_drop (suc k) (suc p) = let e : suc p - suc k ≡ p - k = omega arith in rw e (lights_drop k p)

  pub lights_get : (k p : ℕ) → k < p → get_or (lights p) k blank_task ≡ light (p - suc k)
  unfolding lights
  lights_get k zero h = absurd (omega arith)
  lights_get zero (suc p) h = ap light (omega arith)
  lights_get (suc k) (suc p) h = lights_get k p (omega arith) ∙ ap light (omega arith)

  -- each asks for one tick in up to 9n ticks
  pub lights_demand : (p w : ℕ) → 1 ≤ w → w ≤ 9 * n → demand_in (lights p) w ≡ p
  unfolding demand_in sum lights
  lights_demand zero w a b = refl
  lights_demand (suc p) w a b = omega (arith, ceil_one w (9 * n) a b, lights_demand p w a b)

  -- none holds the lock
  lights_held : (p : ℕ) → greatest (map (held_for 1) (lights p)) ≡ 0
  unfolding held_for nth_or greatest lights
  lights_held zero = refl
  lights_held (suc p) = omega (arith, lights_held p)

  lights_numbers : (p i : ℕ) → numbers_from i (uses 1) (lights p) ≡ []
  unfolding held_for nth_or numbers_from lights
  lights_numbers zero i = refl
  lights_numbers (suc p) i = lights_numbers p (suc i)

  lights_users : (p : ℕ) → those (uses 1) (lights p) ≡ []
  unfolding held_for nth_or those lights
  lights_users zero = refl
  lights_users (suc p) = lights_users p

  -- the part
  pub held_longest : greatest_held 1 stair_tasks ≡ 4 * n
  unfolding greatest_held held_for nth_or greatest
  held_longest = omega (arith, lights_held (n - 1))

  module _ (some : 1 ≤ n) where
    pub stairs_length : length stair_tasks ≡ n
    stairs_length = omega (arith, lights_length (n - 1))

    heavy_uses : uses 1 heavy ≡ true
    unfolding held_for nth_or
    heavy_uses = le-leb 1 (4 * n) (omega arith)

    pub ceiling_lowest : lowest_ceiling 1 stair_tasks ≡ 1
    unfolding lowest_ceiling numbers_from greatest
    ceiling_lowest = rw (heavy_uses, numbers_from, lights_numbers (n - 1) 2) refl

    pub deadline_smallest : smallest_deadline 1 stair_tasks ≡ 4 * n + 5 * (n - 1)
    unfolding smallest_deadline smallest
    deadline_smallest = rw (those_pass (uses 1) heavy (lights (n - 1)) heavy_uses, lights_users (n - 1)) refl

    pub above_ceiling : (r m : ℕ) → 1 ≤ r → r + m ≡ n → drop r stair_tasks ≡ lights m
    above_ceiling zero m a e = absurd (omega arith)
    above_ceiling (suc k) m a e = lights_drop k (n - 1) ∙ ap lights (omega arith)
