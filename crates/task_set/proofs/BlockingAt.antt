-- The blocking by ceilings and the table of the longest uses: it is the paper's blocking, and it is small.
-- Assumes nothing.
use Prim.Native.Nat.{ℕ, zero, suc, ◌+◌, ◌-◌, ◌*◌, ◌≤◌, ◌<◌}
use native.Mathlib.Nat.{zero-add}
use native.Mathlib.Omega.{arith}
use native.Mathlib.Decide.{dec_le}
use mathlib.Core.Path.{◌≡◌, refl, ap, ◌∙◌}
use mathlib.Core.Logic.{⊎_elim}
use mathlib.Core.List.Memᴰ
use mathlib.Core.List.{List, Memᴰ}
use lib.ListN.{length, take, get_or}
use borrow.Author.Tests.{le-leb, lt-leb}
use Rattle.least.specs.Lists.{count_from}
use Rattle.least.proofs.Lists.{count_from_lem, count_to, map_iff}
use Rattle.least.proofs.Greatest.{greatest_each, greatest_le}
use Rattle.least.proofs.Members.{reverse_iff}
use Rattle.refusal.specs.Limits.{number_limit}
use Rattle.task_set.specs.declared.Task.{Task}
use Rattle.task_set.specs.declared.Part.{Part}
use Rattle.task_set.specs.Tasks.{held_for}
use Rattle.task_set.specs.Code.Tasks.{with_locks, tasks_of}
use Rattle.task_set.specs.Blocking.{Setting, blocking_of}
use Rattle.task_set.specs.Code.Fine.{FinePart}
use Rattle.task_set.specs.Code.ByLock.{LongestBelow, blocked_for, blocking_by, setting_from, setting_of, lower_than}
use Rattle.task_set.proofs.Places.{tasks_length, tasks_take, held_at}
use Rattle.task_set.proofs.Blocking.{Reaches, Blocks, blocking_paper}
use Rattle.task_set.proofs.ByLock.{held_most}
use Rattle.task_set.proofs.Users.{lower_among, lower_count}

pub blocked_for_is : (ceiling c i : ℕ) → i < ceiling → blocked_for ceiling c i ≡ c
blocked_for_is ceiling c i h = rw (le-leb (suc i) ceiling h) refl

pub blocked_for_not : (ceiling c i : ℕ) → ceiling ≤ i → blocked_for ceiling c i ≡ 0
blocked_for_not ceiling c i h = rw (lt-leb (suc i) ceiling (omega arith)) refl

-- the ceiling at each place
pub setting_from_at : (ceilings : List ℕ) (first j : ℕ) → setting_from ceilings first (suc j) ≡ get_or ceilings (first + j) 0
setting_from_at ceilings first j = let e : suc j - 1 ≡ j = omega arith in rw e refl

pub setting_at : (ceilings : List ℕ) (j : ℕ) → setting_of ceilings (suc j) ≡ get_or ceilings j 0
setting_at ceilings j = setting_from_at ceilings 0 j ∙ ap (λ (i : ℕ). get_or ceilings i 0) (zero-add j)

-- tasks of a fine part block for no more ticks than a number may have
pub blocking_most : (p : Part) → FinePart p → (σ : Setting) (lower : List Task) → ((t : Task) → Memᴰ t lower → Memᴰ t (tasks_of p)) → blocking_of p.locks σ lower ≤ number_limit
blocking_most p fine σ lower among =
    ⊎_elim (λ z. omega (arith, z)) (λ r. let k = r.2.1 in omega (arith, r.3, held_most p fine r.1 k.from k.upto r.0 (among r.0 r.2.0))) (blocking_paper p.locks σ lower).1

module _ (p : Part) (fine : FinePart p) (i : ℕ) (here : i < p.count) where
  lower_length : length (lower_than i (tasks_of p)) ≡ i
  lower_length = lower_count (tasks_of p) i (omega (arith, tasks_length p fine))

  -- a task of the struct below the place i is one of them, and they are no others
  lower_of : (u : Task) → Memᴰ u (take i p.tasks) → Memᴰ (with_locks p.locks u) (lower_than i (tasks_of p))
  lower_of u m = (reverse_iff _ (take i (tasks_of p))).1 (rw (tasks_take p fine i (omega arith)) (Memᴰ.map (with_locks p.locks) m))

  of_lower : (t : Task) → Memᴰ t (lower_than i (tasks_of p)) → (u : Task) × Memᴰ u (take i p.tasks) × (with_locks p.locks u ≡ t)
  of_lower t m = (map_iff (with_locks p.locks) t (take i p.tasks)).0 (rw (tasks_take p fine i (omega arith)) at ((reverse_iff t (take i (tasks_of p))).0 m))

  module _ (table ceilings : List ℕ) (below : LongestBelow p table) where
    abbrev by : ℕ → ℕ
    by j = blocked_for (get_or ceilings j 0) (get_or table (8 * i + j) 0) i

    abbrev blocking : ℕ
    blocking = blocking_of p.locks (setting_of ceilings) (lower_than i (tasks_of p))

    -- a lock blocks no longer than all of them
    each_most : (j : ℕ) → j < p.locks → by j ≤ blocking
    each_most j l = go (dec_le (suc i) (get_or ceilings j 0))
      where
        reaches : suc i ≤ get_or ceilings j 0 → Reaches p.locks (setting_of ceilings) (suc (length (lower_than i (tasks_of p)))) (suc j)
        reaches h = record { from = omega arith; upto = l; ceiling = omega (arith, setting_at ceilings j, lower_length) }

        held : suc i ≤ get_or ceilings j 0 → (u : Task) → Memᴰ u (take i p.tasks) → held_for (suc j) u ≤ blocking
        held h u m =
            omega (arith, held_at p fine (suc j) (omega arith) l u, (blocking_paper p.locks (setting_of ceilings) (lower_than i (tasks_of p))).0 (with_locks p.locks u) (suc j) (lower_of u m, reaches h))

        go : Dec (suc i ≤ get_or ceilings j 0) → by j ≤ blocking
        go (no h) = omega (arith, blocked_for_not (get_or ceilings j 0) (get_or table (8 * i + j) 0) i (omega arith))
        go (yes h) =
            let most = greatest_le (held_for (suc j)) blocking (take i p.tasks) (held h) in
            omega (arith, blocked_for_is (get_or ceilings j 0) (get_or table (8 * i + j) 0) i h, below i j (omega (arith, fine.few)) (omega (arith, fine.few_locks)))

    by_most : blocking_by table ceilings p.locks i ≤ blocking
    unfolding blocking_by
    by_most = greatest_le by blocking (count_from 0 p.locks) (λ j m. each_most j (omega (arith, (count_from_lem p.locks 0 j m).1)))

    -- and one of them blocks as long
    reached_most : (t : Task) (l : ℕ) → Blocks p.locks (setting_of ceilings) (lower_than i (tasks_of p)) t l → held_for l t ≤ blocking_by table ceilings p.locks i
    unfolding blocking_by
    reached_most t zero (m, r) = absurd (omega (arith, r.from))
    reached_most t (suc j) (m, r) =
        let u = of_lower t m in
        let e = ap (held_for (suc j)) u.2 in
        let same = held_at p fine (suc j) (omega arith) r.upto u.0 in
        let held = greatest_each (held_for (suc j)) (take i p.tasks) u.0 u.1 in
        let entry = below i j (omega (arith, fine.few)) (omega (arith, fine.few_locks, r.upto)) in
        let is = blocked_for_is (get_or ceilings j 0) (get_or table (8 * i + j) 0) i (omega (arith, r.ceiling, setting_at ceilings j, lower_length)) in
        omega (arith, greatest_each by (count_from 0 p.locks) j (count_to p.locks 0 j (omega arith) (omega (arith, r.upto))))

    pub blocking_same : blocking_by table ceilings p.locks i ≡ blocking_of p.locks (setting_of ceilings) (lower_than i (tasks_of p))
    blocking_same = ⊎_elim (λ z. omega (arith, z, by_most)) (λ r. omega (arith, r.3, by_most, reached_most r.0 r.1 r.2)) (blocking_paper p.locks (setting_of ceilings) (lower_than i (tasks_of p))).1

    pub blocking_small : blocking_by table ceilings p.locks i ≤ number_limit
    blocking_small = omega (arith, blocking_same, blocking_most p fine (setting_of ceilings) (lower_than i (tasks_of p)) (lower_among (tasks_of p) i))
