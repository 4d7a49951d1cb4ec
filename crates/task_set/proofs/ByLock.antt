-- The locks of a part: what one more task adds to a lock, and how large a lock's numbers are.
--   due l ts            == the smallest deadline of the users of lock l, and of the limit of numbers
--   Counted l ts k lock == the tasks before the place k are counted in the lock: with the tasks from k on it makes up lock l
-- Assumes nothing.
use Prim.Native.Nat.{ℕ, suc, ◌+◌, min, max, ◌≤◌, ◌<◌}
use native.Mathlib.Numerals.{add-one}
use native.Mathlib.Omega.{arith}
use native.Mathlib.Decide.{dec_le}
use mathlib.Core.Path.{◌≡◌, refl, ap, ◌∙◌}
use mathlib.Core.Bool.{true}
use mathlib.Core.Logic.{⊎_elim}
use mathlib.Core.List.Memᴰ
use mathlib.Core.List.{List, [], ◌∷◌, map, Memᴰ}
use lib.ListN.{drop, get_or}
use borrow.Author.Tests.{le-leb, lt-leb}
use Rattle.least.specs.Lists.{greatest, smallest, those, numbers_from}
use Rattle.least.proofs.Lists.{smallest_member, those_pass, those_fail, those_iff, map_iff, nth_get}
use Rattle.least.proofs.Greatest.{greatest_le, greatest_reached}
use Rattle.least.proofs.Numbers.{numbers_pass, numbers_fail, numbers_most}
use Rattle.refusal.specs.Limits.{number_limit}
use Rattle.task_set.specs.declared.Task.{Task}
use Rattle.task_set.specs.declared.Part.{Part}
use Rattle.task_set.specs.declared.Lock.{Lock}
use Rattle.task_set.specs.Tasks.{held_for, uses, lowest_ceiling, greatest_held, smallest_deadline}
use Rattle.task_set.specs.Code.Tasks.{with_locks, tasks_of}
use Rattle.task_set.specs.Code.Fine.{blank_task, FinePart}
use Rattle.task_set.specs.Code.ByLock.{lock_of, with_user}
use Rattle.task_set.proofs.Places.{tasks_at, tasks_end, tasks_length, tasks_place, held_at}

-- the smallest of these deadlines, and of the limit of numbers
unfoldable pub least_due : List ℕ → ℕ
least_due [] = number_limit
least_due (x ∷ xs) = min x (least_due xs)

least_smallest : (xs : List ℕ) (y : ℕ) → Memᴰ y xs → ((x : ℕ) → Memᴰ x xs → x ≤ number_limit) → least_due xs ≡ smallest xs
unfolding smallest least_due
least_smallest [] y m most = elim m [ ]
least_smallest (x ∷ []) y m most = omega (arith, most x (Memᴰ.head refl))
least_smallest (x ∷ z ∷ zs) y m most = ap (min x) (least_smallest (z ∷ zs) z (Memᴰ.head refl) (λ u k. most u (Memᴰ.tail k)))

-- one more task
module _ (lock : Lock) (number c deadline : ℕ) where
  pub with_none : c < 1 → with_user lock number c deadline ≡ lock
  unfolding with_user
  with_none h = rw (lt-leb 1 c h) refl

  pub with_some : 1 ≤ c → with_user lock number c deadline ≡ record { lowest = number; longest = max lock.longest c; deadline = min lock.deadline deadline }
  unfolding with_user
  with_some h = rw (le-leb 1 c h) refl

pub same_lock : (a b : Lock) → a.lowest ≡ b.lowest → a.longest ≡ b.longest → a.deadline ≡ b.deadline → a ≡ b
same_lock a b x y z = λ i. record { lowest = x i; longest = y i; deadline = z i }

abbrev pub due : ℕ → List Task → ℕ
due l ts = least_due (map (λ k. k.deadline) (those (uses l) ts))

-- the numbers of lock l over one task more
module _ (l : ℕ) (t : Task) (ts : List Task) where
  longest_next : greatest_held l (t ∷ ts) ≡ max (held_for l t) (greatest_held l ts)
  unfolding greatest_held greatest
  longest_next = refl

  lowest_unused : (k : ℕ) → held_for l t < 1 → numbers_from k (uses l) (t ∷ ts) ≡ numbers_from (suc k) (uses l) ts
  lowest_unused k h = numbers_fail (uses l) k t ts (lt-leb 1 (held_for l t) h)

  lowest_used : (k : ℕ) → 1 ≤ held_for l t → greatest (numbers_from k (uses l) (t ∷ ts)) ≡ max k (greatest (numbers_from (suc k) (uses l) ts))
  unfolding greatest
  lowest_used k h = rw (numbers_pass (uses l) k t ts (le-leb 1 (held_for l t) h)) refl

  due_unused : held_for l t < 1 → due l (t ∷ ts) ≡ due l ts
  due_unused h = rw (those_fail (uses l) t ts (lt-leb 1 (held_for l t) h)) refl

  due_used : 1 ≤ held_for l t → due l (t ∷ ts) ≡ min t.deadline (due l ts)
  unfolding least_due
  due_used h = rw (those_pass (uses l) t ts (le-leb 1 (held_for l t) h)) refl

pub record Counted (l : ℕ) (ts : List Task) (k : ℕ) (lock : Lock) : Type 0 where
  pub passed : lock.lowest ≤ k
  pub lowest : max lock.lowest (greatest (numbers_from (suc k) (uses l) (drop k ts))) ≡ lowest_ceiling l ts
  pub longest : max lock.longest (greatest_held l (drop k ts)) ≡ greatest_held l ts
  pub within : lock.deadline ≤ number_limit
  pub deadline : min lock.deadline (due l (drop k ts)) ≡ due l ts

module _ (l : ℕ) (ts : List Task) where
  least_most : (xs : List ℕ) → least_due xs ≤ number_limit
  unfolding least_due
  least_most [] = omega arith
  least_most (x ∷ xs) = omega (arith, least_most xs)

  pub counted_start : Counted l ts 0 (record { lowest = 0; longest = 0; deadline = number_limit })
  unfolding lowest_ceiling
  counted_start = record { passed = omega arith; lowest = omega arith; longest = omega arith; within = omega arith; deadline = omega (arith, least_most (map (λ k. k.deadline) (those (uses l) ts))) }

  pub counted_step : (k : ℕ) (lock : Lock) (t : Task) → drop k ts ≡ t ∷ drop (suc k) ts → Counted l ts k lock → Counted l ts (k + 1) (with_user lock (k + 1) (held_for l t) t.deadline)
  counted_step k lock t e done = rw add-one (go (dec_le 1 (held_for l t)))
    where
      rest : List Task
      rest = drop (suc k) ts

      longer : greatest_held l (drop k ts) ≡ max (held_for l t) (greatest_held l rest)
      longer = ap (greatest_held l) e ∙ longest_next l t rest

      go : Dec (1 ≤ held_for l t) → Counted l ts (suc k) (with_user lock (suc k) (held_for l t) t.deadline)
      go (yes h) = rw (with_some lock (suc k) (held_for l t) t.deadline h) (record {
        passed = omega arith;
        lowest = omega (arith, ap (λ us. greatest (numbers_from (suc k) (uses l) us)) e, lowest_used l t rest (suc k) h, done.lowest, done.passed);
        longest = omega (arith, longer, done.longest);
        within = omega (arith, done.within);
        deadline = omega (arith, ap (due l) e, due_used l t rest h, done.deadline);
      })
      go (no h) =
          let unused : held_for l t < 1 = omega arith in
          rw (with_none lock (suc k) (held_for l t) t.deadline unused) (record {
            passed = omega (arith, done.passed);
            lowest = omega (arith, ap (λ us. greatest (numbers_from (suc k) (uses l) us)) e, ap greatest (lowest_unused l t rest (suc k) unused), done.lowest);
            longest = omega (arith, longer, done.longest);
            within = done.within;
            deadline = omega (arith, ap (due l) e, due_unused l t rest unused, done.deadline);
          })

  counted_all : (k : ℕ) (lock : Lock) → drop k ts ≡ [] → Counted l ts k lock → lock ≡ record { lowest = lowest_ceiling l ts; longest = greatest_held l ts; deadline = due l ts }
  unfolding greatest greatest_held least_due those numbers_from
  counted_all k lock e done =
      same_lock lock _
      (omega (arith, done.lowest, ap (λ us. greatest (numbers_from (suc k) (uses l) us)) e))
      (omega (arith, done.longest, ap (greatest_held l) e))
      (omega (arith, done.within, done.deadline, ap (due l) e))

-- the locks of a part
module _ (p : Part) (fine : FinePart p) where
  fine_deadline : (t : Task) → Memᴰ t (tasks_of p) → (1 ≤ t.deadline) × (t.deadline ≤ number_limit)
  fine_deadline t m =
      let h = tasks_place p fine m in
      let f = fine.each h.0 h.1 in
      let e = ap (λ (t : Task). t.deadline) h.2 in
      (omega arith, omega arith)

  -- the turn of a loop over the tasks
  pub counted_next : (j : ℕ) → j < p.locks → (k : ℕ) → k < p.count → (lock : Lock) → Counted (suc j) (tasks_of p) k lock → Counted (suc j) (tasks_of p) (k + 1) (with_user lock (k + 1) (get_or (get_or p.tasks k blank_task).uses j 0) (get_or p.tasks k blank_task).deadline)
  unfolding held_for
  counted_next j h k l lock done =
      let t = get_or p.tasks k blank_task in
      let e : held_for (suc j) (with_locks p.locks t) ≡ get_or t.uses j 0 = held_at p fine (suc j) (omega arith) (omega arith) t ∙ nth_get 0 j t.uses in
      rw e at (counted_step (suc j) (tasks_of p) k lock (with_locks p.locks t) (tasks_at p fine k l) done)

  module _ (l : ℕ) (from : 1 ≤ l) (upto : l ≤ p.locks) where
    pub held_most : (t : Task) → Memᴰ t (tasks_of p) → held_for l t ≤ number_limit
    held_most t m =
        let h = tasks_place p fine m in
        let f = fine.each h.0 h.1 in
        omega (arith, ap (held_for l) h.2, held_at p fine l from upto (get_or p.tasks h.0 blank_task), f.uses_most l from upto)

    user : (t : Task) × Memᴰ t (tasks_of p) × (uses l t ≡ true)
    unfolding greatest_held
    user =
        let some = fine.used l from upto in
        ⊎_elim (λ z. absurd (omega arith)) (λ r. (r.0, r.1, le-leb 1 (held_for l r.0) (omega (arith, r.2)))) (greatest_reached (held_for l) (tasks_of p))

    pub lowest_most : lowest_ceiling l (tasks_of p) ≤ p.count
    unfolding lowest_ceiling
    lowest_most = omega (arith, numbers_most (uses l) 0 (tasks_of p), tasks_length p fine)

    pub longest_most : greatest_held l (tasks_of p) ≤ number_limit
    unfolding greatest_held
    longest_most = greatest_le (held_for l) number_limit (tasks_of p) held_most

    -- the smallest deadline is that of a task
    smallest_due : (t : Task) × Memᴰ t (tasks_of p) × (t.deadline ≡ smallest_deadline l (tasks_of p))
    unfolding smallest_deadline
    smallest_due =
        let some = Memᴰ.map (λ k. k.deadline) ((those_iff (uses l) user.0 (tasks_of p)).1 (user.1, user.2)) in
        let h = (map_iff (λ k. k.deadline) (smallest_deadline l (tasks_of p)) (those (uses l) (tasks_of p))).0 (smallest_member (map (λ k. k.deadline) (those (uses l) (tasks_of p))) some) in
        (h.0, ((those_iff (uses l) h.0 (tasks_of p)).0 h.1).0, h.2)

    pub deadline_most : smallest_deadline l (tasks_of p) ≤ number_limit
    deadline_most = let d = smallest_due in omega (arith, d.2, fine_deadline d.0 d.1)

    -- and so the smallest of them within the limit
    due_smallest : due l (tasks_of p) ≡ smallest_deadline l (tasks_of p)
    unfolding smallest_deadline
    due_smallest =
        least_smallest _ user.0.deadline (Memᴰ.map (λ k. k.deadline) ((those_iff (uses l) user.0 (tasks_of p)).1 (user.1, user.2))) each
      where
        each : (x : ℕ) → Memᴰ x (map (λ k. k.deadline) (those (uses l) (tasks_of p))) → x ≤ number_limit
        each x m =
            let h = (map_iff (λ k. k.deadline) x (those (uses l) (tasks_of p))).0 m in
            omega (arith, h.2, fine_deadline h.0 ((those_iff (uses l) h.0 (tasks_of p)).0 h.1).0)

    -- once all tasks are counted
    pub counted_end : (k : ℕ) (lock : Lock) → p.count ≤ k → Counted l (tasks_of p) k lock → lock ≡ lock_of l (tasks_of p)
    counted_end k lock h done = counted_all l (tasks_of p) k lock (tasks_end p fine k h) done ∙ ap (λ d. record { lowest = lowest_ceiling l (tasks_of p); longest = greatest_held l (tasks_of p); deadline = d }) due_smallest
