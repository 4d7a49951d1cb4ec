-- The tasks and locks of the struct `Part` by their places.
-- Assumes nothing.
use Prim.Native.Nat.{ℕ, zero, suc, ◌≤◌, ◌<◌}
use native.Mathlib.Omega.{arith}
use mathlib.Core.Path.{◌≡◌, refl, sym, ap, ◌∙◌}
use mathlib.Core.Bool.{false}
use mathlib.Core.List.{List, [], ◌∷◌, map, Memᴰ}
use lib.ListN.{length, take, drop, get_or, length-take, length-map, drop_of_length-le, get_or-map}
use lib.Seq.{drop-cons, get_or-take, length-take-le, take-take}
use Rattle.least.proofs.Lists.{nth_get}
use Rattle.least.proofs.Members.{place_of}
use Rattle.task_set.specs.declared.Task.{Task}
use Rattle.task_set.specs.declared.Part.{Part}
use Rattle.task_set.specs.Tasks.{held_for}
use Rattle.task_set.specs.Code.Tasks.{with_locks, tasks_of}
use Rattle.task_set.specs.Partition.{is_shared}
use Rattle.task_set.specs.Code.Partition.{partition_of}
use Rattle.task_set.specs.Code.Fine.{blank_task, FinePart}

drop-map : {A B : Type 0} (f : A → B) (k : ℕ) (l : List A) → drop k (map f l) ≡ map f (drop k l)
drop-map f zero l = refl
drop-map f (suc k) [] = refl
drop-map f (suc k) (x ∷ l) = drop-map f k l

take-map : {A B : Type 0} (f : A → B) (k : ℕ) (l : List A) → take k (map f l) ≡ map f (take k l)
take-map f zero l = refl
take-map f (suc k) [] = refl
take-map f (suc k) (x ∷ l) = ap (λ (r : List _). f x ∷ r) (take-map f k l)

module _ (p : Part) (fine : FinePart p) where
  pub tasks_at : (k : ℕ) → k < p.count → drop k (tasks_of p) ≡ with_locks p.locks (get_or p.tasks k blank_task) ∷ drop (suc k) (tasks_of p)
  unfolding tasks_of
  tasks_at k h =
      let l : k < length (take p.count p.tasks) = omega (arith, length-take-le p.count p.tasks (omega (arith, fine.few, fine.room))) in
      rw (drop-map, drop-map, drop-cons (take p.count p.tasks) k blank_task l, get_or-take p.count p.tasks k blank_task h)

  pub tasks_end : (k : ℕ) → p.count ≤ k → drop k (tasks_of p) ≡ []
  unfolding tasks_of
  tasks_end k h =
      drop_of_length-le (map (with_locks p.locks) (take p.count p.tasks)) {i = k}
      (omega (arith, length-map (take p.count p.tasks) (with_locks p.locks), length-take p.count p.tasks))

  pub tasks_length : length (tasks_of p) ≡ p.count
  unfolding tasks_of
  tasks_length = length-map (take p.count p.tasks) (with_locks p.locks) ∙ length-take-le p.count p.tasks (omega (arith, fine.few, fine.room))

  pub tasks_take : (k : ℕ) → k ≤ p.count → take k (tasks_of p) ≡ map (with_locks p.locks) (take k p.tasks)
  unfolding tasks_of
  tasks_take k h = take-map (with_locks p.locks) k (take p.count p.tasks) ∙ ap (map (with_locks p.locks)) (take-take k p.count p.tasks h)

  pub tasks_get : (k : ℕ) → k < p.count → get_or (tasks_of p) k (with_locks p.locks blank_task) ≡ with_locks p.locks (get_or p.tasks k blank_task)
  unfolding tasks_of
  tasks_get k h = get_or-map (with_locks p.locks) (take p.count p.tasks) k blank_task ∙ ap (with_locks p.locks) (get_or-take p.count p.tasks k blank_task h)

  -- every task stands at a place
  pub tasks_place : {t : Task} → Memᴰ t (tasks_of p) → (k : ℕ) × (k < p.count) × (t ≡ with_locks p.locks (get_or p.tasks k blank_task))
  tasks_place m =
      let h = place_of (with_locks p.locks blank_task) (tasks_of p) m in
      let l : h.0 < p.count = omega (arith, h.1, tasks_length) in
      (h.0, l, h.2 ∙ tasks_get h.0 l)

  -- and uses the locks that there are as it stands there
  pub held_at : (l : ℕ) → 1 ≤ l → l ≤ p.locks → (t : Task) → held_for l (with_locks p.locks t) ≡ held_for l t
  unfolding held_for
  held_at zero a b t = absurd (omega arith)
  held_at (suc j) a b t = nth_get 0 j (take p.locks t.uses) ∙ get_or-take p.locks t.uses j 0 (omega arith) ∙ sym (nth_get 0 j t.uses)

-- the lock at the place j
pub shared_at : (p : Part) (j : ℕ) → j < p.locks → is_shared (partition_of p) (suc j) ≡ get_or p.shared j false
unfolding is_shared
shared_at p j h = nth_get false j (take p.locks p.shared) ∙ get_or-take p.locks p.shared j false h
