-- A part of a readable file as the local test sees it: the numbers of its tasks are in range, and each of its locks has a task that uses it.
-- Assumes nothing.
use Prim.Native.Nat.{ℕ, zero, suc, ◌≤◌}
use native.Mathlib.Omega.{arith}
use mathlib.Core.Path.{◌≡◌, refl, sym, subst, ◌∙◌}
use mathlib.Core.Bool.{Bool, true, false}
use mathlib.Core.List.Memᴰ
use mathlib.Core.List.{List, [], ◌∷◌, map, Memᴰ}
use borrow.Author.Tests.{leb-true}
use lib.ListN.{length}
use Rattle.least.specs.Lists.{nth_or}
use Rattle.least.proofs.Lists.{some_iff, joined_map_iff, map_iff, nth_member}
use Rattle.least.proofs.Greatest.{greatest_each}
use Rattle.text.specs.Bytes.{same, among}
use Rattle.text.proofs.Bytes.{same_refl}
use Rattle.text.proofs.Names.{among-distinct}
use Rattle.task_set.specs.declared.Task.{Task}
use Rattle.task_set.specs.Tasks.{held_for, greatest_held}
use Rattle.task_set.specs.Code.Fine.{FineTask}
use Rattle.plan_file.specs.Above.{FileLock, FileTask, FilePart, lock_mentions, lock_names}
use Rattle.plan_file.specs.Reading.{locks_of}
use Rattle.plan_file.specs.Numbers.{held_under, task_in, tasks_in}
use Rattle.plan_file.proofs.SeenLocks.{held_none, held_here, held_later, known_held}
use Rattle.plan_file.proofs.Fine.{FineFileTask, FineFilePart}

nth_map_most : {A : Type 0} (f : A → ℕ) (b k : ℕ) (xs : List A) → ((x : A) → f x ≤ b) → nth_or 0 k (map f xs) ≤ b
unfolding nth_or
nth_map_most f b k [] h = omega arith
nth_map_most f b zero (x ∷ xs) h = omega arith
nth_map_most f b (suc zero) (x ∷ xs) h = h x
nth_map_most f b (suc (suc k)) (x ∷ xs) h = nth_map_most f b (suc k) xs h

pub nth_map : {A B : Type 0} (f : A → B) (d : A) (e : B) (k : ℕ) (xs : List A) → 1 ≤ k → k ≤ length xs → nth_or e k (map f xs) ≡ f (nth_or d k xs)
unfolding nth_or
nth_map f d e zero xs h l = absurd (omega arith)
nth_map f d e (suc k) [] h l = absurd (omega arith)
nth_map f d e (suc zero) (x ∷ xs) h l = refl
nth_map f d e (suc (suc k)) (x ∷ xs) h l = nth_map f d e (suc k) xs (omega arith) (omega arith)

-- what no lock of a list exceeds, the lock of a name among them does not exceed
held_most : (b : ℕ) (name : List ℕ) (ls : List FileLock) → ((l : FileLock) → Memᴰ l ls → l.held ≤ b) → held_under name ls ≤ b
held_most b name [] h = rw (held_none name) (omega arith)
held_most b name (l ∷ ls) h = go (same name l.name) refl (held_most b name ls (λ k m. h k (Memᴰ.tail m)))
  where
    go : (t : Bool) → same name l.name ≡ t → held_under name ls ≤ b → held_under name (l ∷ ls) ≤ b
    go true e ih = rw (held_here name l ls e) (h l (Memᴰ.head refl))
    go false e ih = rw (held_later name l ls e) ih

task_in_fine : (m : ℕ) (names : List (List ℕ)) (t : FileTask) → FineFileTask t → FineTask m (task_in names t)
unfolding task_in held_for
task_in_fine m names t f = record {
  cost_some = f.cost_some;
  cost_most = f.cost_most;
  deadline_most = f.deadline_most;
  separation_most = omega (arith, f.separation_most);
  uses_most = λ l h k. nth_map_most (λ name. held_under name t.locks) t.cost l names (λ name. held_most t.cost name t.locks (λ x m. (f.each_lock x m).held_most));
}

module _ (p : FilePart) (fine : FineFilePart p) where
  pub each_task_fine : (m : ℕ) (x : Task) → Memᴰ x (tasks_in p) → FineTask m x
  unfolding tasks_in
  each_task_fine m x k =
      let t = (map_iff (task_in (lock_names p)) x p.tasks).0 k in
      subst (FineTask m) t.2 (task_in_fine m (lock_names p) t.0 (fine.each_task t.0 t.1))

  -- a name of a lock stands on a lock line of some task
  mentioned : (name : List ℕ) → Memᴰ name (lock_names p) → (t : FileTask) × Memᴰ t p.tasks × (among name (locks_of t) ≡ true)
  unfolding among lock_names lock_mentions
  mentioned name k =
      let n = (some_iff (same name) (lock_mentions p)).0 (sym (among-distinct name (lock_mentions p)) ∙ (some_iff (same name) (lock_names p)).1 (name, k, same_refl name)) in
      let t = (joined_map_iff locks_of n.0 p.tasks).0 n.1 in
      (t.0, t.1, (some_iff (same name) (locks_of t.0)).1 (n.0, t.2, n.2))

  pub each_lock_used : (l : ℕ) → 1 ≤ l → l ≤ length (lock_names p) → 1 ≤ greatest_held l (tasks_in p)
  unfolding tasks_in task_in held_for greatest_held
  each_lock_used l h k =
      let name = nth_or [] l (lock_names p) in
      let t = mentioned name (nth_member [] l (lock_names p) h k) in
      let held : 1 ≤ held_under name t.0.locks = leb-true 1 (held_under name t.0.locks) (known_held name t.0.locks (λ x m. ((fine.each_task t.0 t.1).each_lock x m).held_some) ∙ t.2) in
      let is = nth_map (λ n. held_under n t.0.locks) [] 0 l (lock_names p) h k in
      omega (arith, held, is, greatest_each (held_for l) (tasks_in p) (task_in (lock_names p) t.0) (Memᴰ.map (task_in (lock_names p)) t.1))
