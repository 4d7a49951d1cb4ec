-- The locks of a part, from one walk over its tasks.
--   Walked p k j locks == the array counts the tasks before the place k in each lock of the part, and the task at k in the locks before the place j
-- Assumes nothing.
use Prim.Native.Nat.{ℕ, suc, ◌+◌, ◌≤◌, ◌<◌}
use native.Mathlib.Omega.{arith}
use native.Mathlib.Decide.{ℕ_discrete}
use mathlib.Core.Path.{◌≡◌, sym, ap, ◌∙◌, subst}
use mathlib.Core.List.{List}
use lib.ListN.{length, get_or, set, replicate, length-set, length-replicate, get_or-replicate}
use lib.Seq.{get_or-set_same, get_or-set_other}
use Rattle.refusal.specs.Limits.{number_limit}
use Rattle.task_set.specs.declared.Part.{Part}
use Rattle.task_set.specs.declared.Lock.{Lock}
use Rattle.task_set.specs.Code.Tasks.{tasks_of}
use Rattle.task_set.specs.Code.Fine.{blank_task, FinePart}
use Rattle.task_set.specs.Code.ByLock.{lock_of, with_user, blank_lock, lock_at, LocksAre}
use Rattle.task_set.proofs.ByLock.{Counted, counted_start, counted_next, counted_end}

pub record Walked (p : Part) (k j : ℕ) (locks : List Lock) : Type 0 where
  pub room : length locks ≡ 8
  pub counted : (l : ℕ) → l < j → l < p.locks → Counted (suc l) (tasks_of p) (k + 1) (lock_at locks l)
  pub left : (l : ℕ) → j ≤ l → l < p.locks → Counted (suc l) (tasks_of p) k (lock_at locks l)

module _ (p : Part) (fine : FinePart p) where
  pub walked_start : Walked p 0 0 (replicate 8 (record { lowest = 0; longest = 0; deadline = number_limit }))
  walked_start = record {
    room = length-replicate 8 new;
    counted = λ l a b. absurd (omega arith);
    left = λ l a b. subst (Counted (suc l) (tasks_of p) 0) (sym (get_or-replicate 8 l new blank_lock (omega (arith, fine.few_locks)))) (counted_start (suc l) (tasks_of p));
  }
    where
      new : Lock
      new = record { lowest = 0; longest = 0; deadline = number_limit }

  module _ (k j : ℕ) (locks : List Lock) (w : Walked p k j locks) where
    -- the task at k is counted in the lock at the place j
    pub walked_step : k < p.count → j < 8 → (lock : Lock) → lock ≡ with_user (lock_at locks j) (k + 1) (get_or (get_or p.tasks k blank_task).uses j 0) (get_or p.tasks k blank_task).deadline → Walked p k (j + 1) (set locks j lock)
    walked_step h u lock e = record {
      room = length-set locks j lock ∙ w.room;
      counted = λ l a b. at l a b (ℕ_discrete l j);
      left = λ l a b. subst (Counted (suc l) (tasks_of p) k) (sym (get_or-set_other locks j l lock blank_lock (λ q. omega arith))) (w.left l (omega arith) b);
    }
      where
        at : (l : ℕ) → l < j + 1 → l < p.locks → Dec (l ≡ j) → Counted (suc l) (tasks_of p) (k + 1) (lock_at (set locks j lock) l)
        at l a b (yes q) =
            let c : j < p.locks = omega arith in
            rw q (subst (Counted (suc j) (tasks_of p) (k + 1)) (sym (get_or-set_same locks j lock blank_lock (omega (arith, w.room)) ∙ e)) (counted_next p fine j c k h (lock_at locks j) (w.left j (omega arith) c)))
        at l a b (no q) = subst (Counted (suc l) (tasks_of p) (k + 1)) (sym (get_or-set_other locks j l lock blank_lock q)) (w.counted l (omega arith) b)

  pub walked_end : (k : ℕ) (locks : List Lock) → p.count ≤ k → Walked p k 0 locks → LocksAre p locks
  walked_end k locks h w = record {
    lowest = λ l b. ap (λ (lock : Lock). lock.lowest) (whole l b);
    longest = λ l b. ap (λ (lock : Lock). lock.longest) (whole l b);
    deadlines = λ l b. ap (λ (lock : Lock). lock.deadline) (whole l b);
  }
    where
      whole : (l : ℕ) → l < p.locks → lock_at locks l ≡ lock_of (suc l) (tasks_of p)
      whole l b = counted_end p fine (suc l) (omega arith) (omega arith) k (lock_at locks l) h (w.left l (omega arith) b)
