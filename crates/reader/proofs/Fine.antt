-- The numbers of the part at each place that the reader hands on are in range.
--   PartFine p == so of the struct p
-- Assumes nothing.
use Prim.Native.Nat.{ℕ, zero, suc, ◌≤◌, ◌<◌}
use native.Mathlib.Omega.{arith}
use mathlib.Core.Path.{◌≡◌, sym, subst, ◌∙◌}
use mathlib.Core.List.Memᴰ
use mathlib.Core.List.{List, Memᴰ}
use lib.ListN.{length, take, get_or}
use lib.Seq.{get_or-take, length-take-le}
use Rattle.least.proofs.Lists.{nth_get}
use Rattle.least.proofs.Members.{get_d_any, get_d_member}
use Rattle.refusal.specs.Limits.{number_limit}
use Rattle.task_set.specs.declared.Task.{Task}
use Rattle.task_set.specs.declared.Part.{Part}
use Rattle.task_set.specs.Tasks.{held_for}
use Rattle.task_set.specs.Code.Tasks.{with_locks, tasks_of}
use Rattle.task_set.specs.Code.Fine.{blank_task, FineTask, FinePart}
use Rattle.plan_file.proofs.PlanParts.{FinePlanPart, parts_fine}
use Rattle.reader.specs.declared.PartRead.{PartRead}
use Rattle.reader.specs.declared.PlanFile.{PlanFile}
use Rattle.reader.specs.Code.Reader.{part_of, parts_in, FineCounts, blank_part, ReadIs}
use Rattle.reader.proofs.Handed.{parts_count, part_at_lem}

-- the struct's task at a place is one of the part's tasks, and within the part's locks it holds them as long
task_member : (p : Part) → p.count ≤ length p.tasks → (k : ℕ) → k < p.count → Memᴰ (with_locks p.locks (get_or p.tasks k blank_task)) (tasks_of p)
unfolding tasks_of
task_member p r k h =
    let m = get_d_member (take p.count p.tasks) k blank_task (omega (arith, length-take-le p.count p.tasks r)) in
    Memᴰ.map (with_locks p.locks) (rw (get_or-take p.count p.tasks k blank_task h) at m)

held_within : (m l : ℕ) (t : Task) → 1 ≤ l → l ≤ m → held_for l (with_locks m t) ≡ held_for l t
unfolding held_for
held_within m zero t h k = absurd (omega arith)
held_within m (suc j) t h k = nth_get 0 j (take m t.uses) ∙ (get_or-take m t.uses j 0 k ∙ sym (nth_get 0 j t.uses))

within_fine : (m : ℕ) (t : Task) → FineTask m (with_locks m t) → FineTask m t
within_fine m t f = record {
  cost_some = f.cost_some;
  cost_most = f.cost_most;
  deadline_most = f.deadline_most;
  separation_most = f.separation_most;
  uses_most = λ l h k. rw (held_within m l t h k) at (f.uses_most l h k);
}

pub record PartFine (p : Part) : Type 0 where
  pub fine : FinePart p
  pub period_some : 1 ≤ p.period
  pub period_most : p.period ≤ number_limit

part_fine : (s : List ℕ) (r : PartRead) → FineCounts r → FinePlanPart (part_of s r) → PartFine r.part
unfolding part_of
part_fine s r counts fine = record {
  fine = record {
    few = counts.few;
    room = counts.room;
    few_locks = counts.few_locks;
    each = λ k h. within_fine r.part.locks (get_or r.part.tasks k blank_task) (fine.each_task r.part.locks _ (task_member r.part (omega (arith, counts.few, counts.room)) k h));
    used = fine.each_lock;
  };
  period_some = fine.period_some;
  period_most = fine.period_most;
}

pub counts_at : (s : List ℕ) (f : PlanFile) → ReadIs s f → (k : ℕ) (d : PartRead) → k < f.count → FineCounts (get_or f.parts k d)
counts_at s f is k d l = subst FineCounts (get_d_any f.parts k blank_part d (omega (arith, is.few, is.room))) (is.counts k l)

pub handed_fine : (s : List ℕ) (f : PlanFile) → ReadIs s f → (k : ℕ) (d : PartRead) → k < f.count → PartFine (get_or f.parts k d).part
handed_fine s f is k d l =
    let m = get_d_member (parts_in s f) k (part_of s d) (omega (arith, parts_count s f is)) in
    part_fine s (get_or f.parts k d) (counts_at s f is k d l) (subst FinePlanPart (part_at_lem s f k d l) (parts_fine s (parts_in s f) is.value _ m))
