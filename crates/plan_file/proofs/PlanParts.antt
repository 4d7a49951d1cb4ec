-- The parts of a readable file, as every definition above reading sees them: their names are short, those of their locks good, their numbers and counts in range,
-- each has a task, and each lock has a user.
--   FinePlanPart p == so of the part p
-- Assumes nothing.
use Prim.Native.Nat.{ℕ, ◌≤◌}
use native.Mathlib.Omega.{arith}
use mathlib.Core.Path.{◌≡◌, refl, sym, ap, subst}
use mathlib.Core.Bool.{true}
use mathlib.Core.List.{List, Memᴰ}
use lib.ListN.{length, length-map}
use Rattle.least.proofs.Lists.{map_iff}
use Rattle.refusal.specs.Limits.{number_limit, part_limit, task_limit, lock_limit, name_limit}
use Rattle.refusal.specs.Questions.Answer.{answered}
use Rattle.fields.specs.Fields.{is_name}
use Rattle.task_set.specs.declared.Task.{Task}
use Rattle.task_set.specs.Tasks.{greatest_held}
use Rattle.task_set.specs.Code.Fine.{FineTask}
use Rattle.plan_file.specs.Above.{FilePart, lock_names}
use Rattle.plan_file.specs.Numbers.{PlanPart, task_in, tasks_in, is_shared_in, plan_part, parts_of}
use Rattle.plan_file.proofs.Reading.{parts_read}
use Rattle.plan_file.proofs.Fine.{FineFilePart, name_short, read_fine, read_few}
use Rattle.plan_file.proofs.FineTasks.{each_task_fine, each_lock_used}
use Rattle.plan_file.proofs.SomePart.{read_some}
use Rattle.plan_file.proofs.SomeTask.{each_part_has_task}

pub record FinePlanPart (p : PlanPart) : Type 0 where
  pub period_some : 1 ≤ p.numbers.period
  pub period_most : p.numbers.period ≤ number_limit
  pub some_task : 1 ≤ length p.numbers.tasks
  pub few_tasks : length p.numbers.tasks ≤ task_limit
  pub few_locks : p.numbers.locks ≤ lock_limit
  pub locks_are : length p.locks ≡ p.numbers.locks
  pub shared_are : length p.numbers.shared ≡ p.numbers.locks
  pub name_most : length p.name ≤ name_limit
  pub lock_names_good : (n : List ℕ) → Memᴰ n p.locks → is_name n ≡ true
  pub lock_names_most : (n : List ℕ) → Memᴰ n p.locks → length n ≤ name_limit
  pub each_task : (m : ℕ) (t : Task) → Memᴰ t p.numbers.tasks → FineTask m t
  pub each_lock : (l : ℕ) → 1 ≤ l → l ≤ p.numbers.locks → 1 ≤ greatest_held l p.numbers.tasks

abbrev pub AllPartsFine : List PlanPart → Type 0
AllPartsFine ps = (p : PlanPart) → Memᴰ p ps → FinePlanPart p

part_fine : (ps : List FilePart) (p : FilePart) → FineFilePart p → 1 ≤ length p.tasks → FinePlanPart (plan_part ps p)
unfolding tasks_in
part_fine ps p fine some = record {
  period_some = fine.period_some;
  period_most = fine.period_most;
  some_task = omega (arith, some, length-map p.tasks (task_in (lock_names p)));
  few_tasks = omega (arith, fine.few_tasks, length-map p.tasks (task_in (lock_names p)));
  few_locks = fine.few_locks;
  locks_are = refl;
  shared_are = length-map (lock_names p) (is_shared_in ps);
  name_most = fine.name_most;
  lock_names_good = fine.lock_names_good;
  lock_names_most = λ n m. name_short n (fine.lock_names_good n m);
  each_task = each_task_fine p fine;
  each_lock = each_lock_used p fine;
}

module _ (s : List ℕ) (qs : List PlanPart) (e : parts_of s ≡ answered qs) where
  pub parts_fine : AllPartsFine qs
  parts_fine q m =
      let r = parts_read s qs e in
      let p = (map_iff (plan_part r.0) q r.0).0 (subst (Memᴰ q) (sym r.2) m) in
      subst FinePlanPart p.2 (part_fine r.0 p.0 (read_fine s r.0 r.1 p.0 p.1) (each_part_has_task s r.0 r.1 p.0 p.1))

  pub parts_few : length qs ≤ part_limit
  parts_few = let r = parts_read s qs e in omega (arith, ap length r.2, length-map r.0 (plan_part r.0), read_few s r.0 r.1)

  pub parts_some : 1 ≤ length qs
  parts_some = let r = parts_read s qs e in omega (arith, ap length r.2, length-map r.0 (plan_part r.0), read_some s r.0 r.1)
