-- The names of a readable file are good and short, and its numbers and counts in range, by questions 5 to 9.
--   FineFileLock C l == of a lock l of a task with the cost C: 1 ≤ c ≤ C
--   FineFileTask t   == 1 ≤ C ≤ D ≤ T ≤ 1,000,000, and so of its locks
--   FineFilePart p   == 1 ≤ P ≤ 1,000,000, at most 16 tasks and 8 lock names, a name of at most 8 bytes, good lock names, and so of its tasks
-- Assumes nothing.
use Prim.Native.Nat.{ℕ, suc, ◌≤◌}
use native.Mathlib.Omega.{arith}
use mathlib.Core.Path.{◌≡◌, refl, subst}
use mathlib.Core.Bool.{Bool, true, false, ◌&&◌}
use mathlib.Core.List.Memᴰ
use mathlib.Core.List.{List, [], ◌∷◌, ◌++◌, Memᴰ}
use lib.ListN.{length, length-map, length-append}
use Rattle.least.specs.Lists.{on_last, joined}
use Rattle.least.proofs.Lists.{and_iff, not_empty}
use Rattle.least.proofs.Last.{last_member, length_on_last, snoc_each, on_last_each}
use Rattle.text.specs.Bytes.{among, mention, distinct_after}
use Rattle.text.specs.Decimal.{value_of}
use Rattle.text.proofs.Names.{mention_known, mention_new}
use Rattle.refusal.specs.declared.Outcome.TheVariants.{Done}
use Rattle.refusal.specs.Limits.{number_limit, name_limit, part_limit, task_limit, lock_limit}
use Rattle.refusal.specs.Questions.{first_no}
use Rattle.refusal.specs.Questions.Answer.{answered}
use Rattle.fields.specs.Fields.{is_name}
use Rattle.fields.proofs.Fields.{name_iff}
use Rattle.records.specs.Records.{Record}
use Rattle.records.specs.Records.Record.{part, task, lock, end, no_record}
use Rattle.plan_file.specs.Above.{FileLock, FileTask, FilePart, Above, no_task, no_part, this_part, this_task, lock_mentions, lock_names, with_lock, with_tasks, parts_after, after}
use Rattle.plan_file.specs.Reading.{not_behind_end, task_above, allowed_here, record_questions, read_file, part_names, task_names, locks_of}
use Rattle.plan_file.proofs.Reading.{read_answered_iff, read_keeps}
use Rattle.plan_file.proofs.SeenLocks.{lock_names_task, lock_names_lock}
use Rattle.plan_file.proofs.SeenPart.{last_task}
use Rattle.plan_file.proofs.SeenAbove.{task_of, lock_of}
use Rattle.plan_file.proofs.SeenDone.{part_done, task_done, lock_done}

pub record FineFileLock (C : ℕ) (l : FileLock) : Type 0 where
  pub held_some : 1 ≤ l.held
  pub held_most : l.held ≤ C

pub record FineFileTask (t : FileTask) : Type 0 where
  pub cost_some : 1 ≤ t.cost
  pub cost_most : t.cost ≤ t.deadline
  pub deadline_most : t.deadline ≤ t.separation
  pub separation_most : t.separation ≤ number_limit
  pub each_lock : (l : FileLock) → Memᴰ l t.locks → FineFileLock t.cost l

pub record FineFilePart (p : FilePart) : Type 0 where
  pub period_some : 1 ≤ p.period
  pub period_most : p.period ≤ number_limit
  pub few_tasks : length p.tasks ≤ task_limit
  pub few_locks : length (lock_names p) ≤ lock_limit
  pub name_most : length p.name ≤ name_limit
  pub lock_names_good : (n : List ℕ) → Memᴰ n (lock_names p) → is_name n ≡ true
  pub each_task : (t : FileTask) → Memᴰ t p.tasks → FineFileTask t

abbrev pub AllFine : List FilePart → Type 0
AllFine ps = (p : FilePart) → Memᴰ p ps → FineFilePart p

pub name_short : (name : List ℕ) → is_name name ≡ true → length name ≤ name_limit
name_short name e = ((name_iff name).0 e).to

-- a part without tasks
new_part_fine : (name : List ℕ) (P : ℕ) → 1 ≤ P → P ≤ number_limit → is_name name ≡ true → FineFilePart (record { name = name; period = P; tasks = [] })
unfolding lock_names lock_mentions joined distinct_after
new_part_fine name P h k e = record {
  period_some = h;
  period_most = k;
  few_tasks = omega arith;
  few_locks = omega arith;
  name_most = name_short name e;
  lock_names_good = λ n m. absurd (Memᴰ.not-nil m);
  each_task = λ t m. absurd (Memᴰ.not-nil m);
}

-- one name more
mention_each : (P : List ℕ → Type 0) (names : List (List ℕ)) (name : List ℕ) → ((n : List ℕ) → Memᴰ n names → P n) → P name → (n : List ℕ) → Memᴰ n (mention names name) → P n
mention_each P names name all h = go (among name names) refl
  where
    go : (b : Bool) → among name names ≡ b → (n : List ℕ) → Memᴰ n (mention names name) → P n
    go true e = rw (mention_known name names e) all
    go false e = rw (mention_new name names e) (snoc_each P names name all h)

-- one task more, one lock more of the last task
module _ (p : FilePart) (fine : FineFilePart p) where
  task_fine : (t : FileTask) → suc (length p.tasks) ≤ task_limit → t.locks ≡ [] → FineFileTask t → FineFilePart (with_tasks (λ ts. ts ++ (t ∷ [])) p)
  task_fine t h e f = record {
    period_some = fine.period_some;
    period_most = fine.period_most;
    few_tasks = omega (arith, length-append p.tasks (t ∷ []));
    few_locks = rw (lock_names_task p t e) fine.few_locks;
    name_most = fine.name_most;
    lock_names_good = rw (lock_names_task p t e) fine.lock_names_good;
    each_task = snoc_each FineFileTask p.tasks t fine.each_task f;
  }

  last_fine : 1 ≤ length p.tasks → FineFileTask (last_task p)
  last_fine some = fine.each_task (last_task p) (last_member no_task p.tasks some)

  with_lock_fine : (l : FileLock) (t : FileTask) → FineFileTask t → FineFileLock t.cost l → FineFileTask (with_lock l t)
  with_lock_fine l t f h = record {
    cost_some = f.cost_some;
    cost_most = f.cost_most;
    deadline_most = f.deadline_most;
    separation_most = f.separation_most;
    each_lock = snoc_each (FineFileLock t.cost) t.locks l f.each_lock h;
  }

  lock_fine : (l : FileLock) → 1 ≤ length p.tasks → length (lock_names (with_tasks (on_last (with_lock l)) p)) ≤ lock_limit → is_name l.name ≡ true → FineFileLock (last_task p).cost l → FineFilePart (with_tasks (on_last (with_lock l)) p)
  lock_fine l some few e h = record {
    period_some = fine.period_some;
    period_most = fine.period_most;
    few_tasks = rw (length_on_last (with_lock l) p.tasks) fine.few_tasks;
    few_locks = few;
    name_most = fine.name_most;
    lock_names_good = rw (lock_names_lock p l some) (mention_each (λ n. is_name n ≡ true) (lock_names p) l.name fine.lock_names_good e);
    each_task = on_last_each FineFileTask (with_lock l) no_task p.tasks fine.each_task (λ k. with_lock_fine l (last_task p) (last_fine some) h);
  }

-- a record whose questions have the answer yes keeps the parts fine
module _ (n : ℕ) (a : Above) (fine : AllFine a.parts) where
  this_fine : 1 ≤ length a.parts → FineFilePart (this_part a)
  this_fine some = fine (this_part a) (last_member no_part a.parts some)

  part_keeps : (name P : List ℕ) → first_no (record_questions n a (part name P)) ≡ Done → AllFine (after a (part name P)).parts
  unfolding record_questions parts_after
  part_keeps name P e =
      let d = part_done n (allowed_here a (part name P)) (part_names a.parts) name P e in
      snoc_each FineFilePart a.parts (record { name = name; period = value_of P; tasks = [] }) fine (new_part_fine name (value_of P) d.2 d.3 d.4)

  task_keeps : (name T C D : List ℕ) → first_no (record_questions n a (task name T C D)) ≡ Done → AllFine (after a (task name T C D)).parts
  unfolding record_questions parts_after
  task_keeps name T C D e =
      let d = task_done n (allowed_here a (task name T C D)) (task_names (this_part a)) name T C D e in
      let t = task_of name T C D in
      let f : FineFileTask t = record { cost_some = d.2; cost_most = d.3; deadline_most = d.4; separation_most = d.5; each_lock = λ l m. absurd (Memᴰ.not-nil m) } in
      on_last_each FineFilePart (with_tasks (λ ts. ts ++ (t ∷ []))) no_part a.parts fine (λ some. task_fine (this_part a) (this_fine some) t (omega (arith, d.1, length-map (this_part a).tasks (λ u. u.name))) refl f)

  lock_keeps : (name c : List ℕ) → first_no (record_questions n a (lock name c)) ≡ Done → AllFine (after a (lock name c)).parts
  unfolding record_questions allowed_here parts_after
  lock_keeps name c e =
      let d = lock_done n (not_behind_end a && task_above a) (among name (locks_of (this_task a))) (lock_names (this_part a)) (this_task a).cost name c e in
      let l = lock_of name c in
      let t = not_empty (this_part a).tasks ((and_iff (not_behind_end a) (task_above a)).0 d.0).1 in
      let few : length (lock_names (with_tasks (on_last (with_lock l)) (this_part a))) ≤ lock_limit = rw (lock_names_lock (this_part a) l t) d.3 in
      on_last_each FineFilePart (with_tasks (on_last (with_lock l))) no_part a.parts fine (λ some. lock_fine (this_part a) (this_fine some) l t few d.5 (record { held_some = d.2; held_most = d.4 }))

  record_keeps : (r : Record) → first_no (record_questions n a r) ≡ Done → AllFine (after a r).parts
  unfolding parts_after
  record_keeps (part name P) e = part_keeps name P e
  record_keeps (task name T C D) e = task_keeps name T C D e
  record_keeps (lock name c) e = lock_keeps name c e
  record_keeps end e = fine
  record_keeps no_record e = fine

pub read_fine : (s : List ℕ) (ps : List FilePart) → read_file s ≡ answered ps → AllFine ps
read_fine s ps e =
    subst AllFine ((read_answered_iff s ps).0 e).are
    (read_keeps (λ a. AllFine a.parts) (λ n a r fine. record_keeps n a fine r) (λ p m. absurd (Memᴰ.not-nil m)) s ps e)

-- at most 16 parts
record_few : (n : ℕ) (a : Above) (r : Record) → length a.parts ≤ part_limit → first_no (record_questions n a r) ≡ Done → length (after a r).parts ≤ part_limit
unfolding record_questions parts_after
record_few n a (part name P) h e =
    let d = part_done n (allowed_here a (part name P)) (part_names a.parts) name P e in
    omega (arith, d.1, length-map a.parts (λ p. p.name), length-append a.parts (record { name = name; period = value_of P; tasks = [] } ∷ []))
record_few n a (task name T C D) h e = rw (length_on_last (with_tasks (λ ts. ts ++ (task_of name T C D ∷ []))) a.parts) h
record_few n a (lock name c) h e = rw (length_on_last (with_tasks (on_last (with_lock (lock_of name c)))) a.parts) h
record_few n a end h e = h
record_few n a no_record h e = h

pub read_few : (s : List ℕ) (ps : List FilePart) → read_file s ≡ answered ps → length ps ≤ part_limit
read_few s ps e =
    subst (λ (qs : List FilePart). length qs ≤ part_limit) ((read_answered_iff s ps).0 e).are
    (read_keeps (λ a. length a.parts ≤ part_limit) record_few (omega arith) s ps e)
