-- Each part of a file that can be read has a task: `part` and `end` may not follow a `part` line directly.
--   AllSome ps == each of these parts has a task
--   TaskSeen a == above, each part but the last has a task, and the last too unless its `part` line stands directly above
-- Assumes nothing.
use Prim.Native.Nat.{ℕ, ◌≤◌}
use native.Mathlib.Omega.{arith}
use mathlib.Core.Path.{◌≡◌, refl, sym, subst}
use mathlib.Core.Bool.{true, false, false≢true}
use mathlib.Core.List.Memᴰ
use mathlib.Core.List.{List, [], ◌∷◌, drop_last, Memᴰ}
use lib.ListN.{length, length-append}
use borrow.Author.Tests.{not-true}
use Rattle.least.specs.Lists.{last_or, on_last}
use Rattle.least.proofs.Lists.{and_iff, not_empty}
use Rattle.least.proofs.Last.{on_last_split, drop_last_snoc, drop_last_on_last, drop_last_member, length_on_last, snoc_each}
use Rattle.refusal.specs.declared.Outcome.TheVariants.{Done}
use Rattle.refusal.specs.Questions.{first_no}
use Rattle.refusal.specs.Questions.Answer.{answered}
use Rattle.refusal.specs.FirstNo.{all_yes}
use Rattle.refusal.proofs.Questions.{done_iff}
use Rattle.records.specs.Records.{Record}
use Rattle.records.specs.Records.Record.{part, task, lock, end, no_record}
use Rattle.plan_file.specs.Above.{FilePart, Above, no_part, nothing_above, this_part, with_lock, after, parts_after}
use Rattle.plan_file.specs.Reading.{is_part, is_end, not_behind_end, not_behind_part, task_above, allowed_here, part_questions, task_questions, lock_questions, record_questions, read_file}
use Rattle.plan_file.proofs.Reading.{read_answered_iff, read_keeps}
use Rattle.plan_file.proofs.SeenAbove.{task_of, lock_of}

abbrev AllSome : List FilePart → Type 0
AllSome ps = (p : FilePart) → Memᴰ p ps → 1 ≤ length p.tasks

record TaskSeen (a : Above) : Type 0 where
  before : AllSome (drop_last a.parts)
  last : is_part a.directly ≡ false → AllSome a.parts

-- another last part with a task
last_some : (f : FilePart → FilePart) (ps : List FilePart) → AllSome (drop_last ps) → 1 ≤ length (f (last_or no_part ps)).tasks → AllSome (on_last f ps)
unfolding on_last
last_some f [] all h = λ p m. absurd (Memᴰ.not-nil m)
last_some f (q ∷ qs) all h = subst AllSome (sym (on_last_split f no_part (q ∷ qs) (omega arith))) (snoc_each (λ p. 1 ≤ length p.tasks) (drop_last (q ∷ qs)) (f (last_or no_part (q ∷ qs))) all h)

changed_seen : (a : Above) (f : FilePart → FilePart) → TaskSeen a → 1 ≤ length (f (this_part a)).tasks → (r : Record) → TaskSeen (record { parts = on_last f a.parts; directly = r })
changed_seen a f seen h r = record { before = subst AllSome (sym (drop_last_on_last f a.parts)) seen.before; last = λ n. last_some f a.parts seen.before h }

-- question 4 has the answer yes
allowed : (n : ℕ) (a : Above) (r : Record) → first_no (record_questions n a r) ≡ Done → allowed_here a r ≡ true
unfolding record_questions part_questions task_questions lock_questions allowed_here all_yes
allowed n a (part name P) e = ((and_iff _ _).0 ((done_iff (record_questions n a (part name P))).0 e)).0
allowed n a (task name T C D) e = ((and_iff _ _).0 ((done_iff (record_questions n a (task name T C D))).0 e)).0
allowed n a (lock name c) e = ((and_iff _ _).0 ((done_iff (record_questions n a (lock name c))).0 e)).0
allowed n a end e = ((and_iff _ _).0 ((done_iff (record_questions n a end)).0 e)).0
allowed n a no_record e = ((and_iff false true).0 ((done_iff (record_questions n a no_record)).0 e)).0

record_some : (a : Above) (r : Record) → TaskSeen a → allowed_here a r ≡ true → TaskSeen (after a r)
unfolding is_part allowed_here parts_after
record_some a (part name P) seen e = record {
  before = subst AllSome (sym (drop_last_snoc a.parts _)) (seen.last (not-true _ ((and_iff (not_behind_end a) (not_behind_part a)).0 e).1));
  last = λ n. absurd (false≢true (sym n));
}
record_some a (task name T C D) seen e = changed_seen a _ seen (omega (arith, length-append (this_part a).tasks (task_of name T C D ∷ []))) (task name T C D)
record_some a (lock name c) seen e = changed_seen a _ seen (omega (arith, length_on_last (with_lock (lock_of name c)) (this_part a).tasks, not_empty (this_part a).tasks ((and_iff (not_behind_end a) (task_above a)).0 e).1)) (lock name c)
record_some a end seen e =
    let all = seen.last (not-true _ ((and_iff (not_behind_part a) _).0 ((and_iff (not_behind_end a) _).0 e).1).0) in
    record { before = λ p m. all p (drop_last_member a.parts m); last = λ n. all }
record_some a no_record seen e = absurd (false≢true e)

end_no_part : (r : Record) → is_end r ≡ true → is_part r ≡ false
unfolding is_end is_part
end_no_part (part name P) e = absurd (false≢true e)
end_no_part (task name T C D) e = refl
end_no_part (lock name c) e = refl
end_no_part end e = refl
end_no_part no_record e = refl

pub each_part_has_task : (s : List ℕ) (ps : List FilePart) → read_file s ≡ answered ps → (p : FilePart) → Memᴰ p ps → 1 ≤ length p.tasks
each_part_has_task s ps e =
    let d = (read_answered_iff s ps).0 e in
    let none : TaskSeen nothing_above = record { before = λ p m. absurd (Memᴰ.not-nil m); last = λ n p m. absurd (Memᴰ.not-nil m) } in
    let seen = read_keeps TaskSeen (λ n a r h f. record_some a r h (allowed n a r f)) none s ps e in
    subst AllSome d.are (seen.last (end_no_part _ d.by.ended))
