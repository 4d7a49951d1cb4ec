-- What an entry says: which record it is, that its questions have the answer yes, and what follows from those answers.
-- Assumes nothing.
use Prim.Native.Nat.{ℕ, ◌≤◌, ◌<◌}
use native.Mathlib.Omega.{arith}
use mathlib.Core.Path.{◌≡◌, refl, sym, ap, ◌∙◌, subst}
use mathlib.Core.Bool.{true, false, ◌&&◌}
use mathlib.Core.List.{List, [], ◌∷◌}
use lib.ListN.{length, length-map}
use Rattle.std.proofs.Common.{Ok, Err}
use Rattle.least.specs.Lists.{last_or}
use Rattle.least.proofs.Lists.{and_iff, not_empty}
use Rattle.text.specs.Bytes.{among, mention}
use Rattle.text.specs.Decimal.{value_of}
use Rattle.refusal.specs.declared.Refusal.{Refusal}
use Rattle.refusal.specs.declared.Outcome.{Outcome}
use Rattle.refusal.specs.declared.Outcome.TheVariants.{Done, Refused}
use Rattle.refusal.specs.Questions.{first_no}
use Rattle.stretch.specs.declared.Span.{Span}
use Rattle.fields.specs.Fields.{is_name}
use Rattle.stretch.specs.Stretch.{bytes_of}
use Rattle.records.specs.declared.Shape.{Shape}
use Rattle.records.specs.declared.Shape.TheVariants.{Part as PartShape, Task as TaskShape, Lock as LockShape, End as EndShape, Unknown}
use Rattle.records.specs.Records.{Record}
use Rattle.records.specs.Records.Record.{part, task, lock, end}
use Rattle.records.specs.Code.Cursor.{record_as}
use Rattle.plan_file.specs.declared.Seen.{Seen}
use Rattle.plan_file.specs.declared.Entry.{Entry}
use Rattle.plan_file.specs.declared.Entry.TheVariants.{Part, Task, Lock, End}
use Rattle.plan_file.specs.Above.{FilePart, Above, no_part, this_part, this_task, lock_names}
use Rattle.plan_file.specs.Reading.{not_behind_end, not_behind_part, part_above, task_above, allowed_here, record_questions, part_names, task_names, locks_of}
use Rattle.plan_file.specs.Code.Entries.{names_of, place_among, entry_if, entry_of}
use Rattle.plan_file.proofs.SeenPart.{task_count}
use Rattle.plan_file.proofs.SeenAbove.{SeenIs, part_count}
use Rattle.plan_file.proofs.SeenDone.{part_done, task_done, lock_done, end_done}
use Rattle.plan_file.proofs.SeenEntries.{entered, entry_is}

-- an entry that is no refusal is one whose questions are done
if_done : (o : Outcome) (e x : Entry) → entry_if o e ≡ Ok x → (o ≡ Done) × (e ≡ x)
unfolding entry_if
if_done Done e x q = (refl, cc)
if_done (Refused r) e x q = cc

if_refused : (o : Outcome) (e : Entry) (r : Refusal) → entry_if o e ≡ Err r → o ≡ Refused r
unfolding entry_if
if_refused Done e r q = cc
if_refused (Refused x) e r q = let k : x ≡ r = cc in ap Refused k

-- the record that was entered
module _ (s : List ℕ) (seen : Seen) where
  abbrev IsPart : Shape → Span → ℕ → Type 0
  IsPart r nm v = (P : Span) × (r ≡ PartShape nm P) × (v ≡ value_of (bytes_of s P))

  part_record : (r : Shape) (nm : Span) (v : ℕ) → entered s seen r ≡ Part nm v → IsPart r nm v
  unfolding entered
  part_record (PartShape name P) nm v e = let q : name ≡ nm = cc in (P, ap (λ (x : Span). PartShape x P) q, cc)
  part_record (TaskShape name T C D) nm v e = cc
  part_record (LockShape name c) nm v e = cc
  part_record EndShape nm v e = cc
  part_record Unknown nm v e = cc

  abbrev IsTask : Shape → Span → ℕ → ℕ → ℕ → Type 0
  IsTask r nm u v w = (T : List ℕ) × (C : List ℕ) × (D : List ℕ) × (record_as s r ≡ task (bytes_of s nm) T C D) × (u ≡ value_of T) × (v ≡ value_of C) × (w ≡ value_of D)

  task_record : (r : Shape) (nm : Span) (u v w : ℕ) → entered s seen r ≡ Task nm u v w → IsTask r nm u v w
  unfolding entered record_as
  task_record (PartShape name P) nm u v w e = cc
  task_record (TaskShape name T C D) nm u v w e =
      let q : name ≡ nm = cc in
      (bytes_of s T, bytes_of s C, bytes_of s D, ap (λ (x : Span). task (bytes_of s x) (bytes_of s T) (bytes_of s C) (bytes_of s D)) q, (cc), (cc), cc)
  task_record (LockShape name c) nm u v w e = cc
  task_record EndShape nm u v w e = cc
  task_record Unknown nm u v w e = cc

  abbrev IsLock : Shape → Span → ℕ → ℕ → Type 0
  IsLock r nm j v = (c : List ℕ) × (record_as s r ≡ lock (bytes_of s nm) c) × (j ≡ place_among (bytes_of s nm) (names_of s seen.locks)) × (v ≡ value_of c)

  lock_record : (r : Shape) (nm : Span) (j v : ℕ) → entered s seen r ≡ Lock nm j v → IsLock r nm j v
  unfolding entered record_as
  lock_record (PartShape name P) nm j v e = cc
  lock_record (TaskShape name T C D) nm j v e = cc
  lock_record (LockShape name c) nm j v e =
      let q : name ≡ nm = cc in
      (bytes_of s c, ap (λ (x : Span). lock (bytes_of s x) (bytes_of s c)) q, (cc), cc)
  lock_record EndShape nm j v e = cc
  lock_record Unknown nm j v e = cc

  end_record : (n : ℕ) (r : Shape) → entry_of s n seen r ≡ Ok End → entered s seen r ≡ End → record_as s r ≡ end
  unfolding entry_of entered record_as
  end_record n (PartShape name P) d e = cc
  end_record n (TaskShape name T C D) d e = cc
  end_record n (LockShape name c) d e = cc
  end_record n EndShape d e = refl
  end_record n Unknown d e = cc

-- where a task is above, a part is
task_in_part : (ps : List FilePart) → 1 ≤ length (last_or no_part ps).tasks → 1 ≤ length ps
unfolding last_or
task_in_part [] h = absurd (omega arith)
task_in_part (p ∷ ps) h = omega arith

-- every question of the record on line n is answered with yes
abbrev pub AllDone : List ℕ → ℕ → Above → Shape → Type 0
AllDone s n a r = first_no (record_questions n a (record_as s r)) ≡ Done

pub record PartEntered (s : List ℕ) (seen : Seen) (n : ℕ) (a : Above) (r : Shape) (nm : Span) (v : ℕ) : Type 0 where
  pub period : Span
  pub shape : r ≡ PartShape nm period
  pub is : record_as s r ≡ part (bytes_of s nm) (bytes_of s period)
  pub value : v ≡ value_of (bytes_of s period)
  pub done : AllDone s n a r
  pub room : seen.parts.count < 16

pub record TaskEntered (s : List ℕ) (seen : Seen) (n : ℕ) (a : Above) (r : Shape) (nm : Span) (u v w : ℕ) : Type 0 where
  pub T : List ℕ
  pub C : List ℕ
  pub D : List ℕ
  pub is : record_as s r ≡ task (bytes_of s nm) T C D
  pub separation : u ≡ value_of T
  pub cost : v ≡ value_of C
  pub deadline : w ≡ value_of D
  pub done : AllDone s n a r
  pub part_above_is : 1 ≤ length a.parts
  pub room : seen.tasks.count < 16
  pub named : is_name (bytes_of s nm) ≡ true

pub record LockEntered (s : List ℕ) (seen : Seen) (n : ℕ) (a : Above) (r : Shape) (nm : Span) (j v : ℕ) : Type 0 where
  pub c : List ℕ
  pub is : record_as s r ≡ lock (bytes_of s nm) c
  pub place : j ≡ place_among (bytes_of s nm) (names_of s seen.locks)
  pub value : v ≡ value_of c
  pub done : AllDone s n a r
  pub part_above_is : 1 ≤ length a.parts
  pub task_above_is : 1 ≤ length (this_part a).tasks
  pub new : among (bytes_of s nm) (locks_of (this_task a)) ≡ false
  pub positive : 1 ≤ value_of c
  pub few : length (mention (lock_names (this_part a)) (bytes_of s nm)) ≤ 8
  pub named : is_name (bytes_of s nm) ≡ true

pub record EndEntered (s : List ℕ) (n : ℕ) (a : Above) (r : Shape) : Type 0 where
  pub is : record_as s r ≡ end
  pub done : AllDone s n a r
  pub part_above_is : 1 ≤ length a.parts

module _ (s : List ℕ) (seen : Seen) (a : Above) (seen_is : SeenIs s seen a) (n : ℕ) (r : Shape) where
  pub refused_entered : (x : Refusal) → entry_of s n seen r ≡ Err x → first_no (record_questions n a (record_as s r)) ≡ Refused x
  refused_entered x e = if_refused _ (entered s seen r) x (sym (entry_is s seen a seen_is n r) ∙ e)

  done_entered : (x : Entry) → entry_of s n seen r ≡ Ok x → AllDone s n a r × (entered s seen r ≡ x)
  done_entered x e = if_done _ (entered s seen r) x (sym (entry_is s seen a seen_is n r) ∙ e)

  pub part_entered : (nm : Span) (v : ℕ) → entry_of s n seen r ≡ Ok (Part nm v) → PartEntered s seen n a r nm v
  unfolding record_questions record_as
  part_entered nm v e =
      let d = done_entered (Part nm v) e in
      let k = part_record s seen r nm v d.1 in
      let is : record_as s r ≡ part (bytes_of s nm) (bytes_of s k.0) = ap (record_as s) k.1 in
      let f : first_no (record_questions n a (part (bytes_of s nm) (bytes_of s k.0))) ≡ Done = subst (λ (x : Record). first_no (record_questions n a x) ≡ Done) is d.0 in
      let g = part_done n _ (part_names a.parts) (bytes_of s nm) (bytes_of s k.0) f in
      record { period = k.0; shape = k.1; is = is; value = k.2; done = d.0; room = omega (arith, g.1, length-map a.parts (λ p. p.name), part_count s seen a seen_is) }

  pub task_entered : (nm : Span) (u v w : ℕ) → entry_of s n seen r ≡ Ok (Task nm u v w) → TaskEntered s seen n a r nm u v w
  unfolding record_questions allowed_here
  task_entered nm u v w e =
      let d = done_entered (Task nm u v w) e in
      let k = task_record s seen r nm u v w d.1 in
      let f : first_no (record_questions n a (task (bytes_of s nm) k.0 k.1 k.2)) ≡ Done = subst (λ (x : Record). first_no (record_questions n a x) ≡ Done) k.3 d.0 in
      let g = task_done n (not_behind_end a && part_above a) (task_names (this_part a)) (bytes_of s nm) k.0 k.1 k.2 f in
      let count = task_count s seen.tasks seen.locks seen.last (this_part a) seen_is.part in
      record {
        T = k.0;
        C = k.1;
        D = k.2;
        is = k.3;
        separation = k.4;
        cost = k.5;
        deadline = k.6;
        done = d.0;
        part_above_is = not_empty a.parts ((and_iff (not_behind_end a) (part_above a)).0 g.0).1;
        room = omega (arith, g.1, length-map (this_part a).tasks (λ t. t.name));
        named = g.6;
      }

  pub lock_entered : (nm : Span) (j v : ℕ) → entry_of s n seen r ≡ Ok (Lock nm j v) → LockEntered s seen n a r nm j v
  unfolding record_questions allowed_here
  lock_entered nm j v e =
      let d = done_entered (Lock nm j v) e in
      let k = lock_record s seen r nm j v d.1 in
      let f : first_no (record_questions n a (lock (bytes_of s nm) k.0)) ≡ Done = subst (λ (x : Record). first_no (record_questions n a x) ≡ Done) k.1 d.0 in
      let g = lock_done n (not_behind_end a && task_above a) (among (bytes_of s nm) (locks_of (this_task a))) (lock_names (this_part a)) (this_task a).cost (bytes_of s nm) k.0 f in
      let t = not_empty (this_part a).tasks ((and_iff (not_behind_end a) (task_above a)).0 g.0).1 in
      record {
        c = k.0;
        is = k.1;
        place = k.2;
        value = k.3;
        done = d.0;
        part_above_is = task_in_part a.parts t;
        task_above_is = t;
        new = g.1;
        positive = g.2;
        few = g.3;
        named = g.5;
      }

  pub end_entered : entry_of s n seen r ≡ Ok End → EndEntered s n a r
  unfolding record_questions allowed_here
  end_entered e =
      let d = done_entered End e in
      let k = end_record s seen n r e d.1 in
      let f : first_no (record_questions n a end) ≡ Done = subst (λ (x : Record). first_no (record_questions n a x) ≡ Done) k d.0 in
      let g = end_done n (not_behind_end a && (not_behind_part a && part_above a)) f in
      let h = (and_iff (not_behind_part a) (part_above a)).0 ((and_iff (not_behind_end a) (not_behind_part a && part_above a)).0 g).1 in
      record { is = k; done = d.0; part_above_is = not_empty a.parts h.1 }
