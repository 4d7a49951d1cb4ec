-- What the reader has seen is what the lines above say; and one record more keeps it so.
-- Assumes nothing.
use Prim.Native.Nat.{ℕ, ◌≤◌, ◌<◌}
use mathlib.Core.Path.{◌≡◌, refl, sym, ap, ◌∙◌}
use mathlib.Core.Bool.{false}
use mathlib.Core.List.{List, [], ◌∷◌, ◌++◌, map-append}
use lib.ListN.{length, length-map}
use Rattle.least.specs.Lists.{pad, last_or, on_last}
use Rattle.least.proofs.Last.{last_snoc, last_on_last, map_on_last}
use Rattle.text.specs.Bytes.{among, mention}
use Rattle.text.specs.Decimal.{value_of}
use Rattle.stretch.specs.declared.Span.{Span}
use Rattle.stretch.specs.Stretch.{bytes_of}
use Rattle.records.specs.Records.Record.{part, task, lock, end}
use Rattle.plan_file.specs.declared.Seen.{Seen}
use Rattle.plan_file.specs.Above.{FileLock, FileTask, FilePart, Above, no_part, nothing_above, this_part, this_task, lock_names, with_lock, with_tasks, parts_after, after}
use Rattle.plan_file.specs.Reading.{is_part, is_end, part_names, locks_of}
use Rattle.plan_file.specs.Code.Entries.{FineNames, FineSeen, none_seen, names_of, place_among, seen_part, seen_task, seen_lock, seen_end}
use Rattle.plan_file.proofs.Places.{names_length}
use Rattle.plan_file.proofs.SeenNames.{names_with, fine_with, no_names_lem, fine_none}
use Rattle.plan_file.proofs.SeenTasks.{task_with}
use Rattle.plan_file.proofs.SeenPart.{PartIs, stored_use, part_is_new, part_is_task, part_is_lock}

pub record SeenIs (s : List ℕ) (seen : Seen) (a : Above) : Type 0 where
  pub fine_parts : FineNames seen.parts
  pub fresh : seen.fresh ≡ is_part a.directly
  pub ended : seen.ended ≡ is_end a.directly
  pub part_names_is : names_of s seen.parts ≡ part_names a.parts
  pub part : PartIs s seen.tasks seen.locks seen.last (this_part a)

pub seen_is_fine : (s : List ℕ) (seen : Seen) (a : Above) → SeenIs s seen a → FineSeen seen
seen_is_fine s seen a is =
    record { parts = is.fine_parts; tasks = is.part.fine_tasks; locks = is.part.fine_locks; few_locks = is.part.few_locks }

pub part_count : (s : List ℕ) (seen : Seen) (a : Above) → SeenIs s seen a → length a.parts ≡ seen.parts.count
part_count s seen a is = sym (length-map a.parts (λ p. p.name)) ∙ sym (ap length is.part_names_is) ∙ names_length s seen.parts is.fine_parts

-- the task and the lock of a record
abbrev pub task_of : List ℕ → List ℕ → List ℕ → List ℕ → FileTask
task_of name T C D = record { name = name; separation = value_of T; cost = value_of C; deadline = value_of D; locks = [] }

abbrev pub lock_of : List ℕ → List ℕ → FileLock
lock_of name c = record { name = name; held = value_of c }

-- the last part behind a record
module _ (a : Above) where
  pub this_part_part : (name P : List ℕ) → this_part (after a (part name P)) ≡ record { name = name; period = value_of P; tasks = [] }
  unfolding parts_after
  this_part_part name P = last_snoc no_part a.parts (record { name = name; period = value_of P; tasks = [] })

  pub this_part_task : (name T C D : List ℕ) → 1 ≤ length a.parts → this_part (after a (task name T C D)) ≡ with_tasks (λ ts. ts ++ (task_of name T C D ∷ [])) (this_part a)
  unfolding parts_after
  this_part_task name T C D h = last_on_last (with_tasks (λ ts. ts ++ (task_of name T C D ∷ []))) no_part a.parts h

  pub this_part_lock : (name c : List ℕ) → 1 ≤ length a.parts → this_part (after a (lock name c)) ≡ with_tasks (on_last (with_lock (lock_of name c))) (this_part a)
  unfolding parts_after
  this_part_lock name c h = last_on_last (with_tasks (on_last (with_lock (lock_of name c)))) no_part a.parts h

  -- and the names of the parts
  names_part : (name P : List ℕ) → part_names (parts_after a.parts (part name P)) ≡ part_names a.parts ++ (name ∷ [])
  unfolding parts_after
  names_part name P = map-append (λ (p : FilePart). p.name) a.parts (record { name = name; period = value_of P; tasks = [] } ∷ [])

  names_task : (name T C D : List ℕ) → part_names (parts_after a.parts (task name T C D)) ≡ part_names a.parts
  unfolding parts_after
  names_task name T C D = map_on_last (λ (p : FilePart). p.name) (with_tasks (λ ts. ts ++ (task_of name T C D ∷ []))) a.parts (λ p. refl)

  names_lock : (name c : List ℕ) → part_names (parts_after a.parts (lock name c)) ≡ part_names a.parts
  unfolding parts_after
  names_lock name c = map_on_last (λ (p : FilePart). p.name) (with_tasks (on_last (with_lock (lock_of name c)))) a.parts (λ p. refl)

pub seen_is_start : (s : List ℕ) → SeenIs s none_seen nothing_above
unfolding is_part is_end last_or
seen_is_start s = record { fine_parts = fine_none; fresh = refl; ended = refl; part_names_is = no_names_lem s; part = part_is_new s [] 0 }

module _ (s : List ℕ) (seen : Seen) (a : Above) (is : SeenIs s seen a) where
  pub seen_is_part : (nm : Span) (P : List ℕ) → seen.parts.count < 16 → SeenIs s (seen_part seen nm) (after a (part (bytes_of s nm) P))
  unfolding seen_part is_part is_end
  seen_is_part nm P h = record {
    fine_parts = fine_with seen.parts nm is.fine_parts h;
    fresh = refl;
    ended = refl;
    part_names_is = names_with s seen.parts nm is.fine_parts h ∙ ap (λ (ns : List (List ℕ)). ns ++ (bytes_of s nm ∷ [])) is.part_names_is ∙ sym (names_part a (bytes_of s nm) P);
    part = rw (this_part_part a (bytes_of s nm) P) (part_is_new s (bytes_of s nm) (value_of P));
  }

  pub seen_is_task : (nm : Span) (T C D : List ℕ) → 1 ≤ length a.parts → seen.tasks.count < 16 → SeenIs s (seen_task seen nm (task_with (task_of (bytes_of s nm) T C D) (pad 8 0 []))) (after a (task (bytes_of s nm) T C D))
  unfolding seen_task is_part is_end
  seen_is_task nm T C D p h = record {
    fine_parts = is.fine_parts;
    fresh = refl;
    ended = refl;
    part_names_is = is.part_names_is ∙ sym (names_task a (bytes_of s nm) T C D);
    part = rw (this_part_task a (bytes_of s nm) T C D p) (part_is_task s seen.tasks seen.locks seen.last (this_part a) is.part nm (task_of (bytes_of s nm) T C D) h refl refl);
  }

  pub seen_is_lock : (nm : Span) (c : List ℕ) → 1 ≤ length a.parts → 1 ≤ length (this_part a).tasks → 1 ≤ value_of c → among (bytes_of s nm) (locks_of (this_task a)) ≡ false → length (mention (lock_names (this_part a)) (bytes_of s nm)) ≤ 8 → let j = place_among (bytes_of s nm) (names_of s seen.locks) in SeenIs s (seen_lock seen nm j (stored_use seen.last j (value_of c))) (after a (lock (bytes_of s nm) c))
  unfolding seen_lock is_part is_end
  seen_is_lock nm c p t h new few = record {
    fine_parts = is.fine_parts;
    fresh = refl;
    ended = refl;
    part_names_is = is.part_names_is ∙ sym (names_lock a (bytes_of s nm) c);
    part = rw (this_part_lock a (bytes_of s nm) c p) (part_is_lock s seen.tasks seen.locks seen.last (this_part a) is.part nm (value_of c) t few h new);
  }

  pub seen_is_end : SeenIs s (seen_end seen) (after a end)
  unfolding seen_end is_part is_end parts_after
  seen_is_end = record { fine_parts = is.fine_parts; fresh = refl; ended = refl; part_names_is = is.part_names_is; part = is.part }
