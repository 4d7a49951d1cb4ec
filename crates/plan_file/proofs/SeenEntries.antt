-- The entry of a record answers its questions against what the lines above say, and shows which record it was.
-- Assumes nothing.
use Prim.Native.Nat.{ℕ}
use native.Mathlib.Omega.{arith}
use mathlib.Core.Path.{◌≡◌, refl, sym, ap, ap₂, ◌∙◌}
use mathlib.Core.Bool.{false, not, ◌&&◌}
use mathlib.Core.List.{List, [], ◌∷◌}
use borrow.Author.Tests.{le-leb}
use lib.Dec.{leb}
use lib.ListN.{length}
use Rattle.least.specs.Lists.{is_empty, last_or}
use Rattle.least.proofs.Last.{last_member}
use Rattle.text.specs.Bytes.{among}
use Rattle.text.specs.Decimal.{value_of}
use Rattle.text.proofs.Names.{among_none}
use Rattle.refusal.specs.Questions.{first_no}
use Rattle.stretch.specs.declared.Span.{Span}
use Rattle.stretch.specs.Stretch.{bytes_of}
use Rattle.records.specs.declared.Shape.{Shape}
use Rattle.records.specs.declared.Shape.TheVariants.{Part as PartShape, Task as TaskShape, Lock as LockShape, End as EndShape, Unknown}
use Rattle.records.specs.Code.Cursor.{record_as}
use Rattle.task_set.specs.declared.Task.{Task as TaskNumbers}
use Rattle.plan_file.specs.declared.Seen.{Seen}
use Rattle.plan_file.specs.declared.Entry.{Entry}
use Rattle.plan_file.specs.declared.Entry.TheVariants.{Part, Task, Lock, End}
use Rattle.plan_file.specs.Above.{FileTask, FilePart, Above, no_task, this_part, this_task, lock_names}
use Rattle.plan_file.specs.Reading.{allowed_here, lock_questions, record_questions, locks_of}
use Rattle.plan_file.specs.Code.Entries.{names_of, place_among, use_at, entry_if, part_entry, task_entry, lock_entry, end_entry, entry_of}
use Rattle.plan_file.proofs.SeenLocks.{known_held, lock_unmentioned}
use Rattle.plan_file.proofs.SeenTasks.{Unused, padded, padded_use}
use Rattle.plan_file.proofs.SeenPart.{last_task, task_count, lock_count}
use Rattle.plan_file.proofs.SeenAbove.{SeenIs, part_count}

-- a list has elements just if its count is at least 1
some_count : {A : Type 0} (xs : List A) (n : ℕ) → length xs ≡ n → leb 1 n ≡ not (is_empty xs)
unfolding is_empty
some_count [] n e = ap (leb 1) (sym e)
some_count (x ∷ xs) n e = le-leb 1 n (omega arith)

last_unused : (name : List ℕ) (p : FilePart) → Unused name (lock_names p) (last_task p)
unfolding last_or
last_unused name p e = go p.tasks refl
  where
    go : (ts : List FileTask) → p.tasks ≡ ts → among name (locks_of (last_task p)) ≡ false
    go [] h = rw (h, last_or) (among_none name)
    go (t ∷ ts) h = lock_unmentioned name p (last_task p) e (last_member no_task p.tasks (rw h (omega arith)))

-- whether the last task has the lock, by its uses
known_by_use : (s : List ℕ) (seen : Seen) (a : Above) → SeenIs s seen a → (name : List ℕ) → leb 1 (use_at seen.last (place_among name (names_of s seen.locks))) ≡ among name (locks_of (this_task a))
known_by_use s seen a is name =
    let names = lock_names (this_part a) in
    ap (leb 1)
    (ap₂ (λ (t : TaskNumbers) (ns : List (List ℕ)). use_at t (place_among name ns)) is.part.last_is is.part.lock_names_is
    ∙ padded_use names (this_task a) name (omega (arith, lock_count s seen.tasks seen.locks seen.last (this_part a) is.part)) (last_unused name (this_part a)))
    ∙ known_held name (this_task a).locks is.part.held

cost_of_last : (s : List ℕ) (seen : Seen) (a : Above) → SeenIs s seen a → seen.last.cost ≡ (this_task a).cost
unfolding padded
cost_of_last s seen a is = ap (λ (t : TaskNumbers). t.cost) is.part.last_is

-- what a record enters where every answer is yes
unfoldable pub entered : List ℕ → Seen → Shape → Entry
entered s seen (PartShape name P) = Part name (value_of (bytes_of s P))
entered s seen (TaskShape name T C D) = Task name (value_of (bytes_of s T)) (value_of (bytes_of s C)) (value_of (bytes_of s D))
entered s seen (LockShape name c) = Lock name (place_among (bytes_of s name) (names_of s seen.locks)) (value_of (bytes_of s c))
entered s seen EndShape = End
entered s seen Unknown = End

module _ (s : List ℕ) (seen : Seen) (a : Above) (is : SeenIs s seen a) (n : ℕ) where
  part_above_is : leb 1 seen.parts.count ≡ not (is_empty a.parts)
  part_above_is = some_count a.parts seen.parts.count (part_count s seen a is)

  task_above_is : leb 1 seen.tasks.count ≡ not (is_empty (this_part a).tasks)
  task_above_is = some_count (this_part a).tasks seen.tasks.count (task_count s seen.tasks seen.locks seen.last (this_part a) is.part)

  lock_entry_is : (name c : Span) → entry_of s n seen (LockShape name c) ≡ entry_if (first_no (record_questions n a (record_as s (LockShape name c)))) (entered s seen (LockShape name c))
  unfolding entry_of lock_entry record_questions record_as allowed_here entered
  lock_entry_is name c =
      λ i. entry_if (first_no (lock_questions n (not (is.ended i) && task_above_is i) (known_by_use s seen a is (bytes_of s name) i) (is.part.lock_names_is i) (cost_of_last s seen a is i) (bytes_of s name) (bytes_of s c)))
      (Lock name (place_among (bytes_of s name) (names_of s seen.locks)) (value_of (bytes_of s c)))

  pub entry_is : (r : Shape) → entry_of s n seen r ≡ entry_if (first_no (record_questions n a (record_as s r))) (entered s seen r)
  unfolding entry_of part_entry task_entry end_entry entry_if first_no record_questions record_as allowed_here entered
  entry_is (PartShape name P) = simp (is.ended, is.fresh, is.part_names_is)
  entry_is (TaskShape name T C D) = simp (is.ended, part_above_is, is.part.task_names_is)
  entry_is (LockShape name c) = lock_entry_is name c
  entry_is EndShape = simp (is.ended, is.fresh, part_above_is)
  entry_is Unknown = refl
