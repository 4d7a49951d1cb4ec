-- What the reader keeps of the lines above, and what a record enters, as the code has them: names are stretches of the file s.
--   names_of s ns                             == the names that the struct `Names` holds
--   place_in name ns                          == the place of a name among names, from 0
--   place_among name ns                       == the same; the place behind them where it is not among them
--   entry_of s n seen r                       == what the record r on line n enters, its numbers; or the first no of its questions
--   seen_part, seen_task, seen_lock, seen_end == what has been seen behind such a line
--   FineNames, FineSeen                       == counts within the places that there are
--   NumbersOf s ns codes                      == the array `codes` has the numbers of these names, and each is a name
-- Assumes nothing.
use Rattle.std.specs.Prelude.{ℕ, zero, suc, ◌+◌, ◌≤◌, ◌≡◌, Bool, true, false, cond, not, ◌&&◌, List, [], ◌∷◌, map, leb, eqb, length, take, set, get_or, Option, Result, Ok, Err, position}
use Rattle.least.specs.Lists.{pad, every}
use Rattle.refusal.specs.declared.Outcome.{Outcome}
use Rattle.refusal.specs.declared.Outcome.TheVariants.{Done, Refused}
use Rattle.refusal.specs.declared.Refusal.{Refusal}
use Rattle.refusal.specs.declared.Refusal.TheVariants.{Misplaced, BadRecord}
use Rattle.refusal.specs.Limits.{lock_limit}
use Rattle.refusal.specs.Questions.{ask, first_no}
use Rattle.stretch.specs.declared.Span.{Span}
use Rattle.stretch.specs.Stretch.{bytes_of}
use Rattle.text.specs.Bytes.{same}
use Rattle.text.specs.Decimal.{value_of}
use Rattle.task_set.specs.declared.Task.{Task as TaskNumbers}
use Rattle.fields.specs.Fields.{is_name}
use Rattle.codes.specs.Code.Codes.{code_of}
use Rattle.records.specs.declared.Shape.{Shape}
use Rattle.records.specs.declared.Shape.TheVariants.{Part as PartShape, Task as TaskShape, Lock as LockShape, End as EndShape, Unknown}
use Rattle.plan_file.specs.declared.Names.{Names}
use Rattle.plan_file.specs.declared.Seen.{Seen}
use Rattle.plan_file.specs.declared.Entry.{Entry}
use Rattle.plan_file.specs.declared.Entry.TheVariants.{Part, Task, Lock, End}
use Rattle.plan_file.specs.Reading.{part_questions, task_questions, lock_questions}
use Rattle.plan_file.specs.Stretches.{no_span}

abbrev pub no_names : Names
no_names = record { count = 0; span = pad 16 no_span [] }

unfoldable pub names_of : List ℕ → Names → List (List ℕ)
names_of s ns = map (bytes_of s) (take ns.count ns.span)

pub record FineNames (ns : Names) : Type 0 where
  pub few : ns.count ≤ 16
  pub room : length ns.span ≡ 16

-- the numbers of these names, for each its place
pub record NumbersOf (s : List ℕ) (ns : Names) (codes : List ℕ) : Type 0 where
  pub room : length codes ≡ 16
  pub are : take ns.count codes ≡ map code_of (names_of s ns)
  pub good : every is_name (names_of s ns) ≡ true

abbrev pub place_in : List ℕ → List (List ℕ) → Option ℕ
place_in name ns = position (same name) ns

unfoldable pub place_among : List ℕ → List (List ℕ) → ℕ
place_among name [] = zero
place_among name (n ∷ ns) = cond (same name n) zero (suc (place_among name ns))

unfoldable pub with_name : Names → Span → Names
with_name ns p = record { count = ns.count + 1; span = set ns.span ns.count p }

-- with one more where j is the place behind them
unfoldable pub with_lock_name : Names → Span → ℕ → Names
with_lock_name ns p j = cond (eqb j ns.count) (with_name ns p) ns

-- an entry, if every question has the answer yes
unfoldable pub entry_if : Outcome → Entry → Result Entry Refusal
entry_if Done e = Ok e
entry_if (Refused r) e = Err r

unfoldable pub part_entry : List ℕ → ℕ → Bool → Names → Span → Span → Result Entry Refusal
part_entry s n allowed parts name P = entry_if (first_no (part_questions n allowed (names_of s parts) (bytes_of s name) (bytes_of s P))) (Part name (value_of (bytes_of s P)))

unfoldable pub task_entry : List ℕ → ℕ → Bool → Names → Span → Span → Span → Span → Result Entry Refusal
task_entry s n allowed tasks name T C D =
    entry_if (first_no (task_questions n allowed (names_of s tasks) (bytes_of s name) (bytes_of s T) (bytes_of s C) (bytes_of s D)))
    (Task name (value_of (bytes_of s T)) (value_of (bytes_of s C)) (value_of (bytes_of s D)))

-- how long a task holds the lock at the place j; 0 where it does not use it
unfoldable pub use_at : TaskNumbers → ℕ → ℕ
use_at t j = get_or t.uses j 0

unfoldable pub lock_entry : List ℕ → ℕ → Bool → TaskNumbers → Names → Span → Span → Result Entry Refusal
lock_entry s n allowed last locks name c =
    let j = place_among (bytes_of s name) (names_of s locks) in
    entry_if (first_no (lock_questions n allowed (leb 1 (use_at last j)) (names_of s locks) last.cost (bytes_of s name) (bytes_of s c)))
    (Lock name j (value_of (bytes_of s c)))

unfoldable pub end_entry : ℕ → Bool → Result Entry Refusal
end_entry n allowed = entry_if (first_no (ask (Misplaced n) allowed ∷ [])) End

unfoldable pub entry_of : List ℕ → ℕ → Seen → Shape → Result Entry Refusal
entry_of s n seen (PartShape name P) = part_entry s n (not seen.ended && not seen.fresh) seen.parts name P
entry_of s n seen (TaskShape name T C D) = task_entry s n (not seen.ended && leb 1 seen.parts.count) seen.tasks name T C D
entry_of s n seen (LockShape name c) = lock_entry s n (not seen.ended && leb 1 seen.tasks.count) seen.last seen.locks name c
entry_of s n seen EndShape = end_entry n (not seen.ended && (not seen.fresh && leb 1 seen.parts.count))
entry_of s n seen Unknown = Err (BadRecord n)

pub record FineSeen (seen : Seen) : Type 0 where
  pub parts : FineNames seen.parts
  pub tasks : FineNames seen.tasks
  pub locks : FineNames seen.locks
  pub few_locks : seen.locks.count ≤ lock_limit

abbrev pub no_task_read : TaskNumbers
no_task_read = record { separation = 0; cost = 0; deadline = 0; uses = pad lock_limit 0 [] }

abbrev pub none_seen : Seen
none_seen = record { fresh = false; ended = false; parts = no_names; tasks = no_names; locks = no_names; last = no_task_read }

unfoldable pub seen_part : Seen → Span → Seen
seen_part seen name = record { fresh = true; ended = false; parts = with_name seen.parts name; tasks = no_names; locks = no_names; last = no_task_read }

unfoldable pub seen_task : Seen → Span → TaskNumbers → Seen
seen_task seen name task = record { fresh = false; ended = false; parts = seen.parts; tasks = with_name seen.tasks name; locks = seen.locks; last = task }

unfoldable pub seen_lock : Seen → Span → ℕ → TaskNumbers → Seen
seen_lock seen name j task = record { fresh = false; ended = false; parts = seen.parts; tasks = seen.tasks; locks = with_lock_name seen.locks name j; last = task }

unfoldable pub seen_end : Seen → Seen
seen_end seen = record { fresh = false; ended = true; parts = seen.parts; tasks = seen.tasks; locks = seen.locks; last = seen.last }
