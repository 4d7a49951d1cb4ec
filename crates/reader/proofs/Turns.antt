-- Each turn of the reader's loop that enters a record keeps the invariant, and stores within the arrays.
-- Assumes nothing.
use Prim.Native.Nat.{ℕ, ◌-◌, ◌≤◌, ◌<◌}
use native.Mathlib.Omega.{arith}
use borrow.Author.Tests.{eq-eqb, ne_eqb}
use mathlib.Core.Bool.{true, false}
use mathlib.Core.Path.{◌≡◌, refl, sym, ap, ◌∙◌, subst, subst₂}
use mathlib.Core.List.{List, []}
use Rattle.std.proofs.Common.{Ok}
use lib.ListN.{length, set}
use Rattle.least.specs.Lists.{pad}
use Rattle.stretch.specs.declared.Span.{Span}
use Rattle.stretch.specs.Stretch.{bytes_of}
use Rattle.task_set.specs.declared.Task.{Task}
use Rattle.fields.specs.Fields.{is_name}
use Rattle.records.specs.declared.Cursor.{Cursor}
use Rattle.records.specs.declared.Shape.{Shape}
use Rattle.records.specs.Records.{Record}
use Rattle.records.specs.Records.Record.{part, task, lock, end}
use Rattle.records.specs.Code.Cursor.{record_as, RecordIs}
use Rattle.plan_file.specs.declared.Seen.{Seen}
use Rattle.plan_file.specs.declared.Entry.TheVariants.{Part as PartEntry, Task as TaskEntry, Lock as LockEntry, End as EndEntry}
use Rattle.plan_file.specs.Above.{Above, this_part, lock_names, after}
use Rattle.plan_file.specs.Code.Entries.{no_task_read, place_among, with_name, with_lock_name, entry_of, seen_part, seen_task, seen_lock, seen_end}
use Rattle.plan_file.specs.Stretches.{span_on}
use Rattle.plan_file.proofs.SeenNames.{place_mention}
use Rattle.plan_file.proofs.SeenTasks.{task_with}
use Rattle.plan_file.proofs.SeenPart.{stored_use, task_count}
use Rattle.plan_file.proofs.SeenAbove.{task_of, part_count}
use Rattle.plan_file.proofs.SeenEntered.{AllDone, PartEntered, TaskEntered, LockEntered, part_entered, task_entered, lock_entered, end_entered}
use Rattle.reader.specs.declared.PartRead.{PartRead}
use Rattle.reader.specs.Code.Reader.{closed_part, held_at}
use Rattle.reader.proofs.Stands.{Stands, open_small, stands_part, stands_task, stands_lock, stands_end}
use Rattle.reader.proofs.Spans.{Spanned, spanned_same, spanned_end, spanned_part}
use Rattle.reader.proofs.Reading.{Reading, record_done}

module _ {n : ℕ} {s : List ℕ} {c : Cursor} {seen : Seen} {opened : ℕ} {name : Span} {period : ℕ} {tasks : List Task} {all : List PartRead} (reading : Reading n s c seen opened name period tasks all) {r : Shape} {next : Cursor} (at : RecordIs s c r next) where
  abbrev a : Above
  a = reading.above

  abbrev closed : PartRead
  closed = closed_part name period tasks seen.tasks.count seen.locks

  -- behind the record x
  goes_on : (x : Record) → record_as s r ≡ x → AllDone s c.line a r → {seen' : Seen} {opened' : ℕ} {name' : Span} {period' : ℕ} {tasks' : List Task} {all' : List PartRead} → Stands s seen' opened' name' period' tasks' all' (after a x) → Spanned s next.at seen'.parts.count opened' name' all' seen'.ended → Reading n s next seen' opened' name' period' tasks' all'
  goes_on x e d stands spanned = record {
    above = after a x;
    reads = reading.reads ∙ record_done s c r next at a x e d;
    lines_few = omega (arith, at.numbered, at.behind, reading.lines_few);
    within = at.within;
    small = reading.small;
    stands = stands;
    spanned = spanned;
  }

  -- a store of the part that is closed lies within the array
  pub part_room : opened < 16
  part_room = open_small s seen opened name period tasks all a reading.stands

  open_is : opened ≡ seen.parts.count - 1
  open_is = omega (arith, reading.stands.open_is, part_count s seen a reading.stands.seen_is)

  open_room : opened < length all
  open_room = omega (arith, part_room, reading.stands.room)

  -- no name of a part on this line
  no_name : (x : Record) → record_as s r ≡ x → span_on c.at x ≡ [] → span_on c.at (record_as s r) ≡ []
  no_name x e h = ap (span_on c.at) e ∙ h

  same_names : (x : Record) → record_as s r ≡ x → span_on c.at x ≡ [] → Spanned s next.at seen.parts.count opened name all false
  same_names x e h = spanned_same s c r next at seen.parts.count opened name all seen.ended reading.spanned (no_name x e h)

  module _ {nm : Span} {v : ℕ} (is : entry_of s c.line seen r ≡ Ok (PartEntry nm v)) where
    entered_part : PartEntered s seen c.line a r nm v
    entered_part = part_entered s seen a reading.stands.seen_is c.line r nm v is

    pub name_room : seen.parts.count < 16
    name_room = entered_part.room

    pub reading_part : Reading n s next (seen_part seen nm) seen.parts.count nm v (pad 16 no_task_read []) (set all opened closed)
    unfolding seen_part with_name closed_part
    reading_part =
        let e = entered_part in
        let to = stands_part s seen opened name period tasks all a reading.stands nm (bytes_of s e.period) e.room in
        let names = spanned_part s c r next at seen.parts.count opened name all seen.ended reading.spanned closed open_is open_room refl nm e.period e.shape in
        subst (λ (x : ℕ). Reading n s next (seen_part seen nm) seen.parts.count nm x (pad 16 no_task_read []) (set all opened closed)) (sym e.value)
        (goes_on (part (bytes_of s nm) (bytes_of s e.period)) e.is e.done to names)

  module _ {nm : Span} {u v w : ℕ} (is : entry_of s c.line seen r ≡ Ok (TaskEntry nm u v w)) where
    entered_task : TaskEntered s seen c.line a r nm u v w
    entered_task = task_entered s seen a reading.stands.seen_is c.line r nm u v w is

    pub task_room : seen.tasks.count < 16
    task_room = entered_task.room

    pub task_named : is_name (bytes_of s nm) ≡ true
    task_named = entered_task.named

    abbrev taken : Task
    taken = record { separation = u; cost = v; deadline = w; uses = pad 8 0 [] }

    pub reading_task : Reading n s next (seen_task seen nm taken) opened name period (set tasks seen.tasks.count taken) all
    unfolding seen_task span_on
    reading_task =
        let e = entered_task in
        let to = stands_task s seen opened name period tasks all a reading.stands nm e.T e.C e.D e.part_above_is e.room in
        let same : taken ≡ task_with (task_of (bytes_of s nm) e.T e.C e.D) (pad 8 0 []) = λ i. record { separation = e.separation i; cost = e.cost i; deadline = e.deadline i; uses = pad 8 0 [] } in
        subst (λ (t : Task). Reading n s next (seen_task seen nm t) opened name period (set tasks seen.tasks.count t) all) (sym same)
        (goes_on (task (bytes_of s nm) e.T e.C e.D) e.is e.done to (same_names _ e.is refl))

  module _ {nm : Span} {j v : ℕ} (is : entry_of s c.line seen r ≡ Ok (LockEntry nm j v)) where
    entered_lock : LockEntered s seen c.line a r nm j v
    entered_lock = lock_entered s seen a reading.stands.seen_is c.line r nm j v is

    pub lock_named : is_name (bytes_of s nm) ≡ true
    lock_named = entered_lock.named

    pub lock_room : (j < 8) × (1 ≤ seen.tasks.count) × (seen.tasks.count ≤ 16)
    lock_room =
        let e = entered_lock in
        let is-part = reading.stands.seen_is.part in
        let count = task_count s seen.tasks seen.locks seen.last (this_part a) is-part in
        let k : j ≡ place_among (bytes_of s nm) (lock_names (this_part a)) = e.place ∙ ap (place_among (bytes_of s nm)) is-part.lock_names_is in
        (omega (arith, place_mention (bytes_of s nm) (lock_names (this_part a)) 8 e.few), omega (arith, e.task_above_is), is-part.fine_tasks.few)

    pub reading_lock : Reading n s next (seen_lock seen nm j (held_at seen.last j v)) opened name period (set tasks (seen.tasks.count - 1) (held_at seen.last j v)) all
    unfolding held_at seen_lock span_on
    reading_lock =
        let e = entered_lock in
        let to = stands_lock s seen opened name period tasks all a reading.stands nm e.c e.task_above_is e.new e.few e.part_above_is e.positive in
        subst₂ (λ (k x : ℕ). Reading n s next (seen_lock seen nm k (stored_use seen.last k x)) opened name period (set tasks (seen.tasks.count - 1) (stored_use seen.last k x)) all) (sym e.place) (sym e.value)
        (goes_on (lock (bytes_of s nm) e.c) e.is e.done to (same_names _ e.is refl))

    -- the lock's name is the next of the part, or one of those above
    pub reading_new_lock : j ≡ seen.locks.count → Reading n s next (record { fresh = false; ended = false; parts = seen.parts; tasks = seen.tasks; locks = with_name seen.locks nm; last = held_at seen.last j v }) opened name period (set tasks (seen.tasks.count - 1) (held_at seen.last j v)) all
    unfolding seen_lock with_lock_name
    reading_new_lock e = simp (eq-eqb _ _ e) at reading_lock

    pub reading_known_lock : (j ≡ seen.locks.count → ⊥) → Reading n s next (record { fresh = false; ended = false; parts = seen.parts; tasks = seen.tasks; locks = seen.locks; last = held_at seen.last j v }) opened name period (set tasks (seen.tasks.count - 1) (held_at seen.last j v)) all
    unfolding seen_lock with_lock_name
    reading_known_lock e = simp (ne_eqb _ _ e) at reading_lock

  pub reading_end : entry_of s c.line seen r ≡ Ok EndEntry → Reading n s next (seen_end seen) opened name period tasks (set all opened closed)
  unfolding seen_end span_on closed_part
  reading_end is =
      let e = end_entered s seen a reading.stands.seen_is c.line r is in
      goes_on end e.is e.done (stands_end s seen opened name period tasks all a reading.stands)
      (spanned_end s c r next at seen.parts.count opened name all seen.ended reading.spanned closed open_is open_room refl (no_name end e.is refl))
