-- What the reader's locals say of the lines above: what it has seen, the name, the period and the tasks of the last part, and the parts before it.
-- Each record that is entered keeps it so.
-- Assumes nothing.
use Prim.Native.Nat.{ℕ, suc, ◌+◌, ◌-◌, ◌≤◌, ◌<◌}
use native.Mathlib.Omega.{arith}
use native.Mathlib.Decide.{ℕ_discrete}
use mathlib.Core.Path.{◌≡◌, refl, sym, ap, ap₂, ◌∙◌}
use mathlib.Core.Bool.{true, false, false≢true}
use mathlib.Core.List.{List, [], ◌∷◌, ◌++◌, map, map-append, drop_last}
use lib.ListN.{length, take, set, get_or, length-set, length-append}
use lib.Seq.{take-suc-set, take-set-le, get_or-set_same, get_or-set_other}
use Rattle.least.specs.Lists.{pad, last_or, on_last}
use Rattle.least.proofs.Pad.{length_pad}
use Rattle.least.proofs.Last.{last_split, drop_last_snoc, drop_last_on_last, length_on_last}
use Rattle.stretch.specs.declared.Span.{Span}
use Rattle.stretch.specs.Stretch.{bytes_of}
use Rattle.text.specs.Bytes.{among, mention}
use Rattle.text.specs.Decimal.{value_of}
use Rattle.task_set.specs.declared.Task.{Task}
use Rattle.task_set.specs.Code.Tasks.{tasks_of}
use Rattle.records.specs.Records.Record.{part, task, lock, end}
use Rattle.plan_file.specs.declared.Seen.{Seen}
use Rattle.plan_file.specs.Above.{FileLock, FileTask, FilePart, Above, no_part, nothing_above, this_part, this_task, lock_names, with_lock, with_tasks, parts_after, after}
use Rattle.plan_file.specs.Numbers.{PlanPart, tasks_in, is_shared_in}
use Rattle.plan_file.specs.Reading.{is_end, locks_of}
use Rattle.plan_file.specs.Stretches.{no_span}
use Rattle.plan_file.specs.Code.Entries.{no_task_read, none_seen, names_of, place_among, seen_part, seen_task, seen_lock, seen_end}
use Rattle.plan_file.proofs.SeenTasks.{task_with}
use Rattle.plan_file.proofs.SeenPart.{stored_use, task_count, lock_count, task_after_lock}
use Rattle.plan_file.proofs.SeenAbove.{SeenIs, part_count, task_of, lock_of, this_part_part, this_part_task, this_part_lock, seen_is_start, seen_is_part, seen_is_task, seen_is_lock, seen_is_end}
use Rattle.reader.specs.declared.PartRead.{PartRead}
use Rattle.reader.specs.Code.Reader.{part_of, FineCounts, part_alone, closed_part, blank_part}
use Rattle.reader.proofs.Arrays.{array_of, array_task, array_lock, tasks_closed, none_marked}

-- the last part
pub record Holds (s : List ℕ) (name : Span) (period : ℕ) (tasks : List Task) (p : FilePart) : Type 0 where
  pub called : bytes_of s name ≡ p.name
  pub period_is : period ≡ p.period
  pub tasks_are : tasks ≡ array_of p

pub record Stands (s : List ℕ) (seen : Seen) (opened : ℕ) (name : Span) (period : ℕ) (tasks : List Task) (all : List PartRead) (a : Above) : Type 0 where
  pub seen_is : SeenIs s seen a
  pub last : Holds s name period tasks (this_part a)
  pub open_is : opened ≡ length a.parts - 1
  pub room : length all ≡ 16
  pub closed : map (part_of s) (take opened all) ≡ map part_alone (drop_last a.parts)
  pub counts : (k : ℕ) → k < opened → FineCounts (get_or all k blank_part)
  pub complete : is_end a.directly ≡ true → (map (part_of s) (take (length a.parts) all) ≡ map part_alone a.parts) × ((k : ℕ) → k < length a.parts → FineCounts (get_or all k blank_part))

pub stands_start : (s : List ℕ) (all : List PartRead) → length all ≡ 16 → Stands s none_seen 0 no_span 0 (pad 16 no_task_read []) all nothing_above
unfolding last_or is_end bytes_of
stands_start s all room = record {
  seen_is = seen_is_start s;
  last = record { called = refl; period_is = refl; tasks_are = refl };
  open_is = refl;
  room = room;
  closed = refl;
  counts = λ k h. absurd (omega arith);
  complete = λ e. absurd (false≢true e);
}

module _ (s : List ℕ) (seen : Seen) (opened : ℕ) (name : Span) (period : ℕ) (tasks : List Task) (all : List PartRead) (a : Above) (stands : Stands s seen opened name period tasks all a) where
  abbrev pub last_read : PartRead
  last_read = closed_part name period tasks seen.tasks.count seen.locks

  parts_are : length a.parts ≡ seen.parts.count
  parts_are = part_count s seen a stands.seen_is

  tasks_count : length (this_part a).tasks ≡ seen.tasks.count
  tasks_count = task_count s seen.tasks seen.locks seen.last (this_part a) stands.seen_is.part

  locks_count : length (lock_names (this_part a)) ≡ seen.locks.count
  locks_count = lock_count s seen.tasks seen.locks seen.last (this_part a) stands.seen_is.part

  pub open_small : opened < 16
  open_small = omega (arith, parts_are, stands.open_is, stands.seen_is.fine_parts.few)

  -- the last part as it is handed on
  tasks_read : tasks_of (record { period = period; tasks = tasks; count = seen.tasks.count; locks = seen.locks.count; shared = pad 8 false [] }) ≡ tasks_in (this_part a)
  tasks_read =
      ap (λ (ts : List Task). tasks_of (record { period = period; tasks = ts; count = seen.tasks.count; locks = seen.locks.count; shared = pad 8 false [] })) stands.last.tasks_are
      ∙ tasks_closed (this_part a) period seen.tasks.count seen.locks.count (pad 8 false []) tasks_count locks_count stands.seen_is.part.fine_tasks.few stands.seen_is.part.few_locks

  marks_read : take seen.locks.count (pad 8 false []) ≡ map (is_shared_in (this_part a ∷ [])) (lock_names (this_part a))
  marks_read = none_marked (this_part a) seen.locks.count locks_count stands.seen_is.part.few_locks

  last_read_lem : part_of s last_read ≡ part_alone (this_part a)
  unfolding part_of closed_part
  last_read_lem =
      λ i. record { name = stands.last.called i; locks = stands.seen_is.part.lock_names_is i; numbers = record { period = stands.last.period_is i; tasks = tasks_read i; locks = sym locks_count i; shared = marks_read i } }

  last_counted : FineCounts last_read
  unfolding closed_part
  last_counted =
      let is = stands.seen_is.part in
      record { few = is.fine_tasks.few; room = ap length stands.last.tasks_are ∙ length_pad 16 no_task_read _; few_locks = is.few_locks; locks_are = refl; names = is.fine_locks }

  -- with the last part stored, every place is right
  all_counted : (k : ℕ) → k < opened + 1 → FineCounts (get_or (set all opened last_read) k blank_part)
  all_counted k h = go (ℕ_discrete k opened)
    where
      go : Dec (k ≡ opened) → FineCounts (get_or (set all opened last_read) k blank_part)
      go (yes e) = rw (e, get_or-set_same all opened last_read blank_part (omega (arith, open_small, stands.room))) last_counted
      go (no n) = rw (get_or-set_other all opened k last_read blank_part n) (stands.counts k (omega (arith, n)))

  some_read : 1 ≤ length a.parts → map (part_of s) (take (length a.parts) (set all opened last_read)) ≡ map part_alone a.parts
  some_read h =
      let n : length a.parts ≡ suc opened = omega (arith, stands.open_is) in
      rw (n, take-suc-set all opened last_read (omega (arith, open_small, stands.room)), map-append (part_of s))
      (ap₂ (λ (xs : List PlanPart) (x : PlanPart). xs ++ (x ∷ [])) stands.closed last_read_lem
      ∙ sym (map-append part_alone (drop_last a.parts) (this_part a ∷ []))
      ∙ ap (map part_alone) (sym (last_split no_part a.parts h)))

  -- with the last part stored, all parts are there
  all_read : map (part_of s) (take (length a.parts) (set all opened last_read)) ≡ map part_alone a.parts
  all_read = go a.parts refl
    where
      go : (ps : List FilePart) → a.parts ≡ ps → map (part_of s) (take (length a.parts) (set all opened last_read)) ≡ map part_alone a.parts
      go [] h = rw h
      go (p ∷ ps) h = some_read (rw h (omega arith))

  pub stands_part : (nm : Span) (P : List ℕ) → seen.parts.count < 16 → Stands s (seen_part seen nm) seen.parts.count nm (value_of P) (pad 16 no_task_read []) (set all opened last_read) (after a (part (bytes_of s nm) P))
  unfolding parts_after is_end
  stands_part nm P h = record {
    seen_is = seen_is_part s seen a stands.seen_is nm P h;
    last = rw (this_part_part a (bytes_of s nm) P) (record { called = refl; period_is = refl; tasks_are = refl });
    open_is = rw length-append (omega (arith, parts_are));
    room = length-set all opened last_read ∙ stands.room;
    closed = rw (drop_last_snoc a.parts, ← parts_are) all_read;
    counts = λ k l. all_counted k (omega (arith, parts_are, stands.open_is));
    complete = λ e. absurd (false≢true e);
  }

  -- a line that changes the last part alone, and is not `end`, leaves the others
  others_stay : (f : FilePart → FilePart) (b : Above) → b.parts ≡ on_last f a.parts → is_end b.directly ≡ false → {seen' : Seen} {tasks' : List Task} → SeenIs s seen' b → Holds s name period tasks' (this_part b) → Stands s seen' opened name period tasks' all b
  others_stay f b changed not_end is holds = record {
    seen_is = is;
    last = holds;
    open_is = rw (changed, length_on_last f a.parts) stands.open_is;
    room = stands.room;
    closed = rw (changed, drop_last_on_last f a.parts) stands.closed;
    counts = stands.counts;
    complete = λ e. absurd (false≢true (sym not_end ∙ e));
  }

  holds_task : (t : FileTask) → seen.tasks.count < 16 → t.locks ≡ [] → Holds s name period (set tasks seen.tasks.count (task_with t (pad 8 0 []))) (with_tasks (λ ts. ts ++ (t ∷ [])) (this_part a))
  holds_task t h e = record {
    called = stands.last.called;
    period_is = stands.last.period_is;
    tasks_are = ap₂ (λ (ts : List Task) (n : ℕ). set ts n (task_with t (pad 8 0 []))) stands.last.tasks_are (sym tasks_count) ∙ array_task (this_part a) t (omega (arith, tasks_count)) e;
  }

  pub stands_task : (nm : Span) (T C D : List ℕ) → 1 ≤ length a.parts → seen.tasks.count < 16 → let t = task_with (task_of (bytes_of s nm) T C D) (pad 8 0 []) in Stands s (seen_task seen nm t) opened name period (set tasks seen.tasks.count t) all (after a (task (bytes_of s nm) T C D))
  unfolding is_end parts_after
  stands_task nm T C D p h =
      let t = task_of (bytes_of s nm) T C D in
      others_stay (with_tasks (λ ts. ts ++ (t ∷ []))) (after a (task (bytes_of s nm) T C D)) refl refl (seen_is_task s seen a stands.seen_is nm T C D p h)
      (rw (this_part_task a (bytes_of s nm) T C D p) (holds_task t h refl))

  module _ (nm : Span) (c : List ℕ) (some : 1 ≤ length (this_part a).tasks) (new : among (bytes_of s nm) (locks_of (this_task a)) ≡ false) (few : length (mention (lock_names (this_part a)) (bytes_of s nm)) ≤ 8) where
    abbrev at : ℕ
    at = place_among (bytes_of s nm) (names_of s seen.locks)

    abbrev it : FileLock
    it = lock_of (bytes_of s nm) c

    holds_lock : Holds s name period (set tasks (seen.tasks.count - 1) (stored_use seen.last at (value_of c))) (with_tasks (on_last (with_lock it)) (this_part a))
    holds_lock =
        let changed = task_after_lock s seen.tasks seen.locks seen.last (this_part a) stands.seen_is.part nm (value_of c) some few new in
        record {
          called = stands.last.called;
          period_is = stands.last.period_is;
          tasks_are = (λ i. set (stands.last.tasks_are i) (sym tasks_count i - 1) (changed i)) ∙ array_lock (this_part a) it some;
        }

    pub stands_lock : 1 ≤ length a.parts → 1 ≤ value_of c → let t = stored_use seen.last at (value_of c) in Stands s (seen_lock seen nm at t) opened name period (set tasks (seen.tasks.count - 1) t) all (after a (lock (bytes_of s nm) c))
    unfolding is_end parts_after
    stands_lock p h =
        others_stay (with_tasks (on_last (with_lock it))) (after a (lock (bytes_of s nm) c)) refl refl (seen_is_lock s seen a stands.seen_is nm c p some h new few)
        (rw (this_part_lock a (bytes_of s nm) c p) holds_lock)

  pub stands_end : Stands s (seen_end seen) opened name period tasks (set all opened last_read) (after a end)
  unfolding parts_after
  stands_end = record {
    seen_is = seen_is_end s seen a stands.seen_is;
    last = stands.last;
    open_is = stands.open_is;
    room = length-set all opened last_read ∙ stands.room;
    closed = rw (take-set-le opened all opened last_read (omega arith)) stands.closed;
    counts = λ k h. all_counted k (omega arith);
    complete = λ e. (all_read, λ k h. all_counted k (omega (arith, stands.open_is)));
  }
