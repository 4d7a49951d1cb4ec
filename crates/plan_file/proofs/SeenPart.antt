-- What the reader keeps of the last part: the names of its tasks and of its locks, and its last task; and that one more task or lock keeps it so.
-- Assumes nothing.
use Prim.Native.Nat.{ℕ, ◌≤◌, ◌<◌}
use native.Mathlib.Omega.{arith}
use mathlib.Core.Path.{◌≡◌, refl, sym, ap, ap₂, ◌∙◌}
use mathlib.Core.Bool.{false}
use mathlib.Core.List.Memᴰ
use mathlib.Core.List.{List, [], ◌∷◌, ◌++◌, map-append}
use lib.ListN.{length, set, length-map}
use Rattle.least.specs.Lists.{pad, last_or, on_last, joined}
use Rattle.least.proofs.Last.{last_snoc, last_on_last, map_on_last, snoc_each}
use Rattle.text.specs.Bytes.{among, mention, distinct_after}
use Rattle.stretch.specs.declared.Span.{Span}
use Rattle.stretch.specs.Stretch.{bytes_of}
use Rattle.task_set.specs.declared.Task.{Task}
use Rattle.plan_file.specs.declared.Names.{Names}
use Rattle.plan_file.specs.Above.{FileLock, FileTask, FilePart, no_task, lock_mentions, lock_names, with_lock, with_tasks}
use Rattle.plan_file.specs.Reading.{task_names, locks_of}
use Rattle.plan_file.specs.Code.Entries.{FineNames, no_names, no_task_read, names_of, place_among, with_name, with_lock_name}
use Rattle.plan_file.proofs.Places.{names_length}
use Rattle.plan_file.proofs.SeenNames.{names_with, fine_with, no_names_lem, fine_none, names_lock, fine_lock}
use Rattle.plan_file.proofs.SeenLocks.{AllHeld, lock_names_different, lock_names_task, lock_names_lock}
use Rattle.plan_file.proofs.SeenTasks.{task_with, padded, padded_new, padded_lock}

abbrev pub last_task : FilePart → FileTask
last_task p = last_or no_task p.tasks

pub record PartIs (s : List ℕ) (tasks locks : Names) (last : Task) (p : FilePart) : Type 0 where
  pub fine_tasks : FineNames tasks
  pub fine_locks : FineNames locks
  pub few_locks : locks.count ≤ 8
  pub task_names_is : names_of s tasks ≡ task_names p
  pub lock_names_is : names_of s locks ≡ lock_names p
  pub last_is : last ≡ padded (lock_names p) (last_task p)
  pub held : AllHeld (last_task p).locks

-- a task that holds the lock at the place j for c ticks
abbrev pub stored_use : Task → ℕ → ℕ → Task
stored_use t j c = record { separation = t.separation; cost = t.cost; deadline = t.deadline; uses = set t.uses j c }

-- a part without tasks
pub part_is_new : (s name : List ℕ) (P : ℕ) → PartIs s no_names no_names no_task_read (record { name = name; period = P; tasks = [] })
unfolding last_or lock_names lock_mentions joined distinct_after
part_is_new s name P = record {
  fine_tasks = fine_none;
  fine_locks = fine_none;
  few_locks = omega arith;
  task_names_is = no_names_lem s;
  lock_names_is = no_names_lem s;
  last_is = sym (padded_new [] no_task refl);
  held = λ l m. absurd (Memᴰ.not-nil m);
}

module _ (s : List ℕ) (ts ls : Names) (last : Task) (p : FilePart) (is : PartIs s ts ls last p) where
  -- as many tasks as there are names of them
  pub task_count : length p.tasks ≡ ts.count
  task_count = sym (length-map p.tasks (λ t. t.name)) ∙ sym (ap length is.task_names_is) ∙ names_length s ts is.fine_tasks

  pub lock_count : length (lock_names p) ≡ ls.count
  lock_count = sym (ap length is.lock_names_is) ∙ names_length s ls is.fine_locks

  -- one task more
  pub part_is_task : (nm : Span) (t : FileTask) → ts.count < 16 → t.name ≡ bytes_of s nm → t.locks ≡ [] → PartIs s (with_name ts nm) ls (task_with t (pad 8 0 [])) (with_tasks (λ us. us ++ (t ∷ [])) p)
  part_is_task nm t h n e = record {
    fine_tasks = fine_with ts nm is.fine_tasks h;
    fine_locks = is.fine_locks;
    few_locks = is.few_locks;
    task_names_is = names_with s ts nm is.fine_tasks h ∙ ap₂ (λ (a : List (List ℕ)) (b : List ℕ). a ++ (b ∷ [])) is.task_names_is (sym n) ∙ sym (map-append (λ (u : FileTask). u.name) p.tasks (t ∷ []));
    lock_names_is = is.lock_names_is ∙ sym (lock_names_task p t e);
    last_is = rw (last_snoc no_task p.tasks t) (sym (padded_new _ t e));
    held = rw (last_snoc no_task p.tasks t, e) (λ l m. absurd (Memᴰ.not-nil m));
  }

  -- one lock more of the last task
  module _ (nm : Span) (c : ℕ) (some : 1 ≤ length p.tasks) (few : length (mention (lock_names p) (bytes_of s nm)) ≤ 8) where
    abbrev it : FileLock
    it = record { name = bytes_of s nm; held = c }

    abbrev at : ℕ
    at = place_among (bytes_of s nm) (names_of s ls)

    names_after_lock : names_of s (with_lock_name ls nm at) ≡ lock_names (with_tasks (on_last (with_lock it)) p)
    names_after_lock =
        names_lock s ls nm is.fine_locks (omega (arith, is.few_locks))
        ∙ ap (λ (ns : List (List ℕ)). mention ns (bytes_of s nm)) is.lock_names_is
        ∙ sym (lock_names_lock p it some)

    fine_after_lock : FineNames (with_lock_name ls nm at)
    fine_after_lock = fine_lock s ls nm is.fine_locks (omega (arith, is.few_locks))

    last_after_lock : last_task (with_tasks (on_last (with_lock it)) p) ≡ with_lock it (last_task p)
    last_after_lock = last_on_last (with_lock it) no_task p.tasks some

    pub task_after_lock : among (bytes_of s nm) (locks_of (last_task p)) ≡ false → stored_use last at c ≡ padded (mention (lock_names p) (bytes_of s nm)) (with_lock it (last_task p))
    unfolding padded
    task_after_lock new =
        ap₂ (λ (t : Task) (ns : List (List ℕ)). stored_use t (place_among (bytes_of s nm) ns) c) is.last_is is.lock_names_is
        ∙ padded_lock (lock_names p) (last_task p) it new (lock_names_different p) few

    held_after_lock : 1 ≤ c → AllHeld (with_lock it (last_task p)).locks
    held_after_lock h = snoc_each (λ l. 1 ≤ l.held) (last_task p).locks it is.held h

    pub part_is_lock : 1 ≤ c → among (bytes_of s nm) (locks_of (last_task p)) ≡ false → PartIs s ts (with_lock_name ls nm at) (stored_use last at c) (with_tasks (on_last (with_lock it)) p)
    part_is_lock h new = record {
      fine_tasks = is.fine_tasks;
      fine_locks = fine_after_lock;
      few_locks = omega (arith, names_length s (with_lock_name ls nm at) fine_after_lock, ap length (names_after_lock ∙ lock_names_lock p it some));
      task_names_is = is.task_names_is ∙ sym (map_on_last (λ (u : FileTask). u.name) (with_lock it) p.tasks (λ u. refl));
      lock_names_is = names_after_lock;
      last_is = rw (last_after_lock, lock_names_lock p it some) (task_after_lock new);
      held = rw last_after_lock (held_after_lock h);
    }
