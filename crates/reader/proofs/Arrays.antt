-- The array of tasks that the reader fills: one more task and one more lock are one store each, and of the part that is closed it holds the tasks. No
-- lock of this part is marked yet.
-- Assumes nothing.
use Prim.Native.Nat.{ℕ, ◌-◌, ◌≤◌, ◌<◌}
use native.Mathlib.Omega.{arith}
use mathlib.Core.Path.{◌≡◌, sym, ap, ap₂, ◌∙◌}
use mathlib.Core.Bool.{Bool, false}
use mathlib.Core.List.{List, [], ◌∷◌, ◌++◌, map, map-append, map-map, drop_last}
use lib.ListN.{length, set, take, length-map, length-append}
use lib.Seq.{set_at}
use Rattle.least.specs.Lists.{pad, on_last}
use Rattle.least.proofs.Lists.{map_same}
use Rattle.least.proofs.Pad.{set_pad, set_pad_within, take_pad, pad_fillers}
use Rattle.least.proofs.Last.{last_split, on_last_split, length_drop_last, drop_last_member}
use Rattle.text.specs.Bytes.{mention}
use Rattle.task_set.specs.declared.Task.{Task}
use Rattle.task_set.specs.Code.Tasks.{with_locks, tasks_of}
use Rattle.plan_file.specs.Above.{FileLock, FileTask, FilePart, no_task, lock_names, with_lock, with_tasks}
use Rattle.plan_file.specs.Numbers.{task_in, tasks_in, is_shared_in}
use Rattle.plan_file.specs.Code.Entries.{no_task_read}
use Rattle.plan_file.proofs.SeenLocks.{lock_unmentioned, lock_names_task, lock_names_lock}
use Rattle.plan_file.proofs.SeenTasks.{held_by, task_with, padded, padded_new, padded_mention}
use Rattle.plan_file.proofs.SeenPart.{last_task}
use Rattle.plan_file.proofs.Sharing.{alone_private}

module _ {A : Type 0} (k : ℕ) (z : A) (xs : List A) (n : ℕ) (count : length xs ≡ n) where
  add_at : (x : A) → n < k → set (pad k z xs) n x ≡ pad k z (xs ++ (x ∷ []))
  add_at x h = rw (← count) (set_pad k z xs x (omega arith))

  change_at : (x y : A) → set (pad k z (xs ++ (x ∷ []))) n y ≡ pad k z (xs ++ (y ∷ []))
  change_at x y = set_pad_within k z (xs ++ (x ∷ [])) n y (rw length-append (omega arith)) ∙ ap (pad k z) (set_at xs x [] y n count)

  take_at : n ≤ k → take n (pad k z xs) ≡ xs
  take_at h = rw (← count) (take_pad k z xs (omega arith))

-- the array of a part's tasks
abbrev pub array_of : FilePart → List Task
array_of p = pad 16 no_task_read (map (padded (lock_names p)) p.tasks)

module _ (p : FilePart) where
  abbrev read : FileTask → Task
  read = padded (lock_names p)

  abbrev front : List FileTask
  front = drop_last p.tasks

  pub array_task : (t : FileTask) → length p.tasks < 16 → t.locks ≡ [] → set (array_of p) (length p.tasks) (task_with t (pad 8 0 [])) ≡ array_of (with_tasks (λ ts. ts ++ (t ∷ [])) p)
  array_task t h e =
      rw (lock_names_task p t e, map-append read, ← padded_new (lock_names p) t e)
      (add_at 16 no_task_read (map read p.tasks) (length p.tasks) (length-map p.tasks read) (read t) h)

  -- the tasks before the last do not use a lock that is new to the part
  others_same : (name : List ℕ) → map (padded (mention (lock_names p) name)) front ≡ map read front
  others_same name =
      map_same (padded (mention (lock_names p) name)) read front (λ t m. padded_mention (lock_names p) t name (λ e. lock_unmentioned name p t e (drop_last_member p.tasks m)))

  module _ (l : FileLock) (some : 1 ≤ length p.tasks) where
    abbrev changed : Task
    changed = padded (mention (lock_names p) l.name) (with_lock l (last_task p))

    tasks_before : map read p.tasks ≡ map read front ++ (read (last_task p) ∷ [])
    tasks_before = ap (map read) (last_split no_task p.tasks some) ∙ map-append read front (last_task p ∷ [])

    tasks_now : map (padded (lock_names (with_tasks (on_last (with_lock l)) p))) (on_last (with_lock l) p.tasks) ≡ map read front ++ (changed ∷ [])
    tasks_now =
        let f = padded (mention (lock_names p) l.name) in
        ap₂ (λ (ns : List (List ℕ)) (ts : List FileTask). map (padded ns) ts) (lock_names_lock p l some) (on_last_split (with_lock l) no_task p.tasks some)
        ∙ map-append f front (with_lock l (last_task p) ∷ [])
        ∙ ap (λ (ts : List Task). ts ++ (changed ∷ [])) (others_same l.name)

    pub array_lock : set (array_of p) (length p.tasks - 1) changed ≡ array_of (with_tasks (on_last (with_lock l)) p)
    array_lock =
        ap (λ (ts : List Task). set (pad 16 no_task_read ts) (length p.tasks - 1) changed) tasks_before
        ∙ change_at 16 no_task_read (map read front) (length p.tasks - 1) (length-map front read ∙ length_drop_last p.tasks) (read (last_task p)) changed
        ∙ ap (pad 16 no_task_read) (sym tasks_now)

  -- of a task's places as many count as the part has locks
  used_places : (m : ℕ) (t : FileTask) → length (lock_names p) ≡ m → m ≤ 8 → with_locks m (read t) ≡ task_in (lock_names p) t
  unfolding padded task_in
  used_places m t e h = ap (task_with t) (take_at 8 0 (map (held_by t) (lock_names p)) m (length-map (lock_names p) (held_by t) ∙ e) h)

  pub tasks_closed : (P n m : ℕ) (marks : List Bool) → length p.tasks ≡ n → length (lock_names p) ≡ m → n ≤ 16 → m ≤ 8 → tasks_of (record { period = P; tasks = array_of p; count = n; locks = m; shared = marks }) ≡ tasks_in p
  unfolding tasks_of tasks_in
  tasks_closed P n m marks e f h k =
      ap (map (with_locks m)) (take_at 16 no_task_read (map read p.tasks) n (length-map p.tasks read ∙ e) h)
      ∙ map-map (with_locks m) read p.tasks
      ∙ map_same (λ t. with_locks m (read t)) (task_in (lock_names p)) p.tasks (λ t q. used_places m t f k)

  -- no lock is marked, as none is shared in a file of this part alone
  pub none_marked : (m : ℕ) → length (lock_names p) ≡ m → m ≤ 8 → take m (pad 8 false []) ≡ map (is_shared_in (p ∷ [])) (lock_names p)
  none_marked m e h =
      let test = is_shared_in (p ∷ []) in
      ap (take m) (sym (pad_fillers test 8 false (lock_names p) (alone_private p))) ∙ take_at 8 false (map test (lock_names p)) m (length-map (lock_names p) test ∙ e) h
