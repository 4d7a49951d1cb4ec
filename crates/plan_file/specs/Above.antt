-- What the lines above one say.
--   FileLock, FileTask, FilePart == a lock, a task, a part as the file gives them: names are bytes, tasks and locks stand in file order
--   Above                        == what the lines above say: the parts so far, and the record directly above (`no_record` above line 1)
--   this_part a                  == the part that the next `task` or `lock` line belongs to
--   this_task a                  == the task that the next `lock` line belongs to
--   lock_names p                 == the different lock names of a part, in order of first mention
--   after a r                    == what the lines up to the record r say
-- Assumes nothing.
use Rattle.std.specs.Prelude.{ℕ, List, [], ◌∷◌, ◌++◌, map}
use Rattle.least.specs.Lists.{joined, last_or, on_last}
use Rattle.text.specs.Bytes.{distinct}
use Rattle.text.specs.Decimal.{value_of}
use Rattle.records.specs.Records.{Record}
use Rattle.records.specs.Records.Record.{part, task, lock, end, no_record}

pub record FileLock : Type 0 where
  pub name : List ℕ
  pub held : ℕ

pub record FileTask : Type 0 where
  pub name : List ℕ
  pub separation : ℕ
  pub cost : ℕ
  pub deadline : ℕ
  pub locks : List FileLock

pub record FilePart : Type 0 where
  pub name : List ℕ
  pub period : ℕ
  pub tasks : List FileTask

abbrev pub no_task : FileTask
no_task = record { name = []; separation = 0; cost = 0; deadline = 0; locks = [] }

abbrev pub no_part : FilePart
no_part = record { name = []; period = 0; tasks = [] }

pub record Above : Type 0 where
  pub parts : List FilePart
  pub directly : Record

-- above line 1
abbrev pub nothing_above : Above
nothing_above = record { parts = []; directly = no_record }

abbrev pub this_part : Above → FilePart
this_part a = last_or no_part a.parts

abbrev pub this_task : Above → FileTask
this_task a = last_or no_task (this_part a).tasks

-- the lock names of a part's lock lines, in file order
unfoldable pub lock_mentions : FilePart → List (List ℕ)
lock_mentions p = joined (map (λ t. map (λ l. l.name) t.locks) p.tasks)

unfoldable pub lock_names : FilePart → List (List ℕ)
lock_names p = distinct (lock_mentions p)

-- a task with one lock more, a part with one task more
abbrev pub with_lock : FileLock → FileTask → FileTask
with_lock l t = record { name = t.name; separation = t.separation; cost = t.cost; deadline = t.deadline; locks = t.locks ++ (l ∷ []) }

abbrev pub with_tasks : (List FileTask → List FileTask) → FilePart → FilePart
with_tasks f p = record { name = p.name; period = p.period; tasks = f p.tasks }

unfoldable pub parts_after : List FilePart → Record → List FilePart
parts_after ps (part name P) = ps ++ (record { name = name; period = value_of P; tasks = [] } ∷ [])
parts_after ps (task name T C D) =
    on_last (with_tasks (λ ts. ts ++ (record { name = name; separation = value_of T; cost = value_of C; deadline = value_of D; locks = [] } ∷ []))) ps
parts_after ps (lock name c) = on_last (with_tasks (on_last (with_lock (record { name = name; held = value_of c })))) ps
parts_after ps end = ps
parts_after ps no_record = ps

abbrev pub after : Above → Record → Above
after a r = record { parts = parts_after a.parts r; directly = r }
