-- What the reader hands on, and what it stands for.
--   part_of s r        == the part that the struct `PartRead` stands for, whose names are stretches of the file s
--   parts_in s f       == the parts that the struct `PlanFile` holds;  spans_in f == where their names stand
--   FineCounts r       == the counts of the struct `PartRead` are within the places that there are, and count the same locks
--   no_part_read       == the struct `PartRead` of a part of which nothing was read
--   no_file            == the struct `PlanFile` of a file of which nothing was read
--   NoPartIn f         == the struct `PlanFile` has all its places, and none counts
--   PartsFine f        == so are the count of the struct `PlanFile` and those of its parts
--   LinesFrom n s f    == f has the parts of the file s, whose first line has the number n, each as it would be in a file by itself; its counts are fine, and each
--                         part's name is the stretch of its `part` line
--   SharedMarked s f g == g is f with the locks marked that more than one part names
--   ReadFromIs n s f   == f is what that file says: its parts; its counts are fine, and each part's name is the stretch of its `part` line
--   RefusedFrom n s r  == r is what it says: the refusal of the first question among 1 to 9 with a no
--   ReadIs s f         == `ReadFromIs` of a file by itself: its lines are numbered from 1
-- The one place where counts and unused places of these structs occur.
-- Assumes nothing.
use Rattle.std.specs.Prelude.{ℕ, ◌≤◌, ◌<◌, ◌≡◌, Bool, false, List, [], ◌∷◌, map, length, take, set, get_or, Option}
use Rattle.least.specs.Lists.{pad}
use Rattle.refusal.specs.declared.Refusal.{Refusal}
use Rattle.refusal.specs.Limits.{part_limit, task_limit, lock_limit}
use Rattle.refusal.specs.Questions.Answer.{answered, refused}
use Rattle.stretch.specs.declared.Span.{Span}
use Rattle.stretch.specs.Stretch.{bytes_of}
use Rattle.task_set.specs.declared.Task.{Task}
use Rattle.task_set.specs.Code.Partition.{partition_of}
use Rattle.plan_file.specs.declared.Names.{Names}
use Rattle.plan_file.specs.Above.{FilePart}
use Rattle.plan_file.specs.Reading.{read_from}
use Rattle.plan_file.specs.Stretches.{name_spans, no_span}
use Rattle.plan_file.specs.Numbers.{PlanPart, plan_part, numbered}
use Rattle.plan_file.specs.Code.Entries.{FineNames, no_names, no_task_read, names_of}
use Rattle.sharing.specs.Code.Sharing.{codes_of, marks_at, numbers_of}
use Rattle.reader.specs.declared.PartRead.{PartRead}
use Rattle.reader.specs.declared.PlanFile.{PlanFile}

unfoldable pub part_of : List ℕ → PartRead → PlanPart
part_of s r = record { name = bytes_of s r.name; locks = names_of s r.locks; numbers = partition_of r.part }

abbrev pub parts_in : List ℕ → PlanFile → List PlanPart
parts_in s f = map (part_of s) (take f.count f.parts)

-- a part with all that was read of it
unfoldable pub closed_part : Span → ℕ → List Task → ℕ → Names → PartRead
closed_part name P ts n locks = record {
  name = name;
  part = record { period = P; tasks = ts; count = n; locks = locks.count; shared = pad lock_limit false [] };
  locks = locks;
}

-- a part of which nothing was read
abbrev pub no_part_read : PartRead
no_part_read = closed_part no_span 0 (pad task_limit no_task_read []) 0 no_names

-- a place for a file of which nothing was read
abbrev pub no_file : PlanFile
no_file = record { parts = pad part_limit no_part_read []; count = 0 }

-- what is read past the end of an array of parts, which nobody does
abbrev pub blank_part : PartRead
blank_part = record { name = no_span; part = record { period = 0; tasks = []; count = 0; locks = 0; shared = [] }; locks = record { count = 0; span = [] } }

pub record FineCounts (r : PartRead) : Type 0 where
  pub few : r.part.count ≤ task_limit
  pub room : length r.part.tasks ≡ task_limit
  pub few_locks : r.part.locks ≤ lock_limit
  pub locks_are : r.part.locks ≡ r.locks.count
  pub names : FineNames r.locks

pub record PartsFine (f : PlanFile) : Type 0 where
  pub few : f.count ≤ part_limit
  pub room : length f.parts ≡ part_limit
  pub counts : (k : ℕ) → k < f.count → FineCounts (get_or f.parts k blank_part)

pub record NoPartIn (f : PlanFile) : Type 0 where
  pub count : f.count ≡ 0
  pub room : length f.parts ≡ part_limit

abbrev pub spans_in : PlanFile → List Span
spans_in f = map (λ p. p.name) (take f.count f.parts)

-- the part p as it would be in a file by itself
abbrev pub part_alone : FilePart → PlanPart
part_alone p = plan_part (p ∷ []) p

pub record LinesFrom (n : ℕ) (s : List ℕ) (f : PlanFile) : Type 0 where
  pub parts : List FilePart
  pub read : read_from n s ≡ answered parts
  pub are : parts_in s f ≡ map part_alone parts
  pub fine : PartsFine f
  pub spans : spans_in f ≡ name_spans s

-- the rows of the numbers of their lock names, the same with 0 for none, and a part with these marks
abbrev pub rows_in : List ℕ → PlanFile → List (List (Option ℕ))
rows_in s f = map (λ p. codes_of s p.locks) (take f.count f.parts)

abbrev pub numbers_in : List ℕ → PlanFile → List (List ℕ)
numbers_in s f = map (λ p. numbers_of s p.locks) (take f.count f.parts)

abbrev pub marked : List Bool → PartRead → PartRead
marked marks r = record {
  name = r.name;
  part = record { period = r.part.period; tasks = r.part.tasks; count = r.part.count; locks = r.part.locks; shared = marks };
  locks = r.locks;
}

pub record SharedMarked (s : List ℕ) (before after : PlanFile) : Type 0 where
  pub count : after.count ≡ before.count
  pub room : length after.parts ≡ length before.parts
  pub each : (k : ℕ) → k < before.count → get_or after.parts k blank_part ≡ marked (marks_at (rows_in s before) k) (get_or before.parts k blank_part)

pub record ReadFromIs (n : ℕ) (s : List ℕ) (f : PlanFile) : Type 0 where
  pub value : numbered (read_from n s) ≡ answered (parts_in s f)
  pub few : f.count ≤ part_limit
  pub room : length f.parts ≡ part_limit
  pub counts : (k : ℕ) → k < f.count → FineCounts (get_or f.parts k blank_part)
  pub spans : spans_in f ≡ name_spans s

abbrev pub RefusedFrom : ℕ → List ℕ → Refusal → Type 0
RefusedFrom n s r = numbered (read_from n s) ≡ refused r

abbrev pub ReadIs : List ℕ → PlanFile → Type 0
ReadIs s f = ReadFromIs 1 s f

-- what the code makes of a task that holds the lock at place j
unfoldable pub held_at : Task → ℕ → ℕ → Task
held_at task j c = record { separation = task.separation; cost = task.cost; deadline = task.deadline; uses = set task.uses j c }
