-- What a readable file is made of, for every definition above reading: its parts, each with its names and its numbers.
--   PlanPart             == the name of a part, the names of its locks in order of first mention, and its numbers as the local test sees them
--   tasks_in p           == its tasks 1 to n; of each, how long it holds the locks 1 to m, in order of first mention
--   namers ps name       == the parts of the file that name this lock; ps are all parts of the file
--   is_shared_in ps name == the lock of this name is shared: more than one part names it. A lock named in just one part of the file is private
--   plan_part ps p       == the part p of the file, as a `PlanPart`;  plan_parts ps == all of them
--   numbered a           == the same of an answer
--   parts_of s           == the parts of the file s, or the refusal of its first question with a no
--   part_at ps k         == part k of these, counted from 1; `no_plan_part`, which has no tasks, where there is no such part
-- Assumes nothing.
use Rattle.std.specs.Prelude.{ℕ, Bool, cond, List, [], ◌∷◌, map, leb, length}
use Rattle.least.specs.Lists.{nth_or, those}
use Rattle.refusal.specs.Questions.{Answer}
use Rattle.refusal.specs.Questions.Answer.{answered, refused}
use Rattle.text.specs.Bytes.{same, among}
use Rattle.task_set.specs.declared.Task.{Task}
use Rattle.task_set.specs.Partition.{Partition}
use Rattle.plan_file.specs.Above.{FileLock, FileTask, FilePart, no_part, lock_names}
use Rattle.plan_file.specs.Reading.{read_file}

pub record PlanPart : Type 0 where
  pub name : List ℕ
  pub locks : List (List ℕ)
  pub numbers : Partition

-- how long the lock of this name is held; 0 where it is not among the locks
unfoldable pub held_under : List ℕ → List FileLock → ℕ
held_under name [] = 0
held_under name (l ∷ ls) = cond (same name l.name) l.held (held_under name ls)

unfoldable pub task_in : List (List ℕ) → FileTask → Task
task_in names t = record { separation = t.separation; cost = t.cost; deadline = t.deadline; uses = map (λ name. held_under name t.locks) names }

unfoldable pub tasks_in : FilePart → List Task
tasks_in p = map (task_in (lock_names p)) p.tasks

abbrev pub namers : List FilePart → List ℕ → List FilePart
namers ps name = those (λ p. among name (lock_names p)) ps

unfoldable pub is_shared_in : List FilePart → List ℕ → Bool
is_shared_in ps name = leb 2 (length (namers ps name))

abbrev pub plan_part : List FilePart → FilePart → PlanPart
plan_part ps p = record {
  name = p.name;
  locks = lock_names p;
  numbers = record { period = p.period; tasks = tasks_in p; locks = length (lock_names p); shared = map (is_shared_in ps) (lock_names p) };
}

abbrev pub plan_parts : List FilePart → List PlanPart
plan_parts ps = map (plan_part ps) ps

unfoldable pub numbered : Answer (List FilePart) → Answer (List PlanPart)
numbered (answered ps) = answered (plan_parts ps)
numbered (refused r) = refused r

abbrev pub parts_of : List ℕ → Answer (List PlanPart)
parts_of s = numbered (read_file s)

abbrev pub no_plan_part : PlanPart
no_plan_part = plan_part [] no_part

abbrev pub part_at : List PlanPart → ℕ → PlanPart
part_at ps k = nth_or no_plan_part k ps
