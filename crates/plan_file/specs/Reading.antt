-- Questions 1 to 9 in their order, and the file that they let through.
--   allowed_here a r   == question 4: the record r is allowed behind the lines above
--   questions_at n a l == questions 2 to 9 of the line l, which has the number n
--   read_lines n a ls  == the lines ls, the first of which has the number n, behind what stands above
--   read_from n s      == the parts of the file s, whose first line has the number n, or the refusal of its first question with a no
--   read_file s        == the same of a file by itself: its lines are numbered from 1
-- A file is readable if `read_file` answers.
-- Assumes nothing.
use Rattle.std.specs.Prelude.{ℕ, suc, Bool, true, false, not, cond, ◌&&◌, List, [], ◌∷◌, map, leb, length}
use Rattle.least.specs.Lists.{is_empty}
use Rattle.refusal.specs.declared.Outcome.TheVariants.{Done, Refused}
use Rattle.refusal.specs.declared.Refusal.TheVariants.{FileTooLong, BadLine, BadRecord, Misplaced, BadName, KnownName, BadNumber, BadOrder, TooMany}
use Rattle.refusal.specs.Limits.{file_limit, part_limit, task_limit, lock_limit}
use Rattle.refusal.specs.Questions.{Question, ask, first_no, Answer, when_done}
use Rattle.refusal.specs.Questions.Answer.{answered, refused}
use Rattle.text.specs.Bytes.{Line, lines_of, among, mention}
use Rattle.text.specs.Decimal.{value_of}
use Rattle.scan.specs.Line.{line_is_good}
use Rattle.fields.specs.Fields.{is_name, is_number}
use Rattle.records.specs.Records.{Record, record_in}
use Rattle.records.specs.Records.Record.{part, task, lock, end, no_record}
use Rattle.plan_file.specs.Above.{FileTask, FilePart, Above, nothing_above, this_part, this_task, lock_names, after}

unfoldable pub is_part : Record → Bool
is_part (part name P) = true
is_part (task name T C D) = false
is_part (lock name c) = false
is_part end = false
is_part no_record = false

unfoldable pub is_end : Record → Bool
is_end (part name P) = false
is_end (task name T C D) = false
is_end (lock name c) = false
is_end end = true
is_end no_record = false

-- nothing follows `end`
abbrev pub not_behind_end : Above → Bool
not_behind_end a = not (is_end a.directly)

-- `part` and `end` may not follow a `part` line directly
abbrev pub not_behind_part : Above → Bool
not_behind_part a = not (is_part a.directly)

-- there is a part above; there is a task above in the same part
abbrev pub part_above : Above → Bool
part_above a = not (is_empty a.parts)

abbrev pub task_above : Above → Bool
task_above a = not (is_empty (this_part a).tasks)

unfoldable pub allowed_here : Above → Record → Bool
allowed_here a (part name P) = not_behind_end a && not_behind_part a
allowed_here a (task name T C D) = not_behind_end a && part_above a
allowed_here a (lock name c) = not_behind_end a && task_above a
allowed_here a end = not_behind_end a && (not_behind_part a && part_above a)
allowed_here a no_record = false

-- questions 4 to 9 of a `part` on line n: whether it is allowed here, and the names of the parts above
unfoldable pub part_questions : ℕ → Bool → List (List ℕ) → List ℕ → List ℕ → List Question
part_questions n allowed parts name P =
    ask (Misplaced n) allowed
    ∷ ask (BadName n) (is_name name)
    ∷ ask (KnownName n) (not (among name parts))
    ∷ ask (BadNumber n) (is_number P)
    ∷ ask (TooMany n) (leb (suc (length parts)) part_limit)
    ∷ []

-- of a `task`: the names of the tasks above in the part
unfoldable pub task_questions : ℕ → Bool → List (List ℕ) → List ℕ → List ℕ → List ℕ → List ℕ → List Question
task_questions n allowed tasks name T C D =
    ask (Misplaced n) allowed
    ∷ ask (BadName n) (is_name name)
    ∷ ask (KnownName n) (not (among name tasks))
    ∷ ask (BadNumber n) (is_number T && (is_number C && is_number D))
    ∷ ask (BadOrder n) (leb (value_of C) (value_of D) && leb (value_of D) (value_of T))
    ∷ ask (TooMany n) (leb (suc (length tasks)) task_limit)
    ∷ []

-- of a `lock`: whether its task has it already, the different lock names of the part, and the task's C
unfoldable pub lock_questions : ℕ → Bool → Bool → List (List ℕ) → ℕ → List ℕ → List ℕ → List Question
lock_questions n allowed known locks C name c =
    ask (Misplaced n) allowed
    ∷ ask (BadName n) (is_name name)
    ∷ ask (KnownName n) (not known)
    ∷ ask (BadNumber n) (is_number c)
    ∷ ask (BadOrder n) (leb (value_of c) C)
    ∷ ask (TooMany n) (leb (length (mention locks name)) lock_limit)
    ∷ []

abbrev pub part_names : List FilePart → List (List ℕ)
part_names ps = map (λ p. p.name) ps

abbrev pub task_names : FilePart → List (List ℕ)
task_names p = map (λ t. t.name) p.tasks

abbrev pub locks_of : FileTask → List (List ℕ)
locks_of t = map (λ l. l.name) t.locks

-- questions 3 to 9 of the record on line n
unfoldable pub record_questions : ℕ → Above → Record → List Question
record_questions n a (part name P) = part_questions n (allowed_here a (part name P)) (part_names a.parts) name P
record_questions n a (task name T C D) = task_questions n (allowed_here a (task name T C D)) (task_names (this_part a)) name T C D
record_questions n a (lock name c) =
    lock_questions n (allowed_here a (lock name c)) (among name (locks_of (this_task a))) (lock_names (this_part a)) (this_task a).cost name c
record_questions n a end = ask (Misplaced n) (allowed_here a end) ∷ []
record_questions n a no_record = ask (BadRecord n) false ∷ []

unfoldable pub questions_at : ℕ → Above → Line → List Question
questions_at n a l = ask (BadLine n) (line_is_good l) ∷ record_questions n a (record_in l)

-- a file that runs out before `end` is 4 at the line after its last
unfoldable pub read_lines : ℕ → Above → List Line → Answer (List FilePart)
read_lines n a [] = cond (is_end a.directly) (answered a.parts) (refused (Misplaced n))
read_lines n a (l ∷ ls) = elim (first_no (questions_at n a l)) [ Done ↦ read_lines (suc n) (after a (record_in l)) ls | Refused r ↦ refused r ]

unfoldable pub read_from : ℕ → List ℕ → Answer (List FilePart)
read_from n s = when_done (first_no (ask FileTooLong (leb (length s) file_limit) ∷ [])) (read_lines n nothing_above (lines_of s))

abbrev pub read_file : List ℕ → Answer (List FilePart)
read_file s = read_from 1 s
