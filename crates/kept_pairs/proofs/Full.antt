-- A file whose first part has 16 tasks and 16 kept pairs: the part `stairs 16`, and a second part that names its lock.
-- Assumes nothing.
use Prim.Native.Nat.{ℕ, zero, suc, ◌+◌, ◌*◌}
use native.Mathlib.Omega.{arith}
use mathlib.Core.Path.{◌≡◌, refl, ap}
use mathlib.Core.List.{List, [], ◌∷◌, ◌++◌}
use Rattle.least.specs.Lists.{some, every, those, joined, is_empty, last_or, on_last, nth_or}
use Rattle.refusal.specs.Questions.{first_no, when_done}
use Rattle.refusal.specs.Questions.Answer.{answered}
use Rattle.text.specs.Bytes.{bytes, lines_of, into_line, fields_of, into_field, same, among, mention, distinct_after}
use Rattle.text.specs.Decimal.{is_digit, value_after}
use Rattle.scan.specs.Line.{is_allowed, line_is_good}
use Rattle.fields.specs.Fields.{is_name, is_name_byte, is_number, leading_zero}
use Rattle.records.specs.Records.{record_of}
use Rattle.plan_file.specs.Above.{FileLock, FileTask, FilePart, lock_mentions, lock_names, parts_after}
use Rattle.plan_file.specs.Reading.{is_part, is_end, allowed_here, part_questions, task_questions, lock_questions, record_questions, questions_at, read_lines, read_from, read_file}
use Rattle.plan_file.specs.Numbers.{PlanPart, held_under, task_in, tasks_in, is_shared_in, plan_part, plan_parts, numbered}
use Rattle.plan_file.proofs.Reading.{parts_answered_iff}
use Rattle.planner.specs.Refusals.{PartOf}
use Rattle.kept_pairs.proofs.Family.{lights, stairs}

unfoldable pub file : List ℕ
file =
    bytes "part\tp\t128\ntask\ta\t144\t64\t139\nlock\tl\t64\n"
    ++ (bytes "task\tb\t144\t1\t135\ntask\tc\t144\t1\t130\ntask\td\t144\t1\t125\ntask\te\t144\t1\t120\ntask\tf\t144\t1\t115\n"
    ++ (bytes "task\tg\t144\t1\t110\ntask\th\t144\t1\t105\ntask\ti\t144\t1\t100\ntask\tj\t144\t1\t95\ntask\tk\t144\t1\t90\n"
    ++ (bytes "task\tl\t144\t1\t85\ntask\tm\t144\t1\t80\ntask\tn\t144\t1\t75\ntask\to\t144\t1\t70\ntask\tp\t144\t1\t65\n"
    ++ bytes "part\to\t128\ntask\tu\t144\t1\t144\nlock\tl\t1\nend\n")))

-- a task of this name that uses no lock, with j tasks above it
abbrev named : ℕ → ℕ → FileTask
named c j = record { name = c ∷ []; separation = 144; cost = 1; deadline = 65 + 5 * j; locks = [] }

abbrev lock : ℕ → FileLock
lock c = record { name = bytes "l"; held = c }

unfoldable pub named_from : ℕ → ℕ → List FileTask
named_from c zero = []
named_from c (suc j) = named c j ∷ named_from (suc c) j

unfoldable pub first : FilePart
first = record { name = bytes "p"; period = 128; tasks = record { name = bytes "a"; separation = 144; cost = 64; deadline = 139; locks = lock 64 ∷ [] } ∷ named_from 98 15 }

unfoldable pub second : FilePart
second = record { name = bytes "o"; period = 128; tasks = record { name = bytes "u"; separation = 144; cost = 1; deadline = 144; locks = lock 1 ∷ [] } ∷ [] }

abbrev pub parts : List FilePart
parts = first ∷ second ∷ []

file_reads : read_file file ≡ answered parts
unfolding file first second named_from bytes read_from read_lines lines_of into_line fields_of into_field questions_at record_questions part_questions task_questions lock_questions allowed_here is_part is_end record_of line_is_good is_allowed is_name is_name_byte is_number leading_zero is_digit value_after every some among same mention lock_names lock_mentions joined distinct_after is_empty last_or on_last parts_after first_no when_done
file_reads = refl

abbrev pub first_part : PlanPart
first_part = plan_part parts first

pub first_part_lem : PartOf file 1 first_part
unfolding numbered nth_or
first_part_lem = record { parts = plan_parts parts; readable = (parts_answered_iff file (plan_parts parts)).0 (ap numbered file_reads); from = omega arith; to = omega arith; is = refl }

-- its numbers are those of `stairs 16`
pub first_stairs : first_part.numbers ≡ stairs 16
unfolding first second named_from bytes tasks_in task_in held_under is_shared_in those among some same mention lock_names lock_mentions joined distinct_after lights
first_stairs = refl
