-- Values that are reached: of a task below fifteen others, of a supply, and of a row below fifteen others.
-- Assumes nothing.
use Prim.Native.Nat.{ℕ, ◌+◌, ◌-◌, ◌*◌}
use native.Mathlib.Omega.{arith}
use mathlib.Core.Path.{◌≡◌, refl, ap}
use mathlib.Core.List.Memᴰ
use mathlib.Core.List.{List, [], ◌∷◌, ◌++◌, map, Memᴰ}
use lib.ListN.{replicate}
use Rattle.least.specs.Round.{ceil_div}
use Rattle.least.specs.Lists.{sum, greatest, count_from, is_empty, nth_or, every, some, joined, last_or, on_last}
use Rattle.refusal.specs.Limits.{number_limit}
use Rattle.refusal.specs.Questions.{first_no, when_done}
use Rattle.refusal.specs.Questions.Answer.{answered}
use Rattle.text.specs.Bytes.{bytes, same, among, distinct_after, into_line, lines_of, into_field, fields_of}
use Rattle.text.specs.Decimal.{is_digit, value_after}
use Rattle.supply.specs.Supply.{round_of}
use Rattle.task_set.specs.declared.Task.{Task}
use Rattle.task_set.specs.Tasks.{demand_in}
use Rattle.load.specs.declared.Row.{Row}
use Rattle.load.specs.Load.{row, demand_of, load_at}
use Rattle.load.specs.Weigh.{RowFits}
use Rattle.scan.specs.Line.{is_allowed, line_is_good}
use Rattle.fields.specs.Fields.{is_name_byte, is_name, leading_zero, is_number}
use Rattle.records.specs.Records.{record_of}
use Rattle.plan_file.specs.Above.{FileTask, FilePart, lock_mentions, lock_names, parts_after}
use Rattle.plan_file.specs.Reading.{is_part, is_end, allowed_here, part_questions, task_questions, record_questions, questions_at, read_lines, read_from, read_file}
use Rattle.plan_file.specs.Numbers.{task_in, tasks_in, PlanPart, plan_part, numbered}
use Rattle.plan_file.proofs.Reading.{parts_answered_iff}
use Rattle.planner.specs.SystemTest.{L}
use Rattle.planner.specs.Refusals.{PartOf}
use Rattle.ranges.specs.Ranges.{Weighable, greatest_need, greatest_load}

-- a task at the limit below fifteen that come a tick before it, with the names a to p
unfoldable file : List ℕ
file =
    bytes "part\tp\t1000000\ntask\ta\t1000000\t1000000\t1000000\n"
    ++ (joined (map (λ c. bytes "task\t" ++ (c ∷ bytes "\t999999\t999999\t999999\n")) (count_from 98 15)) ++ bytes "end\n")

abbrev named : ℕ → ℕ → FileTask
named T c = record { name = c ∷ []; separation = T; cost = T; deadline = T; locks = [] }

unfoldable busy : FilePart
busy = record { name = bytes "p"; period = 1000000; tasks = named 1000000 97 ∷ map (named 999999) (count_from 98 15) }

file_reads : read_file file ≡ answered (busy ∷ [])
unfolding file busy bytes joined count_from read_from read_lines lines_of into_line fields_of into_field questions_at record_questions part_questions task_questions allowed_here is_part is_end record_of line_is_good is_allowed is_name is_name_byte is_number leading_zero is_digit value_after every some among same is_empty last_or on_last parts_after first_no when_done
file_reads = refl

abbrev alike : ℕ → Task
alike T = record { separation = T; cost = T; deadline = T; uses = [] }

busy_tasks : alike 1000000 ∷ replicate 15 (alike 999999) ≡ tasks_in busy
unfolding busy tasks_in task_in lock_names lock_mentions joined distinct_after count_from
busy_tasks = refl

busy_need : 1000000 + demand_in (replicate 15 (alike 999999)) number_limit ≡ greatest_need number_limit
unfolding demand_in sum ceil_div
busy_need = refl

abbrev busy_part : PlanPart
busy_part = plan_part (busy ∷ []) busy

busy_part_lem : PartOf file 1 busy_part
unfolding numbered nth_or
busy_part_lem = record { parts = busy_part ∷ []; readable = (parts_answered_iff file (busy_part ∷ [])).0 (ap numbered file_reads); from = omega arith; to = omega arith; is = refl }

pub need_reached : (s : List ℕ) × (p : PlanPart) × PartOf s 1 p × (task : Task) × (above : List Task) × (task ∷ above ≡ p.numbers.tasks) × (task.cost + demand_in above number_limit ≡ greatest_need number_limit)
need_reached = (file, busy_part, busy_part_lem, alike 1000000, replicate 15 (alike 999999), busy_tasks, busy_need)

pub supply_reached : (round_of (number_limit - 1) (number_limit - 1) number_limit + 1) * (number_limit - 1) ≡ 3 * (number_limit - 1)
unfolding round_of ceil_div
supply_reached = refl

-- a row at the limit below fifteen that come in every tick
abbrev heavy : List Row
heavy = row number_limit number_limit number_limit ∷ replicate 15 (row 1 1 number_limit)

heavy_weighable : Weighable heavy
heavy_weighable = record { count = record { some = omega arith; few = omega arith }; fit = fits }
  where
    fits : (r : Row) → Memᴰ r heavy → RowFits r
    fits r (Memᴰ.head e) = rw e (record { budget_some = omega arith; budget_most = omega arith; period_most = omega arith; holding_most = omega arith })
    fits r (Memᴰ.tail m) = rw (Memᴰ.eq_of_replicate 15 m) (record { budget_some = omega arith; budget_most = omega arith; period_most = omega arith; holding_most = omega arith })

heavy_load : L heavy 1 number_limit ≡ greatest_load number_limit
unfolding load_at demand_of sum greatest ceil_div nth_or
heavy_load = refl

pub load_reached : (rows : List Row) × Weighable rows × (L rows 1 number_limit ≡ greatest_load number_limit)
load_reached = (heavy, heavy_weighable, heavy_load)
