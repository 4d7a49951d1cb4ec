-- Request M-109: a chart of one cycle, sentence by sentence. A period of P begins at each tick that P divides.
--   HighestDue n due k       == k is the highest of the parts 1 to n that is still due a tick, 0 where none is; part j is due `due j` ticks
--   LaidOut rows due holder  == the request's sentences on a layout: part k is still due `due y k` ticks at tick y, and `holder y` has this tick
--   due_of rows y k          == how many ticks part k is still due at tick y
--   without_holding r        == the row r without its X
--   ticks_in bytes k         == the ticks of part k, where the bytes of one cycle are read over and over
--   Charted s before r after == what stands in the lent bytes once the file s is charted
--   CycleChart               == the request
-- Assumes nothing.
use Rattle.std.specs.Prelude.{ℕ, suc, ◌+◌, ◌*◌, ◌/◌, ◌%◌, ◌≤◌, ◌<◌, ◌≡◌, true, ◌↔◌, List, map, eqb, length, drop, get_or}
use Rattle.least.specs.Lists.{sum, nth_or}
use Rattle.refusal.specs.declared.Refusal.{Refusal}
use Rattle.refusal.specs.declared.Refusal.TheVariants.{NoRoom, OutOfCycle}
use Rattle.refusal.specs.declared.Outcome.TheVariants.{Done, Refused}
use Rattle.refusal.specs.Limits.{cycle, part_limit}
use Rattle.refusal.specs.Questions.Answer.{answered, refused}
use Rattle.delivery.specs.Assignment.{Assignment, given, Delivers}
use Rattle.load.specs.declared.Row.{Row}
use Rattle.load.specs.Load.{row, passes_system}
use Rattle.layout.specs.Layout.{due_at, holder_at, part_ticks, chart}
use Rattle.plan_file.specs.Numbers.{part_at}
use Rattle.answers.specs.declared.Planned.{Planned}
use Rattle.answers.specs.Plan.{Plan, plan_file}
use Rattle.answers.specs.Answers.{ChartAnswered}
use Rattle.planner.specs.SystemTest.{row_at}
use Rattle.planner.specs.Refusals.{Divides, InCycle, OutOfCycleAt}

pub record HighestDue (n : ℕ) (due : ℕ → ℕ) (k : ℕ) : Type 0 where
  -- a part, or 0
  pub most : k ≤ n
  -- the part is due
  pub still : 1 ≤ k → 1 ≤ due k
  -- none above it is; where k is 0, none at all
  pub none_above : (j : ℕ) → k < j → j ≤ n → due j ≡ 0

pub record LaidOut (rows : List Row) (due : ℕ → ℕ → ℕ) (holder : ℕ → ℕ) : Type 0 where
  -- all parts start together (`anew` says it too: every period divides 0)
  pub start : (k : ℕ) → 1 ≤ k → k ≤ length rows → due 0 k ≡ (row_at rows k).budget
  -- each is due its Q ticks from the start of each of its periods
  pub anew : (y k : ℕ) → 1 ≤ k → k ≤ length rows → Divides (row_at rows k).period y → due y k ≡ (row_at rows k).budget
  -- within a period it is due one less for a tick that it has, and as many as before for any other
  pub had : (y k : ℕ) → 1 ≤ k → k ≤ length rows → (Divides (row_at rows k).period (suc y) → ⊥) → holder y ≡ k → suc (due (suc y) k) ≡ due y k
  pub not_had : (y k : ℕ) → 1 ≤ k → k ≤ length rows → (Divides (row_at rows k).period (suc y) → ⊥) → (holder y ≡ k → ⊥) → due (suc y) k ≡ due y k
  -- a tick goes to the highest part still due, or to 0
  pub highest : (y : ℕ) → HighestDue (length rows) (due y) (holder y)

abbrev pub due_of : List Row → ℕ → ℕ → ℕ
due_of rows y k = nth_or 0 k (due_at rows y)

abbrev pub without_holding : Row → Row
without_holding r = row r.period r.budget 0

abbrev pub ticks_in : List ℕ → ℕ → Assignment
ticks_in bytes k y = eqb (get_or bytes (y % cycle) 0) k

pub record Charted (s before : List ℕ) (r : Planned) (after : List ℕ) : Type 0 where
  -- a planned file: it has one row a part, in file order, with the part's period
  pub plan : Plan
  pub planned : plan_file s ≡ answered plan
  pub one_each : length plan.rows ≡ length plan.parts
  pub periods : (k : ℕ) → 1 ≤ k → k ≤ length plan.rows → (row_at plan.rows k).period ≡ (part_at plan.parts k).numbers.period
  -- the system test accepted it
  pub accepted : passes_system plan.rows ≡ true
  -- its periods all divide 720
  pub in_cycle : InCycle plan.rows
  -- ticks 0 to 719, one byte a tick with the part's number: at most as many as there are parts, and these are 16 at most
  pub counted : r.written ≡ cycle
  pub bytes : (y : ℕ) → y < cycle → get_or after y 0 ≡ holder_at plan.rows y
  pub numbers : (y : ℕ) → y < cycle → get_or after y 0 ≤ length plan.parts
  pub few : length plan.parts ≤ part_limit
  -- every part gets exactly Q ticks in each of its periods, in this cycle and in each repetition
  pub served : (k : ℕ) → 1 ≤ k → k ≤ length plan.rows → Delivers (row_at plan.rows k).period (row_at plan.rows k).budget (ticks_in after k)
  -- the lent bytes are as many as before, and those behind the chart are as they were
  pub as_many : length after ≡ length before
  pub others : drop cycle after ≡ drop cycle before

pub record CycleChart : Type 0 where
  -- all parts start together, each is due its Q ticks from the start of each of its periods, and a tick goes to the highest part still due, or to 0
  pub laid_out : (rows : List Row) → LaidOut rows (due_of rows) (holder_at rows)
  -- these sentences leave nothing free: wherever they hold, each tick has this holder, and each part is due as many ticks
  pub one_holder : (rows : List Row) (due : ℕ → ℕ → ℕ) (holder : ℕ → ℕ) → LaidOut rows due holder → (y : ℕ) → holder y ≡ holder_at rows y
  pub one_due : (rows : List Row) (due : ℕ → ℕ → ℕ) (holder : ℕ → ℕ) → LaidOut rows due holder
      → (y k : ℕ) → 1 ≤ k → k ≤ length rows → due y k ≡ due_of rows y k
  -- lay out ticks 0 to 719, one byte a tick with the part's number
  pub one_a_tick : (rows : List Row) → length (chart rows) ≡ cycle
  pub bytes : (rows : List Row) (y : ℕ) → y < cycle → get_or (chart rows) y 0 ≡ holder_at rows y
  -- every part gets exactly Q ticks in each of its periods, for every plan the system test accepted: of least load or not, and whatever its periods
  pub served : (rows : List Row) → passes_system rows ≡ true → (k : ℕ) → 1 ≤ k → k ≤ length rows
      → Delivers (row_at rows k).period (row_at rows k).budget (part_ticks rows k)
  -- in this cycle and in each repetition: the layout repeats where the periods all divide 720, so the bytes of one cycle serve every part for ever
  pub repeats : (rows : List Row) → InCycle rows → (y : ℕ) → holder_at rows (cycle + y) ≡ holder_at rows y
  pub again : (rows : List Row) → passes_system rows ≡ true → InCycle rows → (k : ℕ) → 1 ≤ k → k ≤ length rows
      → Delivers (row_at rows k).period (row_at rows k).budget (ticks_in (chart rows) k)
  -- ticks for overruns and switching stay unassigned: no part gets more than its Q in a period, accepted or not
  pub no_more : (rows : List Row) (k : ℕ) → 1 ≤ k → k ≤ length rows → (n : ℕ)
      → given (part_ticks rows k) (n * (row_at rows k).period) (row_at rows k).period ≤ (row_at rows k).budget
  -- X counts for nothing
  pub no_holding : (rows : List Row) (y : ℕ) → holder_at (map without_holding rows) y ≡ holder_at rows y
  -- and of 720 ticks all but Q for each period are unassigned
  pub unassigned : (rows : List Row) → passes_system rows ≡ true → InCycle rows
      → given (part_ticks rows 0) 0 cycle + sum (map (λ r. cycle / r.period * r.budget) rows) ≡ cycle
  -- the operation, for every file and all lent bytes: a file is charted exactly if it is planned, its periods all divide 720 and 720 bytes are lent
  pub charted_iff : (s before : List ℕ) (r : Planned) (after : List ℕ) → ChartAnswered s before r after
      → (r.outcome ≡ Done) ↔ ((plan : Plan) × (plan_file s ≡ answered plan) × InCycle plan.rows × (cycle ≤ length before))
  -- questions 1 to 11 are the plan's
  pub unplanned : (s before : List ℕ) (r : Planned) (after : List ℕ) → ChartAnswered s before r after → (x : Refusal) → plan_file s ≡ refused x → r.outcome ≡ Refused x
  -- the first part with a period that does not divide 720 gives 19 at that part, after 11
  pub out_of_cycle : (s before : List ℕ) (r : Planned) (after : List ℕ) → ChartAnswered s before r after → (k : ℕ)
      → (r.outcome ≡ Refused (OutOfCycle k)) ↔ ((plan : Plan) × (plan_file s ≡ answered plan) × OutOfCycleAt plan k)
  -- then fewer than 720 lent bytes give 14
  pub no_room : (s before : List ℕ) (r : Planned) (after : List ℕ) → ChartAnswered s before r after
      → (r.outcome ≡ Refused NoRoom) ↔ ((plan : Plan) × (plan_file s ≡ answered plan) × InCycle plan.rows × (length before < cycle))
  -- and of a file that is charted this stands in the lent bytes
  pub charted : (s before : List ℕ) (r : Planned) (after : List ℕ) → ChartAnswered s before r after → r.outcome ≡ Done → Charted s before r after
