-- Demand 2, its half about refusals: each refusal comes if its question has the answer no and those before it have yes, and in no other case.
--   RefusedBehind s questions r                     == the file s is refused with r by questions 1 to 9, or it is readable and r comes from the questions of its parts
--   plan_questions room ps, chart_questions room ps == what a plan and a chart ask, in this order, behind questions 1 to 9
--   PartOf s k p                                    == the file s is readable, and p is its part k
--   NotAPart s k                                    == the file s is readable, and k is not the number of a part
--   SupplyFits P Q t                                == 1 ≤ Q ≤ P ≤ 1,000,000 and t ≤ 1,000,000
--   Divides P n                                     == P divides n: a whole number of periods of P makes n ticks
--   InCycle rows                                    == every period divides 720
--   OutOfCycleAt plan k                             == part k is the first of the plan with a period that does not divide 720
--   EveryRefusal                                    == in which case each operation gives each refusal
-- Assumes nothing.
use Rattle.std.specs.Prelude.{ℕ, ◌*◌, ◌≤◌, ◌<◌, ◌≡◌, ◌⊎◌, ◌↔◌, List, [], ◌∷◌, ◌++◌, length, leb}
use Rattle.refusal.specs.declared.Refusal.{Refusal}
use Rattle.refusal.specs.declared.Refusal.TheVariants.{NoBudget, BadHandSet, NoTime, NoRoom, OutOfCycle}
use Rattle.refusal.specs.declared.Outcome.TheVariants.{Refused}
use Rattle.refusal.specs.Limits.{number_limit, row_limit, cycle}
use Rattle.refusal.specs.Questions.{Question, ask}
use Rattle.refusal.specs.Questions.Answer.{answered, refused}
use Rattle.refusal.specs.FirstNo.{FirstNo}
use Rattle.load.specs.declared.Row.{Row}
use Rattle.load.specs.declared.Rows.{Rows}
use Rattle.load.specs.Weigh.{weigh_questions, weigh_of, rows_of, struct_questions, weigh_rows}
use Rattle.selection.specs.Questions.{choice_questions}
use Rattle.plan_file.specs.Statement.{RefusedAt, AnsweredBy}
use Rattle.plan_file.specs.Numbers.{PlanPart, part_at}
use Rattle.answers.specs.Answers.{plan_of, chart_of, candidate_questions, candidates_of, name_questions, name_of, supply_questions, supply_answer}
use Rattle.answers.specs.Choice.{WithoutBudget}
use Rattle.answers.specs.Plan.{Plan, partitions, offered, least_rows, plan_file, plan_text, cycle_questions}
use Rattle.planner.specs.SystemTest.{row_at}
use Rattle.planner.specs.Weighing.{CountFits, BadRowAt, NoTimeAt}

abbrev pub RefusedBehind : List ℕ → (List PlanPart → List Question) → Refusal → Type 0
RefusedBehind s questions r = RefusedAt s r ⊎ ((parts : List PlanPart) × AnsweredBy s parts × FirstNo (questions parts) r)

-- questions 10, 11 and 14 of a plan of these parts
abbrev pub plan_questions : ℕ → List PlanPart → List Question
plan_questions room ps =
    choice_questions (offered (partitions ps)) ++ (ask NoRoom (leb (length (plan_text (record { parts = ps; rows = least_rows (partitions ps) }))) room) ∷ [])

-- questions 10, 11, 19 and 14 of a chart of these parts
abbrev pub chart_questions : ℕ → List PlanPart → List Question
chart_questions room ps =
    choice_questions (offered (partitions ps)) ++ (cycle_questions (least_rows (partitions ps)) ++ (ask NoRoom (leb cycle room) ∷ []))

pub record PartOf (s : List ℕ) (k : ℕ) (p : PlanPart) : Type 0 where
  pub parts : List PlanPart
  pub readable : AnsweredBy s parts
  pub from : 1 ≤ k
  pub to : k ≤ length parts
  pub is : part_at parts k ≡ p

pub record NotAPart (s : List ℕ) (k : ℕ) : Type 0 where
  pub parts : List PlanPart
  pub readable : AnsweredBy s parts
  pub none : 1 ≤ k → k ≤ length parts → ⊥

pub record SupplyFits (P Q t : ℕ) : Type 0 where
  pub budget_some : 1 ≤ Q
  pub budget_most : Q ≤ P
  pub period_most : P ≤ number_limit
  pub time_most : t ≤ number_limit

abbrev pub Divides : ℕ → ℕ → Type 0
Divides P n = (m : ℕ) × (m * P ≡ n)

abbrev pub InCycle : List Row → Type 0
InCycle rows = (k : ℕ) → 1 ≤ k → k ≤ length rows → Divides (row_at rows k).period cycle

pub record OutOfCycleAt (plan : Plan) (k : ℕ) : Type 0 where
  pub from : 1 ≤ k
  pub to : k ≤ length plan.rows
  pub out : Divides (row_at plan.rows k).period cycle → ⊥
  pub before : (i : ℕ) → 1 ≤ i → i < k → Divides (row_at plan.rows i).period cycle

pub record EveryRefusal : Type 0 where
  -- the refusal of every operation is that of the first question with the answer no
  pub plan : (s : List ℕ) (room : ℕ) (r : Refusal) → (plan_of s room ≡ refused r) ↔
      RefusedBehind s (plan_questions room) r
  pub chart : (s : List ℕ) (room : ℕ) (r : Refusal) → (chart_of s room ≡ refused r) ↔ RefusedBehind s (chart_questions room) r
  pub candidates : (s : List ℕ) (k : ℕ) (r : Refusal) → (candidates_of s k ≡ refused r) ↔ RefusedBehind s (candidate_questions k) r
  pub name : (s : List ℕ) (k : ℕ) (r : Refusal) → (name_of s k ≡ refused r) ↔ RefusedBehind s (name_questions k) r
  pub weigh : (rows : List Row) (r : Refusal) → ((weigh_of rows).outcome ≡ Refused r) ↔ FirstNo (weigh_questions rows) r
  pub weigh_struct : (rows : Rows) (r : Refusal) → ((weigh_rows rows).outcome ≡ Refused r) ↔ FirstNo (struct_questions rows) r
  pub supply : (P Q t : ℕ) (r : Refusal) → (supply_answer P Q t ≡ refused r) ↔ FirstNo (supply_questions P Q t) r
  -- 10 of candidates, for that part alone (its number); of a plan, see `Demand3`
  pub candidates_10 : (s : List ℕ) (k j : ℕ) → (candidates_of s k ≡ refused (NoBudget j)) ↔ ((j ≡ k) × (p : PlanPart) × PartOf s k p × WithoutBudget p.numbers)
  -- 12: is the part number that of a part in the file?
  pub candidates_12 : (s : List ℕ) (k j : ℕ) → (candidates_of s k ≡ refused (BadHandSet j)) ↔ ((j ≡ 0) × NotAPart s k)
  pub name_12 : (s : List ℕ) (k j : ℕ) → (name_of s k ≡ refused (BadHandSet j)) ↔ ((j ≡ 0) × NotAPart s k)
  -- 12 for supply
  pub supply_12 : (P Q t j : ℕ) → (supply_answer P Q t ≡ refused (BadHandSet j)) ↔ ((j ≡ 0) × (SupplyFits P Q t → ⊥))
  -- 12 of weighing: 0 for a wrong row count, whatever the rows hold; else the first bad row
  pub weigh_12_count : (rows : List Row) → ((weigh_of rows).outcome ≡ Refused (BadHandSet 0)) ↔ (CountFits rows → ⊥)
  pub weigh_12_row : (rows : List Row) (j : ℕ) → 1 ≤ j → ((weigh_of rows).outcome ≡ Refused (BadHandSet j)) ↔ BadRowAt rows j
  -- 13: has every weighed row a time t? The first row without one
  pub weigh_13 : (rows : List Row) (j : ℕ) → ((weigh_of rows).outcome ≡ Refused (NoTime j)) ↔ NoTimeAt rows j
  -- a struct with a count above its sixteen places is a wrong count too; any other is weighed as the list of its rows
  pub weigh_struct_12 : (rows : Rows) → row_limit < rows.count → (weigh_rows rows).outcome ≡ Refused (BadHandSet 0)
  pub weigh_struct_rows : (rows : Rows) → rows.count ≤ row_limit → weigh_rows rows ≡ weigh_of (rows_of rows)
  -- 14: the file has a listing, and this is longer than the lent bytes
  pub plan_14 : (s : List ℕ) (room : ℕ) → (plan_of s room ≡ refused NoRoom) ↔ ((text : List ℕ) × (plan_of s (length text) ≡ answered text) × (room < length text))
  -- 1 to 11 of a chart are those of the plan
  pub chart_11 : (s : List ℕ) (room : ℕ) (r : Refusal) → plan_file s ≡ refused r → (plan_of s room ≡ refused r) × (chart_of s room ≡ refused r)
  -- 19: the file is planned, and not every period divides 720. The first part with such a period, which is that of its row (`RowsAre`)
  pub chart_19 : (s : List ℕ) (room k : ℕ) → (chart_of s room ≡ refused (OutOfCycle k)) ↔ ((plan : Plan) × (plan_file s ≡ answered plan) × OutOfCycleAt plan k)
  -- 14 of a chart: the file is planned, every period divides 720, and fewer than 720 bytes are lent
  pub chart_14 : (s : List ℕ) (room : ℕ) → (chart_of s room ≡ refused NoRoom) ↔ ((plan : Plan) × (plan_file s ≡ answered plan) × InCycle plan.rows × (room < cycle))
