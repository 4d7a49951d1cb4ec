-- Demand 2, its half about numbers: what every number of an answer is, by the paper's sentence. The holding times, blockings and budgets of the kept
-- pairs are in LocalTest; what a plan prints is demand 3.
--   KeptIs v a      == a has the kept pairs of the partition v, in falling X, up to 16, and their count
--   SameNamed d e   == of two parts, another part of its file names each lock of the one in both files or in none
--   NameAt s k p n  == n is the stretch of the name of part k, which is p, on its `part` line
--   RowsAre plan    == the rows of the plan are those that its listing prints, for each part one with the part's period
--   ChartIs s bytes == the file s is planned, and these bytes are the chart of its plan's rows
--   EveryNumber     == the numbers of the six operations, answered and refused
-- Assumes nothing.
use Rattle.std.specs.Prelude.{ℕ, ◌≤◌, ◌<◌, ◌≡◌, ◌↔◌, length, replicate, pos}
use mathlib.Core.List.{List, [], Memᴰ}
use Rattle.least.specs.Lists.{nth_or, pad}
use Rattle.least.specs.Each.{Each}
use Rattle.least.specs.Fraction.{frac}
use Rattle.refusal.specs.declared.Refusal.{Refusal}
use Rattle.refusal.specs.declared.Outcome.TheVariants.{Done, Refused}
use Rattle.refusal.specs.Limits.{row_limit, kept_limit, cycle}
use Rattle.refusal.specs.Questions.Answer.{answered, refused}
use Rattle.stretch.specs.Stretch.{bytes_of}
use Rattle.supply.specs.Signed.{signed_supply}
use Rattle.task_set.specs.Blocking.{Setting}
use Rattle.task_set.specs.Partition.{Partition}
use Rattle.load.specs.declared.Row.{Row}
use Rattle.load.specs.declared.Rows.{Rows}
use Rattle.load.specs.declared.Weighed.{Weighed}
use Rattle.load.specs.Weigh.{weigh_of, weigh_rows}
use Rattle.layout.specs.Layout.{chart}
use Rattle.candidates.specs.declared.Pair.{Pair}
use Rattle.candidates.specs.declared.Kept.{Kept}
use Rattle.candidates.specs.Candidates.{pair}
use Rattle.candidates.specs.Statement.{IsKept}
use Rattle.plan_file.specs.Stretches.{no_span, name_spans}
use Rattle.plan_file.specs.Numbers.{PlanPart}
use Rattle.plan_file.specs.PartLines.{lines_of_part}
use Rattle.plan_file.specs.Statement.{NamedByAnother}
use Rattle.answers.specs.Answers.{plan_of, chart_of, planned, candidates_of, candidate_list, name_of, name_bytes, supply_answer, supplied}
use Rattle.answers.specs.Plan.{Plan, plan_file, plan_text}
use Rattle.answers.specs.Choice.{Budgeted}
use Rattle.inquiries.specs.declared.NameStretch.{NameStretch}
use Rattle.inquiries.specs.Stretch.{name_stretch}
use Rattle.planner.specs.Demand3.{printed_rows, Printed}
use Rattle.planner.specs.Weighing.{WeighedIs}
use Rattle.planner.specs.Refusals.{PartOf, SupplyFits}

pub record KeptIs (v : Partition) (a : Kept) : Type 0 where
  pub list : List Pair
  -- exactly the kept pairs, over every setting and every budget
  pub members : (c : Pair) → Memᴰ c list ↔ IsKept v c
  -- in falling X
  pub falling : (i j : ℕ) → 1 ≤ i → i < j → j ≤ length list → (nth_or (pair 0 0) j list).holding < (nth_or (pair 0 0) i list).holding
  -- up to 16 pairs
  pub few : length list ≤ kept_limit
  pub count : a.count ≡ length list
  -- in their places, and unused places are zero
  pub pairs : a.pairs ≡ pad kept_limit (pair 0 0) list

pub record NameAt (s : List ℕ) (k : ℕ) (p : PlanPart) (n : NameStretch) : Type 0 where
  pub done : n.outcome ≡ Done
  -- the stretch on the k-th `part` line
  pub span : n.span ≡ nth_or no_span k (name_spans s)
  -- its bytes are the name
  pub bytes : bytes_of s n.span ≡ p.name

-- a refused weighing has zeros everywhere else
abbrev pub not_weighed : Refusal → Weighed
not_weighed r = record { outcome = Refused r; bounds = replicate row_limit (frac 0 0); load = frac 0 0; row = 0 }

-- part j of the file s and part k of the file u: each lock of the former is named by another part in both files or in none
abbrev pub SameNamed : {s u : List ℕ} {j k : ℕ} {p q : PlanPart} → PartOf s j p → PartOf u k q → Type 0
SameNamed {j = j} {k = k} {p = p} d e = (name : List ℕ) → Memᴰ name p.locks → NamedByAnother d.parts j name ↔ NamedByAnother e.parts k name

pub record RowsAre (plan : Plan) : Type 0 where
  -- what the listing prints, by demand 3
  pub printed : Printed plan.parts (plan_text plan)
  pub rows : printed_rows printed.shares ≡ plan.rows
  -- in file order, each with the part's period
  pub periods : Each (λ p r. r.period ≡ p.numbers.period) plan.parts plan.rows

pub record ChartIs (s bytes : List ℕ) : Type 0 where
  pub plan : Plan
  pub planned : plan_file s ≡ answered plan
  pub is : bytes ≡ chart plan.rows

pub record EveryNumber : Type 0 where
  -- the supply of (P,Q) in t ticks, by the paper's formula in signed numbers
  pub supply : (P Q t : ℕ) → SupplyFits P Q t → (x : ℕ) × (supplied (supply_answer P Q t) ≡ record { outcome = Done; ticks = x }) × (signed_supply (pos P) (pos Q) (pos t) ≡ pos x)
  -- weighing gives every row's bound and the load
  pub weigh : (rows : List Row) → (weigh_of rows).outcome ≡ Done → WeighedIs rows (weigh_of rows)
  -- candidates are answered exactly if some permitted setting of the part has a budget
  pub candidates : (s : List ℕ) (k : ℕ) → ((candidate_list (candidates_of s k)).outcome ≡ Done) ↔ ((p : PlanPart) × PartOf s k p × (σ : Setting) × (Q : ℕ) × Budgeted p.numbers σ Q)
  -- the candidate answer is the kept pairs (Q,X) and their count
  pub kept : (s : List ℕ) (k : ℕ) (p : PlanPart) → PartOf s k p → KeptIs p.numbers (candidate_list (candidates_of s k)).kept
  -- a part's list depends on its own lines and on which of its locks another part names: in two files with the same of both, that part's list is the same
  pub same_lines : (s u : List ℕ) (j k : ℕ) (p q : PlanPart) (d : PartOf s j p) (e : PartOf u k q) → lines_of_part j s ≡ lines_of_part k u → SameNamed d e
      → (candidate_list (candidates_of s j)).kept ≡ (candidate_list (candidates_of u k)).kept
  -- the name of a part is handed back as that stretch of the caller's own file
  pub name : (s : List ℕ) (k : ℕ) (p : PlanPart) → PartOf s k p → name_bytes (name_of s k) ≡ p.name
  pub stretch : (s : List ℕ) (k : ℕ) (p : PlanPart) → PartOf s k p → NameAt s k p (name_stretch s k)
  -- a plan counts the bytes it wrote
  pub plan : (s : List ℕ) (room : ℕ) (text : List ℕ) → plan_of s room ≡ answered text → planned (plan_of s room) ≡ record { outcome = Done; written = length text }
  -- the rows of a plan, of which the chart is made
  pub rows : (s : List ℕ) (p : Plan) → plan_file s ≡ answered p → RowsAre p
  -- a chart counts 720 bytes, and they are the chart of the plan's rows
  pub chart_count : (s : List ℕ) (room : ℕ) (bytes : List ℕ) → chart_of s room ≡ answered bytes → planned (chart_of s room) ≡ record { outcome = Done; written = cycle }
  pub chart_bytes : (s : List ℕ) (room : ℕ) (bytes : List ℕ) → chart_of s room ≡ answered bytes → ChartIs s bytes
  -- a refusal consists of its number and its place, with every other number of the answer zero
  pub refused_supply : (P Q t : ℕ) (r : Refusal) → supply_answer P Q t ≡ refused r → supplied (supply_answer P Q t) ≡ record { outcome = Refused r; ticks = 0 }
  pub refused_weigh : (rows : List Row) (r : Refusal) → (weigh_of rows).outcome ≡ Refused r → weigh_of rows ≡ not_weighed r
  pub refused_weigh_struct : (rows : Rows) (r : Refusal) → (weigh_rows rows).outcome ≡ Refused r → weigh_rows rows ≡ not_weighed r
  pub refused_candidates : (s : List ℕ) (k : ℕ) (r : Refusal) → candidates_of s k ≡ refused r
      → candidate_list (candidates_of s k) ≡ record { outcome = Refused r; kept = record { pairs = replicate kept_limit (pair 0 0); count = 0 } }
  pub refused_name : (s : List ℕ) (k : ℕ) (r : Refusal) → name_of s k ≡ refused r → name_bytes (name_of s k) ≡ []
  pub refused_stretch : (s : List ℕ) (k : ℕ) (r : Refusal) → name_of s k ≡ refused r → name_stretch s k ≡ record { outcome = Refused r; span = record { start = 0; len = 0 } }
  pub refused_plan : (s : List ℕ) (room : ℕ) (r : Refusal) → plan_of s room ≡ refused r → planned (plan_of s room) ≡ record { outcome = Refused r; written = 0 }
  pub refused_chart : (s : List ℕ) (room : ℕ) (r : Refusal) → chart_of s room ≡ refused r → planned (chart_of s room) ≡ record { outcome = Refused r; written = 0 }
