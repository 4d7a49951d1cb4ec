-- The choices of a file, over every setting and every budget.
--   Budgeted v σ Q      == the budget Q passes under the permitted setting σ of the partition v
--   WithoutBudget v     == no permitted setting of the partition has a budget
--   Chosen v r          == r is a row of the partition: its P, a budget that passes under a permitted setting, and that setting's X
--   FromKept v r        == r's budget with its X is a pair on the kept list
--   Choice ps rs        == the rows of a choice: its parts in file order; so it passes the local test
--   PassingChoice ps rs == a choice that passes the system test too
--   BuiltFromKept ps rs == a choice that is built from kept pairs
-- Assumes nothing.
use Rattle.std.specs.Prelude.{ℕ, ◌≤◌, ◌≡◌, true, List}
use Rattle.least.specs.Each.{Each}
use Rattle.task_set.specs.Partition.{Partition}
use Rattle.task_set.specs.Blocking.{Setting}
use Rattle.load.specs.declared.Row.{Row}
use Rattle.load.specs.Load.{row, passes_system}
use Rattle.holding.specs.Holding.{holding_time_of}
use Rattle.budget.specs.Budget.{passes}
use Rattle.candidates.specs.Statement.{Permitted, IsKept}
use Rattle.plan_file.specs.Numbers.{PlanPart}
use Rattle.answers.specs.Plan.{partitions}

pub record Budgeted (v : Partition) (σ : Setting) (Q : ℕ) : Type 0 where
  pub allowed : Permitted v σ
  pub some : 1 ≤ Q
  pub most : Q ≤ v.period
  pub passing : passes v σ Q ≡ true

abbrev pub WithoutBudget : Partition → Type 0
WithoutBudget v = (σ : Setting) (Q : ℕ) → Budgeted v σ Q → ⊥

abbrev pub row_under : Partition → Setting → ℕ → Row
row_under v σ Q = row v.period Q (holding_time_of v σ)

pub record Chosen (v : Partition) (r : Row) : Type 0 where
  pub setting : Setting
  pub budget : ℕ
  pub local : Budgeted v setting budget
  pub is : r ≡ row_under v setting budget

pub record FromKept (v : Partition) (r : Row) : Type 0 where
  pub kept : IsKept v (record { budget = r.budget; holding = r.holding })
  pub period : r.period ≡ v.period

abbrev pub Choice : List PlanPart → List Row → Type 0
Choice ps rs = Each Chosen (partitions ps) rs

pub record PassingChoice (ps : List PlanPart) (rs : List Row) : Type 0 where
  pub choice : Choice ps rs
  pub system : passes_system rs ≡ true

abbrev pub BuiltFromKept : List PlanPart → List Row → Type 0
BuiltFromKept ps rs = Each FromKept (partitions ps) rs
