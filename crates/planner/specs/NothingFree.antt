-- That the demands leave nothing free: what they say of an answer, one answer alone satisfies.
-- Assumes nothing.
use Rattle.std.specs.Prelude.{ℕ, ◌≡◌, ◌↔◌, List}
use Rattle.least.specs.declared.Frac.{Frac}
use Rattle.refusal.specs.declared.Refusal.{Refusal}
use Rattle.refusal.specs.Questions.{Answer}
use Rattle.refusal.specs.Questions.Answer.{answered, refused}
use Rattle.task_set.specs.declared.Task.{Task}
use Rattle.task_set.specs.Blocking.{Setting}
use Rattle.task_set.specs.Partition.{Partition}
use Rattle.load.specs.declared.Row.{Row}
use Rattle.load.specs.declared.Weighed.{Weighed}
use Rattle.candidates.specs.declared.Kept.{Kept}
use Rattle.plan_file.specs.Numbers.{PlanPart}
use Rattle.answers.specs.declared.Planned.{Planned}
use Rattle.answers.specs.Answers.{chart_of, PlanAnswered}
use Rattle.planner.specs.SystemTest.{BoundIs, LoadIs}
use Rattle.planner.specs.Weighing.{WeighedIs}
use Rattle.planner.specs.LocalTest.{LockHolding, PartHolding, BlockingIs, LeastPassing, ShownAt}
use Rattle.planner.specs.Refusals.{RefusedBehind, chart_questions}
use Rattle.planner.specs.Numbers.{KeptIs, ChartIs}
use Rattle.planner.specs.Demand1.{Demand1}
use Rattle.planner.specs.Demand3.{Printed, Demanded, Demand3}

pub record NothingFree : Type 1 where
  -- demand 3 allows one listing for the parts of a file, byte for byte
  pub listing : (ps : List PlanPart) (text other : List ℕ) → Printed ps text → Printed ps other → text ≡ other
  -- and one answer, refusals included, for the parts and the room
  pub answer : (ps : List PlanPart) (room : ℕ) (a b : Answer (List ℕ)) → Demanded ps room a → Demanded ps room b → a ≡ b
  -- whoever meets demands 1 and 3 answers every file as `plan` does
  pub plan : (Promise : List ℕ → List ℕ → Planned → List ℕ → Type 0) → Demand1 Promise → Demand3 Promise →
      (s before : List ℕ) (r : Planned) (after : List ℕ) → Promise s before r after → PlanAnswered s before r after
  -- demand 2 allows one chart, refusals included, for a file and the room
  pub chart : (s : List ℕ) (room : ℕ) (a : Answer (List ℕ)) → ((r : Refusal) → (a ≡ refused r) ↔ RefusedBehind s (chart_questions room) r) →
      ((bytes : List ℕ) → a ≡ answered bytes → ChartIs s bytes) → a ≡ chart_of s room
  -- and one candidate answer for a part, and one answer of weighing for a list of rows
  pub kept : (v : Partition) (a b : Kept) → KeptIs v a → KeptIs v b → a ≡ b
  pub weighed : (rows : List Row) (w v : Weighed) → WeighedIs rows w → WeighedIs rows v → w ≡ v
  -- and one holding time of a lock and of a part, one blocking of a task, and one least budget
  pub lock_holding : (ts : List Task) (l r v w : ℕ) → LockHolding ts l r v → LockHolding ts l r w → v ≡ w
  pub holding : (v : Partition) (σ : Setting) (X Y : ℕ) → PartHolding v σ X → PartHolding v σ Y → X ≡ Y
  pub blocking : (m : ℕ) (σ : Setting) (lower : List Task) (b c : ℕ) → BlockingIs m σ lower b → BlockingIs m σ lower c → b ≡ c
  pub budget : (v : Partition) (σ : Setting) (Q R : ℕ) → LeastPassing v σ Q → LeastPassing v σ R → Q ≡ R
  -- and one ceiling shown of a lock
  pub shown : (v : Partition) (x l q r : ℕ) → ShownAt v x l q → ShownAt v x l r → q ≡ r
  -- and one bound of a row, one load of a choice, and one row that has it
  pub bound : (rows : List Row) (i : ℕ) (b c : Frac) → BoundIs rows i b → BoundIs rows i c → b ≡ c
  pub load : (rows : List Row) (b c : Frac) (i j : ℕ) → LoadIs rows b i → LoadIs rows c j → (b ≡ c) × (i ≡ j)
