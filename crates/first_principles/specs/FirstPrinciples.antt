-- Request M-108: the supply clause from first principles.
--   LeastGiven P Q t x    == x is the least number of given ticks in any window of t ticks, under any assignment that gives exactly Q ticks in each period of P
--   early_then_late P Q   == a budget delivered early in the first period, and late in every one after it
--   PassesDelivered v σ Q == a budget passes the local test however it is delivered, whatever tick the window of each task starts at
--   FirstPrinciples       == the supply is this least number, the operation `supply` answers it, and a budget passes the local test exactly if it passes however it is delivered
-- Assumes nothing.
use Rattle.std.specs.Prelude.{ℕ, ◌-◌, ◌*◌, ◌%◌, ◌≤◌, ◌≡◌, ◌↔◌, true, cond, leb, ltb}
use Rattle.refusal.specs.declared.Outcome.TheVariants.{Done}
use Rattle.delivery.specs.Assignment.{Assignment, given, Delivers}
use Rattle.supply.specs.Supply.{supply_of}
use Rattle.task_set.specs.Partition.{Partition}
use Rattle.task_set.specs.Blocking.{Setting}
use Rattle.budget.specs.Budget.{passes}
use Rattle.answers.specs.Answers.{supply_answer, supplied}
use Rattle.planner.specs.LocalTest.{PassesBy}

pub record LeastGiven (P Q t x : ℕ) : Type 0 where
  -- no window has fewer, wherever it starts
  pub never_fewer : (A : Assignment) → Delivers P Q A → (s : ℕ) → x ≤ given A s t
  -- some assignment and window have no more
  pub reached : (A : Assignment) × Delivers P Q A × (s : ℕ) × (given A s t ≡ x)

-- the first Q ticks of the first period, and the last Q of every other
unfoldable pub early_then_late : ℕ → ℕ → Assignment
early_then_late P Q y = cond (ltb y P) (ltb y Q) (leb (P - Q) (y % P))

abbrev pub PassesDelivered : Partition → Setting → ℕ → Type 0
PassesDelivered v σ Q = (A : Assignment) → Delivers v.period Q A → (s : ℕ) → PassesBy (given A s) v σ

pub record FirstPrinciples : Type 0 where
  -- every assignment with exactly n × Q ticks in the first n periods, for every n, and no other
  pub exactly : (P Q : ℕ) (A : Assignment) → Delivers P Q A ↔ ((n : ℕ) → given A 0 (n * P) ≡ n * Q)
  -- the exact supply at t is the least number of given ticks in any window of t ticks
  pub least : (P Q t : ℕ) → 1 ≤ Q → Q ≤ P → LeastGiven P Q t (supply_of P Q t)
  -- there is one such number
  pub one : (P Q t x y : ℕ) → LeastGiven P Q t x → LeastGiven P Q t y → x ≡ y
  -- a budget delivered early in one period and late in the next ones is such an assignment
  pub early_delivers : (P Q : ℕ) → 1 ≤ Q → Q ≤ P → Delivers P Q (early_then_late P Q)
  -- and the worst of them: once its first Q ticks are over it gives just the supply, for every t
  pub early_is_supply : (P Q t : ℕ) → 1 ≤ Q → Q ≤ P → given (early_then_late P Q) Q t ≡ supply_of P Q t
  -- ticks beyond the Q of a period, as a part takes them to give a lock back, leave no window with fewer, if no later period has fewer than Q for them (in the field: overrun without payback)
  pub beyond : (P Q t : ℕ) → 1 ≤ Q → Q ≤ P → (A : Assignment) → ((n : ℕ) → Q ≤ given A (n * P) P) → (s : ℕ) → supply_of P Q t ≤ given A s t
  -- the operation `supply`, whatever it is asked: if it answers, then with the least number
  pub supply_answers : (P Q t : ℕ) → (supplied (supply_answer P Q t)).outcome ≡ Done → LeastGiven P Q t (supplied (supply_answer P Q t)).ticks
  -- a budget passes the local test exactly if it passes however it is delivered
  pub passing : (v : Partition) (σ : Setting) (Q : ℕ) → 1 ≤ Q → Q ≤ v.period → (passes v σ Q ≡ true) ↔ PassesDelivered v σ Q
