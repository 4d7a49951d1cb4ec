-- The search for the kept list, through falling x. Arrays hold the numbers of tasks and locks by places, from 0.
--   first_time shared                          == the time of a lock before the search: past every limit where none is known yet, 0 where none counts
--   FirstTimes shared times                    == the array holds these of eight locks
--   TablesAre p t                              == the tables are those of the part p
--   FineTables t                               == the numbers of the tables are in range
--   blocking_under t ceilings k                == the blocking of the task at the place k under these ceilings
--   due_at t k                                 == the task at the place k, with its C and its deadline
--   was_tested last k b                        == the task at the place k passed before with the blocking b
--   budget_before last                         == the budget with which all tasks passed before; 1 where none was tested yet
--   FineBefore t last                          == this budget is in range
--   WereTested t ceilings last                 == if any blockings were tested before, they are those under these ceilings
--   budget_again P b tested task higher q      == the least budget from q on; a blocking that was tested before asks for no more
--   budget_down step k q                       == the least budget from q on after the steps of the places k − 1, .., 0
--   budget_step ts costs deadlines P blocking tested k q == the step of the task at the place k, of which `tested` tells whether it was tested with its blocking
--   step_under t ceilings last                 == these steps under these ceilings
--   budget_under t ceilings last               == the least budget under these ceilings, from the one before on
--   BudgetIs t ceilings last r                 == r holds that budget, and the blocking of each task, which is then tested
--   NoLonger below blocked j from to           == the lock at the place j, from the table `below`, blocks no task from the place `from` up to `to` for longer than it is blocked
--   NoneLonger below blocked before ceilings m == m ceilings are raised, and no lock blocks a task for longer that it reaches only now
--   has_pair v                                 == some permitted setting has a budget: there is a kept pair
--   sum_of c                                   == Q + X
--   pairs_of k                                 == the pairs of a kept list
--   lighter s cs                               == the pairs with Q + X < s
--   pushed c cs                                == the pairs that are lighter than c, and c behind them
--   FinePush k c                               == the list k is as an answer has it, Q + X rises along it, and there is room to push c
-- Assumes nothing.
use Rattle.std.specs.Prelude.{ℕ, zero, suc, ◌+◌, ◌*◌, ◌≤◌, ◌<◌, ◌≡◌, Bool, false, cond, not, List, [], ◌∷◌, ◌++◌, eqb, ltb, length, take, get_or, drop, Option, Some, None, IfSome}
use Rattle.std.specs.Option.{option_map}
use Rattle.least.specs.Lists.{is_empty, those}
use Rattle.refusal.specs.Limits.{number_limit, lock_limit, kept_limit}
use Rattle.demand.specs.Code.Demand.{cost_limit}
use Rattle.task_set.specs.declared.Task.{Task}
use Rattle.task_set.specs.declared.Part.{Part}
use Rattle.task_set.specs.Partition.{Partition}
use Rattle.task_set.specs.Code.ByColumn.{times_of, FineTimes, ColumnsAre}
use Rattle.task_set.specs.Code.ByLock.{LocksAre, LongestBelow, blocking_by}
use Rattle.budget.specs.Code.Passing.{due_task, budget_from}
use Rattle.candidates.specs.declared.Pair.{Pair}
use Rattle.candidates.specs.declared.Kept.{Kept}
use Rattle.candidates.specs.declared.Tables.{Tables}
use Rattle.candidates.specs.declared.Budgeted.{Budgeted}
use Rattle.candidates.specs.Candidates.{pair, kept_list, kept_answer}

-- locks

abbrev pub first_time : Bool → ℕ
first_time shared = cond shared (suc number_limit) 0

abbrev pub FirstTimes : List Bool → List ℕ → Type 0
FirstTimes shared times = (j : ℕ) → j < lock_limit → get_or times j 0 ≡ first_time (get_or shared j false)

-- tables

pub record TablesAre (p : Part) (t : Tables) : Type 0 where
  pub columns : ColumnsAre p t.columns
  pub locks : LocksAre p t.locks
  pub below : LongestBelow p t.below
  pub period : t.period ≡ p.period
  pub lock_count : t.lock_count ≡ p.locks

abbrev pub blocking_under : Tables → List ℕ → ℕ → ℕ
blocking_under t ceilings k = blocking_by t.below ceilings t.lock_count k

pub record FineTables (t : Tables) : Type 0 where
  pub times : FineTimes t.columns.times
  pub deadlines_most : (k : ℕ) → k < t.columns.times.count → get_or t.columns.deadlines k 0 ≤ number_limit
  pub period_most : t.period ≤ number_limit
  pub few_locks : t.lock_count ≤ 8
  pub blockings_most : (ceilings : List ℕ) (k : ℕ) → k < t.columns.times.count → blocking_under t ceilings k ≤ number_limit

-- tasks

-- the task at the place k, with its deadline
abbrev pub due_at : Tables → ℕ → Task
due_at t k = due_task t.columns.times.costs k (get_or t.columns.deadlines k 0)

abbrev pub was_tested : Option Budgeted → ℕ → ℕ → Bool
was_tested None k b = false
was_tested (Some last) k b = eqb (get_or last.blocked k 0) b

abbrev pub budget_before : Option Budgeted → ℕ
budget_before None = 1
budget_before (Some last) = last.budget

abbrev pub FineBefore : Tables → Option Budgeted → Type 0
FineBefore t last = (1 ≤ budget_before last) × (budget_before last ≤ t.period)

abbrev pub WereTested : Tables → List ℕ → Option Budgeted → Type 0
WereTested t ceilings last = IfSome last (λ b. (k : ℕ) → k < t.columns.times.count → get_or b.blocked k 0 ≡ blocking_under t ceilings k)

unfoldable pub budget_again : ℕ → ℕ → Bool → Task → List Task → ℕ → Option ℕ
budget_again P b tested task higher q = cond tested (Some q) (budget_from P q b task higher)

unfoldable pub budget_down : (ℕ → ℕ → Option ℕ) → ℕ → ℕ → Option ℕ
budget_down step zero q = Some q
budget_down step (suc k) q = elim (step k q) [ Some r ↦ budget_down step k r | None ↦ None ]

abbrev pub budget_step : List Task → List ℕ → List ℕ → ℕ → (ℕ → ℕ) → (ℕ → Bool) → ℕ → ℕ → Option ℕ
budget_step ts costs deadlines P blocking tested k q = budget_again P (blocking k) (tested k) (due_task costs k (get_or deadlines k 0)) (drop (suc k) ts) q

abbrev pub step_under : Tables → List ℕ → Option Budgeted → ℕ → ℕ → Option ℕ
step_under t ceilings last =
    budget_step (times_of t.columns.times) t.columns.times.costs t.columns.deadlines t.period (blocking_under t ceilings) (λ k. was_tested last k (blocking_under t ceilings k))

abbrev pub budget_under : Tables → List ℕ → Option Budgeted → Option ℕ
budget_under t ceilings last = budget_down (step_under t ceilings last) t.columns.times.count (budget_before last)

pub record BudgetIs (t : Tables) (ceilings : List ℕ) (last r : Option Budgeted) : Type 0 where
  pub value : option_map (λ b. b.budget) r ≡ budget_under t ceilings last
  pub tested : WereTested t ceilings r

abbrev pub NoLonger : List ℕ → List ℕ → ℕ → ℕ → ℕ → Type 0
NoLonger below blocked j from to = (k : ℕ) → from ≤ k → k < to → get_or below (8 * k + j) 0 ≤ get_or blocked k 0

abbrev pub NoneLonger : List ℕ → List ℕ → List ℕ → List ℕ → ℕ → Type 0
NoneLonger below blocked before ceilings m = (j : ℕ) → j < m → (get_or before j 0 ≤ get_or ceilings j 0) × NoLonger below blocked j (get_or before j 0) (get_or ceilings j 0)

-- pairs

unfoldable pub has_pair : Partition → Bool
has_pair v = not (is_empty (kept_list v))

abbrev pub sum_of : Pair → ℕ
sum_of c = c.budget + c.holding

abbrev pub pairs_of : Kept → List Pair
pairs_of k = take k.count k.pairs

abbrev pub lighter : ℕ → List Pair → List Pair
lighter s cs = those (λ c. ltb (sum_of c) s) cs

abbrev pub pushed : Pair → List Pair → List Pair
pushed c cs = lighter (sum_of c) cs ++ (c ∷ [])

pub record FinePush (k : Kept) (c : Pair) : Type 0 where
  pub answer : k ≡ kept_answer (pairs_of k)
  pub few : k.count ≤ kept_limit
  pub most : (i : ℕ) → i < k.count → sum_of (get_or k.pairs i (pair 0 0)) ≤ cost_limit
  pub rising : (i j : ℕ) → i ≤ j → j < k.count → sum_of (get_or k.pairs i (pair 0 0)) ≤ sum_of (get_or k.pairs j (pair 0 0))
  pub sum_most : sum_of c ≤ cost_limit
  pub room : length (pushed c (pairs_of k)) ≤ kept_limit
