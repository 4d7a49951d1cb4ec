-- The search for the least budget of a task. Places count from 0: the task at the place i has the number i + 1.
--   due_task costs i D                   == the task at the place i, with its C and its deadline
--   above tasks i                        == the tasks above the place i
--   passing_time P Q b task higher       == the least t, 1 ≤ t ≤ D, at which the task's need is met
--   NoneMet P Q b task higher t          == it is not met before t
--   FineSearch tasks i D P b q start     == the numbers of the task at the place i are in range, and with q its need is not met before `start`
--   enough_from P x t from to            == the least budget from `from` up to `to`, `to` left out, that supplies x ticks in t ticks
--   budget_from P q b task higher        == the least budget from q to P with which the task passes
--   PassedIs P b task higher least r     == r holds the budget `least`, and a time before which the task's need is not met with it
-- Assumes nothing.
use Rattle.std.specs.Prelude.{ℕ, suc, ◌-◌, ◌≤◌, ◌<◌, ◌≡◌, false, List, [], get_or, leb, Option, IfSome}
use Rattle.std.specs.Option.{option_map}
use Rattle.least.specs.Search.{least_from, least_up_to}
use Rattle.refusal.specs.Limits.{number_limit}
use Rattle.supply.specs.Supply.{supply_of}
use Rattle.demand.specs.declared.Workload.{Workload}
use Rattle.task_set.specs.declared.Task.{Task}
use Rattle.task_set.specs.Tasks.{higher}
use Rattle.task_set.specs.Code.ByColumn.{times_of, FineTimes}
use Rattle.budget.specs.declared.Passed.{Passed}
use Rattle.budget.specs.Budget.{is_met, task_passes}

abbrev pub due_task : List ℕ → ℕ → ℕ → Task
due_task costs i D = record { separation = 0; cost = get_or costs i 0; deadline = D; uses = [] }

abbrev pub above : Workload → ℕ → List Task
above tasks i = higher (suc i) (times_of tasks)

unfoldable pub passing_time : ℕ → ℕ → ℕ → Task → List Task → Option ℕ
passing_time P Q b task higher = least_up_to (is_met P Q b task higher) task.deadline

abbrev pub NoneMet : ℕ → ℕ → ℕ → Task → List Task → ℕ → Type 0
NoneMet P Q b task higher s = (t : ℕ) → 1 ≤ t → t < s → is_met P Q b task higher t ≡ false

pub record FineSearch (tasks : Workload) (i D P b q start : ℕ) : Type 0 where
  pub fine : FineTimes tasks
  pub place : i < tasks.count
  pub deadline_most : D ≤ number_limit
  pub period_most : P ≤ number_limit
  pub blocking_most : b ≤ number_limit
  pub budget_some : 1 ≤ q
  pub budget_most : q ≤ P
  pub start_some : 1 ≤ start
  pub none_met : NoneMet P q b (due_task tasks.costs i D) (above tasks i) start

unfoldable pub enough_from : ℕ → ℕ → ℕ → ℕ → ℕ → Option ℕ
enough_from P x t from to = least_from (λ Q. leb x (supply_of P Q t)) from (to - from)

unfoldable pub budget_from : ℕ → ℕ → ℕ → Task → List Task → Option ℕ
budget_from P q b task higher = least_from (λ Q. task_passes P Q b task higher) q (suc P - q)

pub record PassedIs (P b : ℕ) (task : Task) (higher : List Task) (least : Option ℕ) (r : Option Passed) : Type 0 where
  pub value : option_map (λ p. p.budget) r ≡ least
  pub early : IfSome r (λ p. (1 ≤ p.time) × NoneMet P p.budget b task higher p.time)
