-- Where the test of a task begins, of the tasks from the highest down: a time of the task above is kept for the next one, which asks for no less.
--   Carried tasks deadlines P i budget above time == with this budget the task at the place i, blocked for at most `above` ticks, has its need not met before
--                      `time`; where there is no such task, there is no time before it
-- Assumes nothing.
use Rattle.std.specs.Prelude.{Option, Some}
use Prim.Native.Nat.{ℕ, suc, ◌+◌, ◌≤◌, ◌<◌}
use native.Mathlib.Omega.{arith}
use mathlib.Core.Path.{◌≡◌, subst}
use mathlib.Core.Bool.{false}
use mathlib.Core.List.{List}
use lib.ListN.{get_or}
use Rattle.demand.specs.declared.Workload.{Workload}
use Rattle.task_set.specs.declared.Task.{Task}
use Rattle.task_set.specs.Code.ByColumn.{FineTimes}
use Rattle.budget.specs.declared.Passed.{Passed}
use Rattle.budget.specs.Budget.{is_met}
use Rattle.budget.specs.Code.Passing.{due_task, above, NoneMet, PassedIs}
use Rattle.budget.proofs.Below.{below_unmet}

module _ (tasks : Workload) (deadlines : List ℕ) (P : ℕ) where
  -- the task at the place k
  abbrev task : ℕ → Task
  task k = due_task tasks.costs k (get_or deadlines k 0)

  pub record Carried (i budget blocked time : ℕ) : Type 0 where
    pub some : 1 ≤ time
    pub early : (t : ℕ) → 1 ≤ t → t < time → (i < tasks.count) × (is_met P budget blocked (due_task tasks.costs i (get_or deadlines i 0)) (above tasks i) t ≡ false)

  pub carried_start : (i budget : ℕ) → Carried i budget 0 1
  carried_start i budget = record { some = omega arith; early = λ t s h. absurd (omega arith) }

  -- the next task asks for no less
  pub carried_below : (i k budget blocked time b : ℕ) → i ≡ suc k → FineTimes tasks → Carried i budget blocked time → blocked ≤ get_or tasks.costs k 0 + b → NoneMet P budget b (task k) (above tasks k) time
  carried_below i k budget blocked time b next fine c l t s h =
      let unmet = c.early t s h in
      below_unmet tasks k blocked b _ _ t fine (omega (arith, unmet.0)) l s P budget
      (subst (λ (j : ℕ). is_met P budget blocked (task j) (above tasks j) t ≡ false) next unmet.1)

  -- what it answers is for the one below it
  pub carried_step : (k b : ℕ) (least : Option ℕ) (r : Passed) → k < tasks.count → PassedIs P b (task k) (above tasks k) least (Some r) → Carried k r.budget b r.time
  carried_step k b least r h is = record { some = is.early.0; early = λ t s l. (h, is.early.1 t s l) }
