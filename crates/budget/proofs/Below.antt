-- The task below asks for no less at any time, where its C and its blocking are no less than the blocking of the task above: a need that is not met for the
-- one is not met for the other.
-- Assumes nothing.
use Prim.Native.Nat.{ℕ, suc, ◌+◌, ◌≤◌, ◌<◌}
use native.Mathlib.Nat.{mul-le-mul_right}
use native.Mathlib.Omega.{arith}
use mathlib.Core.Path.{◌≡◌}
use mathlib.Core.Bool.{false}
use lib.ListN.{get_or}
use borrow.Author.Tests.{lt-leb, leb-false}
use Rattle.least.proofs.Round.{ceil_pos}
use Rattle.supply.specs.Supply.{supply_of}
use Rattle.demand.specs.declared.Workload.{Workload}
use Rattle.demand.proofs.Demand.{demand_next}
use Rattle.task_set.specs.Blocking.{need_of}
use Rattle.task_set.specs.Code.ByColumn.{FineTimes}
use Rattle.task_set.proofs.Times.{times_demand}
use Rattle.budget.specs.Budget.{is_met}
use Rattle.budget.specs.Code.Passing.{due_task, above}

-- the task at the place i with the blocking b, and the one above it with the blocking a
module _ (tasks : Workload) (i a b D E t : ℕ) (fine : FineTimes tasks) (next : suc i < tasks.count) (l : a ≤ get_or tasks.costs i 0 + b) (some : 1 ≤ t) where
  need_below : need_of a (due_task tasks.costs (suc i) E) (above tasks (suc i)) t ≤ need_of b (due_task tasks.costs i D) (above tasks i) t
  unfolding need_of
  need_below =
      omega
      (arith, times_demand tasks (suc i) t, times_demand tasks (suc (suc i)) t, demand_next tasks.periods tasks.costs tasks.count (suc i) t next, mul-le-mul_right (get_or tasks.costs (suc i) 0) (ceil_pos t (get_or tasks.periods (suc i) 0) (fine.each (suc i) next).separation_some some))

  pub below_unmet : (P Q : ℕ) → is_met P Q a (due_task tasks.costs (suc i) E) (above tasks (suc i)) t ≡ false → is_met P Q b (due_task tasks.costs i D) (above tasks i) t ≡ false
  below_unmet P Q e =
      lt-leb (need_of b (due_task tasks.costs i D) (above tasks i) t) (supply_of P Q t)
      (omega (arith, need_below, leb-false (need_of a (due_task tasks.costs (suc i) E) (above tasks (suc i)) t) (supply_of P Q t) e))
