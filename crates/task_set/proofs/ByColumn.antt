-- The columns of a part: their tasks ask for what the part's tasks ask for.
-- Assumes nothing.
use Prim.Native.Nat.{ℕ, ◌<◌}
use native.Mathlib.Omega.{arith}
use mathlib.Core.Path.{◌≡◌, sym, ap, ◌∙◌}
use lib.ListN.{length, drop, get_or}
use Rattle.demand.proofs.Demand.{list_demand}
use Rattle.task_set.specs.declared.Task.{Task}
use Rattle.task_set.specs.declared.Part.{Part}
use Rattle.task_set.specs.declared.Columns.{Columns}
use Rattle.task_set.specs.Tasks.{demand_in}
use Rattle.task_set.specs.Code.Tasks.{with_locks, tasks_of}
use Rattle.task_set.specs.Code.Fine.{blank_task, FinePart}
use Rattle.task_set.specs.Code.ByColumn.{times_of, FineTime, FineTimes, ColumnsAre}
use Rattle.task_set.proofs.Places.{tasks_length, tasks_get}
use Rattle.task_set.proofs.Times.{times_length, times_demand}

module _ (p : Part) (fine : FinePart p) (c : Columns) (are : ColumnsAre p c) where
  pub columns_fine : FineTimes c.times
  columns_fine = record { few = omega (arith, are.count, fine.few); each = each }
    where
      each : (k : ℕ) → k < c.times.count → FineTime (get_or c.times.periods k 0) (get_or c.times.costs k 0)
      each k h =
          let t = fine.each k (omega (arith, are.count)) in
          let T = are.separations k (omega (arith, are.count, fine.few)) in
          let C = are.costs k (omega (arith, are.count, fine.few)) in
          record { separation_some = omega arith; separation_most = omega arith; cost_some = omega arith; cost_most = omega arith }

  pub columns_length : length (times_of c.times) ≡ length (tasks_of p)
  columns_length = times_length c.times ∙ are.count ∙ sym (tasks_length p fine)

  pub columns_demand : (r t : ℕ) → demand_in (drop r (times_of c.times)) t ≡ demand_in (drop r (tasks_of p)) t
  unfolding demand_in
  columns_demand r t =
      times_demand c.times r t
      ∙ sym
      (list_demand (λ task. task.separation) (λ task. task.cost) (with_locks p.locks blank_task) (tasks_of p) c.times.periods c.times.costs c.times.count (tasks_length p fine ∙ sym are.count)
      (λ k h. ap (λ (task : Task). task.separation) (tasks_get p fine k (omega (arith, are.count))) ∙ sym (are.separations k (omega (arith, are.count, fine.few))))
      (λ k h. ap (λ (task : Task). task.cost) (tasks_get p fine k (omega (arith, are.count))) ∙ sym (are.costs k (omega (arith, are.count, fine.few)))) t r)
