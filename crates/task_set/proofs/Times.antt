-- The tasks by columns: what they ask for is the demand of the columns.
-- Assumes nothing.
use Prim.Native.Nat.{ℕ, ◌≤◌, ◌<◌}
use native.Mathlib.Omega.{arith}
use mathlib.Core.Path.{◌≡◌, sym, ap, subst}
use lib.ListN.{length, drop, get_or}
use Rattle.least.proofs.Columns.{column_length, column_get}
use Rattle.least.proofs.Members.{each_place}
use Rattle.demand.specs.declared.Workload.{Workload}
use Rattle.demand.specs.Code.Demand.{demand_from, FineDemand}
use Rattle.demand.proofs.Demand.{list_demand}
use Rattle.task_set.specs.declared.Task.{Task}
use Rattle.task_set.specs.Tasks.{demand_in}
use Rattle.task_set.specs.Code.Fine.{blank_task}
use Rattle.task_set.specs.Code.ByColumn.{times_at, times_of, FineTimes}
use Rattle.task_set.proofs.Demand.{Separated}

module _ (w : Workload) where
  pub times_length : length (times_of w) ≡ w.count
  unfolding times_of
  times_length = column_length (times_at w) w.count

  times_get : (k : ℕ) → k < w.count → get_or (times_of w) k blank_task ≡ times_at w k
  unfolding times_of
  times_get k h = column_get (times_at w) blank_task k w.count h

  pub times_demand : (r t : ℕ) → demand_in (drop r (times_of w)) t ≡ demand_from w.periods w.costs w.count r t
  unfolding demand_in
  times_demand r t =
      list_demand (λ task. task.separation) (λ task. task.cost) blank_task (times_of w) w.periods w.costs w.count times_length
      (λ k h. ap (λ (task : Task). task.separation) (times_get k h)) (λ k h. ap (λ (task : Task). task.cost) (times_get k h)) t r

  module _ (fine : FineTimes w) where
    pub times_fine : FineDemand w.periods w.costs w.count
    times_fine = record {
      fine = record { few = fine.few; some = λ k h. (fine.each k h).separation_some; most = λ k h. (fine.each k h).separation_most };
      most = λ k h. omega (arith, (fine.each k h).cost_most);
    }

    pub times_separated : Separated (times_of w)
    times_separated =
        each_place blank_task (λ (task : Task). 1 ≤ task.separation) (times_of w)
        (λ k h. let l : k < w.count = omega (arith, times_length) in subst (λ (task : Task). 1 ≤ task.separation) (sym (times_get k l)) (fine.each k l).separation_some)
