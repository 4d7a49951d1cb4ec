-- The local test by places: a budget passes just if it passes for the task at each place, with its blocking and with the tasks above it.
--   task_passes_at v σ Q k == the task at the place k passes with Q under the setting σ
-- Assumes nothing.
use Rattle.std.specs.Prelude.{Some}
use Prim.Native.Nat.{ℕ, suc, ◌+◌, ◌≤◌, ◌<◌}
use mathlib.Core.Path.{◌≡◌, ap, fun_ext}
use mathlib.Core.Bool.{Bool, true}
use mathlib.Core.List.{List, reverse}
use mathlib.Core.Logic.{◌↔◌}
use lib.Dec.{leb}
use lib.ListN.{length, take, drop, get_or}
use Rattle.least.specs.Search.{any_up_to}
use Rattle.least.proofs.Along.{along_places}
use Rattle.supply.specs.Supply.{supply_of}
use Rattle.task_set.specs.declared.Task.{Task}
use Rattle.task_set.specs.Tasks.{demand_in}
use Rattle.task_set.specs.Partition.{Partition}
use Rattle.task_set.specs.Blocking.{Setting, blocking_of, need_of}
use Rattle.task_set.specs.Code.Fine.{blank_task}
use Rattle.budget.specs.Budget.{task_passes, passes, least_budget}
use Rattle.budget.proofs.Passing.{task_less_blocking, budget_iff}

unfoldable pub task_passes_at : Partition → Setting → ℕ → ℕ → Bool
task_passes_at v σ Q k = task_passes v.period Q (blocking_of v.locks σ (reverse (take k v.tasks))) (get_or v.tasks k blank_task) (drop (suc k) v.tasks)

module _ (v : Partition) (σ : Setting) (Q : ℕ) where
  pub passes_places : (passes v σ Q ≡ true) ↔ ((k : ℕ) → k < length v.tasks → task_passes_at v σ Q k ≡ true)
  unfolding passes task_passes_at
  passes_places = along_places _ blank_task v.tasks

-- a setting τ that blocks no task longer passes where σ does, so it needs no greater budget
module _ (v : Partition) (σ τ : Setting) (less : (k : ℕ) → k < length v.tasks → blocking_of v.locks τ (reverse (take k v.tasks)) ≤ blocking_of v.locks σ (reverse (take k v.tasks))) where
  passes_less_blocking : (Q : ℕ) → 1 ≤ Q → Q ≤ v.period → passes v σ Q ≡ true → passes v τ Q ≡ true
  unfolding task_passes_at
  passes_less_blocking Q o u t =
      (passes_places v τ Q).1 (λ k h. task_less_blocking v.period Q _ _ (get_or v.tasks k blank_task) (drop (suc k) v.tasks) o u (less k h) ((passes_places v σ Q).0 t k h))

  pub budget_less_blocking : (Q R : ℕ) → least_budget v σ ≡ Some Q → least_budget v τ ≡ Some R → R ≤ Q
  budget_less_blocking Q R e f =
      let q = (budget_iff v σ Q).0 e in
      ((budget_iff v τ R).0 f).0.first Q q.0.positive (passes_less_blocking Q q.0.positive q.1 q.0.passes)

-- two tasks with the same C and the same deadline, below tasks that ask for the same, pass alike
pub task_passes_same : (P Q b : ℕ) (task other : Task) (higher others : List Task) → task.cost ≡ other.cost → task.deadline ≡ other.deadline → ((w : ℕ) → demand_in higher w ≡ demand_in others w) → task_passes P Q b task higher ≡ task_passes P Q b other others
unfolding task_passes need_of
task_passes_same P Q b task other higher others c d same =
    rw (c, d) (ap (λ (demand : ℕ → ℕ). any_up_to (λ t. leb (other.cost + demand t + b) (supply_of P Q t)) other.deadline) (fun_ext same))
