-- Two settings that agree on the locks 1 to m pass with the same budgets.
-- Assumes nothing.
use Prim.Native.Nat.{ℕ}
use mathlib.Core.Path.{◌≡◌, ap, fun_ext}
use Rattle.least.specs.Search.{least_up_to}
use Rattle.least.specs.Lists.{every_along}
use Rattle.task_set.specs.Partition.{Partition}
use Rattle.task_set.specs.Blocking.{Setting}
use Rattle.task_set.proofs.SettingsAgree.{Agree, blocking_of_agree}
use Rattle.budget.specs.Budget.{task_passes, passes, least_budget}

module _ (v : Partition) (σ τ : Setting) (same : Agree v.locks σ τ) where
  pub passes_agree : (Q : ℕ) → passes v σ Q ≡ passes v τ Q
  unfolding passes
  passes_agree Q =
      ap (λ blocking. every_along (λ lower task higher. task_passes v.period Q (blocking lower) task higher) v.tasks) (fun_ext (blocking_of_agree v.locks σ τ same))

  pub least_budget_agree : least_budget v σ ≡ least_budget v τ
  unfolding least_budget
  least_budget_agree = ap (λ test. least_up_to test v.period) (fun_ext passes_agree)
