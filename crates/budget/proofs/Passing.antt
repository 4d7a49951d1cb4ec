-- Laws of the local test: the paper's words, and that a greater budget passes where a smaller one does.
--   Met P Q blocking task higher == some t, 1 ≤ t ≤ D_i, has C_i + Σ_{k>i} ⌈t/T_k⌉×C_k + blocking ≤ supply(t)
-- Assumes nothing.
use Rattle.std.specs.Prelude.{Some}
use Prim.Native.Nat.{ℕ, ◌+◌, ◌≤◌, ◌<◌}
use native.Mathlib.Nat.{le_refl}
use native.Mathlib.Omega.{arith}
use mathlib.Core.Path.{◌≡◌}
use mathlib.Core.Bool.{true, false}
use mathlib.Core.List.{List, ◌∷◌, ◌++◌, reverse}
use mathlib.Core.Logic.{◌↔◌}
use borrow.Author.Tests.{le-leb, leb-true}
use Rattle.least.specs.Code.Search.{IsLeast}
use Rattle.least.proofs.Search.{least_iff, any_iff}
use Rattle.least.proofs.Bisect.{least_after}
use Rattle.least.proofs.Along.{along_iff}
use Rattle.supply.specs.Supply.{supply_of}
use Rattle.supply.proofs.SupplyLaws.{supply_mono-Q}
use Rattle.task_set.specs.declared.Task.{Task}
use Rattle.task_set.specs.Partition.{Partition}
use Rattle.task_set.specs.Blocking.{Setting, blocking_of, need_of}
use Rattle.task_set.proofs.Blocking.{blocking_mono}
use Rattle.budget.specs.Budget.{task_passes, passes, least_budget}

abbrev pub Met : ℕ → ℕ → ℕ → Task → List Task → Type 0
Met P Q blocking task higher = (t : ℕ) × (1 ≤ t) × (t ≤ task.deadline) × (need_of blocking task higher t ≤ supply_of P Q t)

pub task_passes_iff : (P Q blocking : ℕ) (task : Task) (higher : List Task) → (task_passes P Q blocking task higher ≡ true) ↔ Met P Q blocking task higher
unfolding task_passes
task_passes_iff P Q blocking task higher = (to, from)
  where
    to : task_passes P Q blocking task higher ≡ true → Met P Q blocking task higher
    to q =
        let f = (any_iff _ task.deadline).0 q in
        (f.0, f.1, f.2, leb-true _ _ f.3)

    from : Met P Q blocking task higher → task_passes P Q blocking task higher ≡ true
    from f = (any_iff _ task.deadline).1 (f.0, f.1, f.2, le-leb _ _ f.3)

-- each task i of the part passes: the i − 1 tasks `lower` stand before it, nearest first, and the tasks `higher` behind it
pub passes_paper : (v : Partition) (σ : Setting) (Q : ℕ)
    → (passes v σ Q ≡ true) ↔ ((lower : List Task) (task : Task) (higher : List Task) → reverse lower ++ (task ∷ higher) ≡ v.tasks → Met v.period Q (blocking_of v.locks σ lower) task higher)
unfolding passes
passes_paper v σ Q = (
  (λ q lower task higher e. (task_passes_iff v.period Q (blocking_of v.locks σ lower) task higher).0 ((along_iff _ v.tasks).0 q lower task higher e)),
  (λ h. (along_iff _ v.tasks).1 (λ lower task higher e. (task_passes_iff v.period Q (blocking_of v.locks σ lower) task higher).1 (h lower task higher e))),
)

-- a greater budget and less blocking meet what a smaller budget and more blocking do
met_more : (P Q R b c : ℕ) (task : Task) (higher : List Task) → 1 ≤ Q → Q ≤ R → R ≤ P → c ≤ b → Met P Q b task higher → Met P R c task higher
unfolding need_of
met_more P Q R b c task higher o l u d (t, from, upto, met) = (t, from, upto, omega (arith, supply_mono-Q P Q R t o l u))

pub task_mono-Q : (P Q R b : ℕ) (task : Task) (higher : List Task) → 1 ≤ Q → Q ≤ R → R ≤ P → task_passes P Q b task higher ≡ true → task_passes P R b task higher ≡ true
task_mono-Q P Q R b task higher o l u t =
    (task_passes_iff P R b task higher).1 (met_more P Q R b b task higher o l u (le_refl b) ((task_passes_iff P Q b task higher).0 t))

pub task_less_blocking : (P Q b c : ℕ) (task : Task) (higher : List Task) → 1 ≤ Q → Q ≤ P → c ≤ b → task_passes P Q b task higher ≡ true → task_passes P Q c task higher ≡ true
task_less_blocking P Q b c task higher o u l t =
    (task_passes_iff P Q c task higher).1 (met_more P Q Q b c task higher o (le_refl Q) u l ((task_passes_iff P Q b task higher).0 t))

-- the same of a part: ceilings that are no higher block no more
pub passes_more : (v : Partition) (σ τ : Setting) (Q R : ℕ) → 1 ≤ Q → Q ≤ R → R ≤ v.period
    → ((l : ℕ) → 1 ≤ l → l ≤ v.locks → τ l ≤ σ l) → passes v σ Q ≡ true → passes v τ R ≡ true
passes_more v σ τ Q R o l u low q =
    (passes_paper v τ R).1 (λ lower task higher e. met_more v.period Q R _ _ task higher o l u (blocking_mono v.locks τ σ lower low) ((passes_paper v σ Q).0 q lower task higher e))

module _ (v : Partition) (σ : Setting) where
  pub passes_mono_Q : (Q R : ℕ) → 1 ≤ Q → Q ≤ R → R ≤ v.period → passes v σ Q ≡ true → passes v σ R ≡ true
  passes_mono_Q Q R o l u q = passes_more v σ σ Q R o l u (λ k a b. le_refl (σ k)) q

  pub budget_iff : (Q : ℕ) → (least_budget v σ ≡ Some Q) ↔ (IsLeast (passes v σ) Q × (Q ≤ v.period))
  unfolding least_budget
  budget_iff Q = least_iff (passes v σ) v.period Q

  -- two values settle it
  pub budget_after : (Q : ℕ) → Q < v.period → passes v σ Q ≡ false → passes v σ (Q + 1) ≡ true → least_budget v σ ≡ Some (Q + 1)
  unfolding least_budget
  budget_after Q l f t = least_after (passes v σ) v.period Q passes_mono_Q l f t
