-- The least budget under the ceilings of an array, task by task: no smaller one passes, and with it every task does.
--   test_at t k b Q == the task at the place k, by its columns, passes with the budget Q where its blocking is b
--   Tested t last   == with the budget before every task passes with the blocking that was tested
-- Assumes nothing.
use Rattle.std.specs.Prelude.{Option, Some, None}
use Prim.Native.Nat.{ℕ, suc, ◌≤◌, ◌<◌}
use native.Mathlib.Omega.{arith}
use mathlib.Core.Path.{◌≡◌, refl, sym, ap, ◌∙◌}
use mathlib.Core.Bool.{Bool, true, false, false≢true}
use mathlib.Core.List.{List}
use lib.ListN.{get_or, drop}
use lib.Seq.{drop-cons}
use borrow.Author.Tests.{eqb-true}
use Rattle.least.proofs.Search.{NoneIn, none_iff, first_of}
use Rattle.task_set.specs.declared.Task.{Task}
use Rattle.task_set.specs.declared.Part.{Part}
use Rattle.task_set.specs.Code.Tasks.{with_locks, tasks_of}
use Rattle.task_set.specs.Code.Partition.{partition_of}
use Rattle.task_set.specs.Code.Fine.{blank_task, FinePart}
use Rattle.task_set.specs.Code.ByColumn.{times_of}
use Rattle.task_set.specs.Blocking.{blocking_of}
use Rattle.task_set.specs.Code.ByLock.{blocking_by, setting_of, lower_than}
use Rattle.task_set.proofs.Places.{tasks_at, tasks_length}
use Rattle.task_set.proofs.ByColumn.{columns_demand}
use Rattle.task_set.proofs.BlockingAt.{blocking_same}
use Rattle.budget.specs.Budget.{task_passes, passes, least_budget}
use Rattle.budget.specs.Code.Passing.{above}
use Rattle.budget.proofs.Passing.{budget_iff}
use Rattle.budget.proofs.ByPlace.{task_passes_at, passes_places, task_passes_same}
use Rattle.candidates.specs.declared.Tables.{Tables}
use Rattle.candidates.specs.declared.Budgeted.{Budgeted}
use Rattle.candidates.specs.Code.KeptSearch.{due_at, TablesAre, blocking_under, was_tested, budget_before, budget_under, WereTested}
use Rattle.candidates.proofs.Budgets.{down_range, down_passes, down_first, down_some}

abbrev pub test_at : Tables → ℕ → ℕ → ℕ → Bool
test_at t k b Q = task_passes t.period Q b (due_at t k) (above t.columns.times k)

abbrev pub Tested : Tables → Option Budgeted → Type 0
Tested t last = (k : ℕ) → k < t.columns.times.count → (b : ℕ) → was_tested last k b ≡ true → test_at t k b (budget_before last) ≡ true

pub none_tested : (t : Tables) → Tested t None
none_tested t k h b e = absurd (false≢true e)

module _ (p : Part) (fine : FinePart p) (t : Tables) (are : TablesAre p t) (ceilings : List ℕ) where
  abbrev blocking : ℕ → ℕ
  blocking k = blocking_under t ceilings k

  pub task_is : (k : ℕ) → k < p.count → get_or (tasks_of p) k blank_task ≡ with_locks p.locks (get_or p.tasks k blank_task)
  task_is k h = let e = sym (drop-cons (tasks_of p) k blank_task (omega (arith, tasks_length p fine))) ∙ tasks_at p fine k h in cc e

  blocking_is : (k : ℕ) → k < p.count → blocking k ≡ blocking_by t.below ceilings p.locks k
  blocking_is k h = ap (λ (m : ℕ). blocking_by t.below ceilings m k) are.lock_count

  -- by its columns a task passes as it does in the part
  test_is : (k Q : ℕ) → k < p.count → test_at t k (blocking k) Q ≡ task_passes_at (partition_of p) (setting_of ceilings) Q k
  unfolding task_passes_at
  test_is k Q h =
      let own = task_is k h in
      let small : k < 16 = omega (arith, fine.few) in
      ap (λ (b : ℕ). test_at t k b Q) (blocking_is k h ∙ blocking_same p fine k h t.below ceilings are.below)
      ∙ ap (λ (P : ℕ). task_passes P Q (blocking_of p.locks (setting_of ceilings) (lower_than k (tasks_of p))) (due_at t k) (above t.columns.times k)) are.period
      ∙ task_passes_same p.period Q _ _ (get_or (tasks_of p) k blank_task) _ (drop (suc k) (tasks_of p)) (are.columns.costs k small ∙ sym (ap (λ (x : Task). x.cost) own)) (are.columns.deadlines k small ∙ sym (ap (λ (x : Task). x.deadline) own)) (columns_demand p fine t.columns are.columns (suc k))

  -- so a budget passes just if every task does by its columns
  all_pass : (Q : ℕ) → ((k : ℕ) → k < t.columns.times.count → test_at t k (blocking k) Q ≡ true) → passes (partition_of p) (setting_of ceilings) Q ≡ true
  all_pass Q h =
      (passes_places (partition_of p) (setting_of ceilings) Q).1 (λ k l. let i : k < p.count = omega (arith, tasks_length p fine) in sym (test_is k Q i) ∙ h k (omega (arith, are.columns.count)))

  each_passes : (Q : ℕ) → passes (partition_of p) (setting_of ceilings) Q ≡ true → (k : ℕ) → k < t.columns.times.count → test_at t k (blocking k) Q ≡ true
  each_passes Q q k h = let i : k < p.count = omega (arith, are.columns.count) in test_is k Q i ∙ (passes_places (partition_of p) (setting_of ceilings) Q).0 q k (omega (arith, tasks_length p fine))

  module _ (last : Option Budgeted) (o : 1 ≤ budget_before last) (u : budget_before last ≤ t.period) (known : Tested t last) (none : NoneIn (passes (partition_of p) (setting_of ceilings)) 1 (budget_before last)) where
    abbrev tested : ℕ → Bool
    tested k = was_tested last k (blocking k)

    pub lowest_range : (R : ℕ) → budget_under t ceilings last ≡ Some R → (budget_before last ≤ R) × (R ≤ t.period)
    lowest_range R e = down_range (times_of t.columns.times) t.columns.times.costs t.columns.deadlines t.period blocking tested t.columns.times.count (budget_before last) R u e

    good : (R : ℕ) → budget_under t ceilings last ≡ Some R → (k : ℕ) → k < t.columns.times.count → test_at t k (blocking k) R ≡ true
    good R e =
        down_passes (times_of t.columns.times) t.columns.times.costs t.columns.deadlines t.period blocking tested t.columns.times.count (budget_before last) R o u (λ k h. known k h (blocking k)) e

    -- with the new blockings every task is tested
    pub lowest_tested : (b : Budgeted) → Some b.budget ≡ budget_under t ceilings last → WereTested t ceilings (Some b) → Tested t (Some b)
    lowest_tested b e same k h c is = ap (λ (x : ℕ). test_at t k x b.budget) (sym (eqb-true (get_or b.blocked k 0) c is) ∙ same k h) ∙ good b.budget (sym e) k h

    -- no budget below q passes
    from_q : (Q : ℕ) → 1 ≤ Q → passes (partition_of p) (setting_of ceilings) Q ≡ true → budget_before last ≤ Q
    from_q = first_of _ (budget_before last) none

    pub lowest_found : (R : ℕ) → budget_under t ceilings last ≡ Some R → least_budget (partition_of p) (setting_of ceilings) ≡ Some R
    lowest_found R e =
        (budget_iff (partition_of p) (setting_of ceilings) R).1 (record { positive = omega (arith, (lowest_range R e).0); passes = all_pass R (good R e); first = first }, omega (arith, (lowest_range R e).1, are.period))
      where
        first : (Q : ℕ) → 1 ≤ Q → passes (partition_of p) (setting_of ceilings) Q ≡ true → R ≤ Q
        first Q a q = down_first (times_of t.columns.times) t.columns.times.costs t.columns.deadlines t.period blocking tested t.columns.times.count (budget_before last) Q (from_q Q a q) (each_passes Q q) R e

    pub lowest_missed : budget_under t ceilings last ≡ None → least_budget (partition_of p) (setting_of ceilings) ≡ None
    unfolding least_budget
    lowest_missed e = (none_iff _ p.period).1 fails
      where
        fails : (Q : ℕ) → 1 ≤ Q → Q ≤ p.period → passes (partition_of p) (setting_of ceilings) Q ≡ false
        fails Q a b = go (passes (partition_of p) (setting_of ceilings) Q) refl
          where
            go : (v : Bool) → passes (partition_of p) (setting_of ceilings) Q ≡ v → passes (partition_of p) (setting_of ceilings) Q ≡ false
            go false v = v
            go true v =
                absurd (down_some (times_of t.columns.times) t.columns.times.costs t.columns.deadlines t.period blocking tested t.columns.times.count (budget_before last) Q (from_q Q a v) (each_passes Q v) (omega (arith, are.period)) e)
