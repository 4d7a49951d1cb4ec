-- A part has a kept pair just if a budget passes at the lowest ceilings of its locks: they block least, and a setting under which a budget passes is permitted.
-- Assumes nothing.
use Rattle.std.specs.Prelude.{Option, Some, None, is_some}
use Prim.Native.Nat.{ℕ, zero, suc, ◌≤◌, ◌<◌}
use native.Mathlib.Nat.{le_refl}
use native.Mathlib.Omega.{arith}
use mathlib.Core.Path.{◌≡◌, refl, sym, ap, ◌∙◌}
use mathlib.Core.Bool.{true, false, false≢true}
use mathlib.Core.List.{List, [], ◌∷◌}
use lib.ListN.{length, get_or}
use Rattle.least.specs.Lists.{is_empty}
use Rattle.least.proofs.Search.{none_iff}
use Rattle.task_set.specs.declared.Task.{Task}
use Rattle.task_set.specs.declared.Part.{Part}
use Rattle.task_set.specs.Tasks.{held_for, lowest_ceiling}
use Rattle.task_set.specs.Code.Tasks.{tasks_of}
use Rattle.task_set.specs.Partition.{Partition}
use Rattle.task_set.specs.Code.Partition.{partition_of}
use Rattle.task_set.specs.Blocking.{Setting}
use Rattle.task_set.specs.Code.Fine.{blank_task}
use Rattle.task_set.specs.Code.ByLock.{LowestAre, setting_of}
use Rattle.task_set.proofs.Places.{tasks_length, held_at}
use Rattle.task_set.proofs.BlockingAt.{setting_at}
use Rattle.holding.specs.Holding.{holding_time_of}
use Rattle.holding.proofs.Holding.{Ranged, in_range_paper, lowest≤highest}
use Rattle.budget.specs.Budget.{passes, least_budget}
use Rattle.budget.proofs.Passing.{budget_iff, passes_more}
use Rattle.candidates.specs.declared.Pair.{Pair}
use Rattle.candidates.specs.declared.Tables.{Tables}
use Rattle.candidates.specs.declared.Budgeted.{Budgeted}
use Rattle.candidates.specs.Candidates.{pair, kept_list}
use Rattle.candidates.specs.Statement.{Permitted, Candidate}
use Rattle.candidates.specs.Code.KeptSearch.{FineBefore, BudgetIs, has_pair}
use Rattle.candidates.proofs.Candidates.{kept_empty, kept_none}
use Rattle.candidates.proofs.Lowest.{none_tested, task_is, lowest_found, lowest_missed}
use Rattle.candidates.proofs.Permits.{passing_permits}
use Rattle.candidates.proofs.Turn.{lowest_at}
use Rattle.candidates.proofs.Searching.{Prepared}

module _ (v : Partition) where
  some_pair : {c : Pair} → Candidate v c → has_pair v ≡ true
  unfolding has_pair is_empty
  some_pair {c} some = go (kept_list v) refl
    where
      go : (cs : List Pair) → kept_list v ≡ cs → has_pair v ≡ true
      go [] e = absurd ((kept_empty v).0 e c some)
      go (d ∷ cs) e = rw e refl

  no_pair : kept_list v ≡ [] → has_pair v ≡ false
  unfolding has_pair is_empty
  no_pair e = rw e refl

pub start_fine : {p : Part} {t : Tables} → Prepared p t → FineBefore t None
start_fine ready = (le_refl 1, omega (arith, ready.are.period, ready.period_some))

module _ {p : Part} {t : Tables} (ready : Prepared p t) (ceilings : List ℕ) (low : LowestAre t.locks ceilings) where
  abbrev lowest : Setting
  lowest = setting_of ceilings

  lowest_is : (l : ℕ) → 1 ≤ l → l ≤ p.locks → lowest l ≡ lowest_ceiling l (tasks_of p)
  lowest_is zero a b = absurd (omega arith)
  lowest_is (suc j) a b = setting_at ceilings j ∙ lowest_at ready.fine ready.are ceilings low j (omega arith)

  lowest_ranged : Ranged (partition_of p) lowest
  lowest_ranged l a b = (omega (arith, lowest_is l a b), omega (arith, lowest_is l a b, lowest≤highest (partition_of p) l))

  -- the task at the place j is in range
  apart : (j : ℕ) → j < length (tasks_of p) → 1 ≤ (get_or (tasks_of p) j blank_task).separation
  apart j h =
      let l : j < p.count = omega (arith, tasks_length p ready.fine) in
      let f = ready.fine.each j l in
      omega (arith, ap (λ (t : Task). t.separation) (task_is p ready.fine t ready.are ceilings j l), f.cost_some, f.cost_most, f.deadline_most)

  held_within : (l j : ℕ) → 1 ≤ l → l ≤ p.locks → j < length (tasks_of p) → held_for l (get_or (tasks_of p) j blank_task) ≤ (get_or (tasks_of p) j blank_task).cost
  held_within l j a b h =
      let i : j < p.count = omega (arith, tasks_length p ready.fine) in
      let e = task_is p ready.fine t ready.are ceilings j i in
      omega (arith, ap (held_for l) e, ap (λ (t : Task). t.cost) e, held_at p ready.fine l a b (get_or p.tasks j blank_task), (ready.fine.each j i).uses_most l a b)

  found : (b : Budgeted) → BudgetIs t ceilings None (Some b) → has_pair (partition_of p) ≡ true
  found b has = some_pair (partition_of p) candidate
    where
      least : least_budget (partition_of p) lowest ≡ Some b.budget
      least = lowest_found p ready.fine t ready.are ceilings None (start_fine ready).0 (start_fine ready).1 (none_tested t) (λ v a l. absurd (omega arith)) b.budget (sym has.value)

      candidate : Candidate (partition_of p) (pair b.budget (holding_time_of (partition_of p) lowest))
      candidate =
          let l = (budget_iff (partition_of p) lowest b.budget).0 least in
          record {
            setting = lowest;
            allowed = passing_permits (partition_of p) lowest b.budget apart held_within ready.fine.used lowest_ranged l.0.positive l.1 l.0.passes;
            holding = refl;
            budget = least;
          }

  nothing : BudgetIs t ceilings None None → (σ : Setting) (Q : ℕ) → Permitted (partition_of p) σ → 1 ≤ Q → Q ≤ p.period → passes (partition_of p) σ Q ≡ true → ⊥
  unfolding least_budget
  nothing has σ Q ok a u v =
      let ranged = (in_range_paper (partition_of p) σ).0 ok.ranged in
      let none = lowest_missed p ready.fine t ready.are ceilings None (start_fine ready).0 (start_fine ready).1 (none_tested t) (λ v o l. absurd (omega arith)) (sym has.value) in
      let more = passes_more (partition_of p) σ lowest Q Q a (le_refl Q) u (λ l o d. omega (arith, lowest_is l o d, (ranged l o d).0)) v in
      false≢true (sym ((none_iff (passes (partition_of p) lowest) p.period).0 none Q a u) ∙ more)

  pub lowest_pair : (r : Option Budgeted) → BudgetIs t ceilings None r → is_some r ≡ has_pair (partition_of p)
  lowest_pair (Some b) has = sym (found b has)
  lowest_pair None has = sym (no_pair (partition_of p) ((kept_none (partition_of p)).1 (nothing has)))
