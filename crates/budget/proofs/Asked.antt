-- What a search for the passing time of a task is asked: its numbers are in range, so the laws of the iteration hold of it.
-- Assumes nothing.
use Rattle.std.specs.Prelude.{Some, None}
use Prim.Native.Nat.{ℕ, suc, ◌+◌, ◌-◌, ◌*◌, ◌≤◌, ◌<◌}
use native.Mathlib.Numerals.{add-one}
use native.Mathlib.Omega.{arith}
use mathlib.Core.Path.{◌≡◌, sym, ap, ◌∙◌, subst}
use lib.ListN.{get_or}
use Rattle.least.proofs.Iterate.{Mono, Unsolved}
use Rattle.supply.specs.Code.Supply.{ReachIs}
use Rattle.supply.proofs.SupplyLaws.{reach}
use Rattle.demand.specs.declared.Workload.{Workload}
use Rattle.demand.specs.Code.Demand.{demand_from}
use Rattle.envelope.specs.Code.Supply.{FineSupply}
use Rattle.envelope.specs.Code.Envelope.{NoEarlier}
use Rattle.task_set.specs.Blocking.{need_of}
use Rattle.task_set.specs.Code.ByColumn.{times_of}
use Rattle.task_set.proofs.Demand.{Separated, separated_drop}
use Rattle.task_set.proofs.Times.{times_demand, times_separated}
use Rattle.budget.specs.Code.Passing.{due_task, above, passing_time, FineSearch}
use Rattle.budget.proofs.Iteration.{ticks, reach_unique, need_some, ticks_mono, start_unmet, time_past, time_over, time_met, line_of, line_jump}

-- what the code computes is the need at t
pub need_is : (tasks : Workload) (i b D t x : ℕ) → x ≡ demand_from tasks.periods tasks.costs tasks.count (i + 1) t → get_or tasks.costs i 0 + b + x ≡ need_of b (due_task tasks.costs i D) (above tasks i) t
unfolding need_of
need_is tasks i b D t x is =
    omega (arith, is ∙ ap (λ (k : ℕ). demand_from tasks.periods tasks.costs tasks.count k t) (add-one i), times_demand tasks (suc i) t)

module _ {tasks : Workload} {i D P b q start : ℕ} (f : FineSearch tasks i D P b q start) where
  abbrev need : ℕ → ℕ
  need t = need_of b (due_task tasks.costs i D) (above tasks i) t

  abbrev ticks_at : ℕ → ℕ
  ticks_at t = ticks P q b (due_task tasks.costs i D) (above tasks i) t

  pub cost_some : 1 ≤ get_or tasks.costs i 0
  cost_some = (f.fine.each i f.place).cost_some

  pub apart : Separated (above tasks i)
  apart = separated_drop (suc i) (times_of tasks) (times_separated tasks f.fine)

  pub mono : Mono (ticks P q b (due_task tasks.costs i D) (above tasks i))
  mono = ticks_mono P q b (due_task tasks.costs i D) (above tasks i) apart cost_some f.budget_some f.budget_most

  pub asked_some : (t : ℕ) → 1 ≤ need_of b (due_task tasks.costs i D) (above tasks i) t
  asked_some = need_some P q b (due_task tasks.costs i D) (above tasks i) apart cost_some f.budget_some f.budget_most

  -- what the code computes are the ticks
  pub ticks_are : (t x r : ℕ) → x ≡ need t → ReachIs P q x r → r ≡ ticks P q b (due_task tasks.costs i D) (above tasks i) t
  ticks_are t x r e is = reach_unique P q x r f.budget_some f.budget_most (rw e (asked_some t)) is ∙ ap (reach P q) e

  pub asked_start : Unsolved (ticks P q b (due_task tasks.costs i D) (above tasks i)) start
  asked_start = start_unmet P q b (due_task tasks.costs i D) (above tasks i) apart cost_some f.budget_some f.budget_most start f.none_met

  -- the ways out of the search
  module _ {t : ℕ} (unsolved : Unsolved (ticks P q b (due_task tasks.costs i D) (above tasks i)) t) where
    pub asked_past : D < t → None ≡ passing_time P q b (due_task tasks.costs i D) (above tasks i)
    asked_past l = sym (time_past P q b (due_task tasks.costs i D) (above tasks i) apart cost_some f.budget_some f.budget_most t unsolved l)

    pub asked_over : D < need t → None ≡ passing_time P q b (due_task tasks.costs i D) (above tasks i)
    asked_over l = sym (time_over P q b (due_task tasks.costs i D) (above tasks i) apart cost_some f.budget_some f.budget_most t unsolved l)

    pub asked_met : 1 ≤ t → t ≤ D → ticks_at t ≤ t → Some t ≡ passing_time P q b (due_task tasks.costs i D) (above tasks i)
    asked_met s l m = sym (time_met P q b (due_task tasks.costs i D) (above tasks i) apart cost_some f.budget_some f.budget_most t unsolved s l m)

  -- a jump
  pub asked_jump : {t x y : ℕ} {fine : FineSupply P (q * (P - q)) q} → NoEarlier tasks.periods tasks.costs tasks.count (i + 1) (get_or tasks.costs i 0 + b) (line_of P q fine) t x y → (v : ℕ) → t ≤ v → x ≤ v → ticks_at v ≤ v → y ≤ v
  asked_jump {t} {x} {y} {fine} far =
      line_jump tasks (suc i) P q b (due_task tasks.costs i D) t x y f.budget_some f.budget_most
      (subst (λ (k : ℕ). NoEarlier tasks.periods tasks.costs tasks.count k (get_or tasks.costs i 0 + b) (line_of P q fine) t x y) (add-one i) far)
