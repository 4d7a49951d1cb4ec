-- `candidates::budget_under` meets its contract. The invariant: from this budget on, the tasks that are left give the same answer; the places behind
-- them hold the blockings; and the need of the task above them is not met before `time`.
-- Assumes nothing.
use Prim.Native.Nat.{ℕ, ◌-◌, ◌≤◌}
use native.Mathlib.Omega.{arith}
use mathlib.Core.Path.{◌≡◌, refl}
use lib.ListN.{get_or}
use Rattle.budget.specs.Code.Passing.{above, NoneMet, FineSearch}
use Rattle.candidates.specs.Code.KeptSearch.{due_at}
use Rattle.candidates.proofs.Budgets.{lowered_step, lowered_none, lowered_end}
use Rattle.candidates.proofs.Starts.{carried_below, carried_step}
use Rattle.candidates.proofs.budget_under.Goals as goal
use Rattle.candidates.proofs.budget_under.Goals.{else-tasks-k, then-tasks-k}

pub task_budget-requires : goal.task_budget-requires
task_budget-requires c =
    let at = c.loop-k in
    let t = c.args.tables.now in
    let f = c.requires.0 in
    let few = at.invariant.0.few in
    let b = c.blocking_at-b.result in
    let P : ℕ → Type 0 = λ time. FineSearch t.columns.times (at.k - 1) (get_or t.columns.deadlines (at.k - 1) 0) t.period b at.passing.budget time in
    let from : (time : ℕ) → 1 ≤ time → NoneMet t.period at.passing.budget b (due_at t (at.k - 1)) (above t.columns.times (at.k - 1)) time → P time =
    λ time some none. record {
      fine = f.times;
      place = omega arith;
      deadline_most = f.deadlines_most _ (omega arith);
      period_most = f.period_most;
      blocking_most = omega (arith, c.blocking_at-b.ensures, f.blockings_most c.args.ceilings.now (at.k - 1) (omega arith));
      budget_some = at.invariant.0.some;
      budget_most = at.invariant.0.most;
      start_some = some;
      none_met = none;
    } in
    elim c.if-tasks-k.branch [
      | then-tasks-k w ↦ rw w.time-is (from 1 (omega arith) (λ t p h. absurd (omega arith)))
      | else-tasks-k w ↦
          rw w.time-is
          (from at.time at.invariant.1.some (carried_below t.columns.times t.columns.deadlines t.period at.k (at.k - 1) at.passing.budget at.above at.time b (omega arith) f.times at.invariant.1 w.if-tasks-k.false))
    ]

pub returns-in_err-passed : goal.returns-in_err-passed
returns-in_err-passed c =
    rw c.from_residual.ensures
    (lowered_none c.args.tables.now c.args.ceilings.now c.args.last.now (omega arith) c.loop-k.invariant.0 c.blocking_at-b.ensures c.in_err-passed.ensures.value refl)

pub loop-k-preserved : goal.loop-k-preserved
loop-k-preserved c =
    let t = c.args.tables.now in
    let is = c.in_ok-passed.ensures in
    (lowered_step t c.args.ceilings.now c.args.last.now (omega arith) c.loop-k.invariant.0 c.blocking_at-b.ensures is.value c.requires.0.times.few _ refl, carried_step t.columns.times t.columns.deadlines t.period (c.loop-k.k - 1) _ _ _ (omega arith) is)

pub returns : goal.returns
returns c =
    let at = c.loop-k in
    let e : at.k ≡ 0 = omega arith in
    lowered_end c.args.tables.now c.args.ceilings.now c.args.last.now at.passing (rw e at at.invariant.0)
