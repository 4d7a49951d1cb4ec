-- `budget::least_budget` meets its contract. The invariant: the least budget is from low to high, and with no budget from low up to high is the need met
-- before `begin`; what is known to pass is high, if anything does.
-- Assumes nothing.
use Rattle.std.specs.Option.{option_map}
use Rattle.std.proofs.Common.{rules}
use Prim.Native.Nat.{suc}
use mathlib.Core.Path.{◌≡◌, sym, ◌∙◌}
use mathlib.Core.List.{List}
use native.Mathlib.Omega.{arith}
use Rattle.demand.proofs.Demand.{demand_same}
use Rattle.task_set.specs.declared.Task.{Task}
use Rattle.task_set.specs.Blocking.{need_of}
use Rattle.task_set.proofs.Times.{times_demand, times_fine}
use Rattle.budget.specs.Code.Passing.{due_task, above}
use Rattle.budget.proofs.Asked.{cost_some, apart}
use Rattle.budget.proofs.Enough.{enough_is}
use Rattle.budget.proofs.Narrow.{passed, time_within, narrow_here, narrow_start, narrow_down, narrow_up, narrow_end}
use Rattle.budget.proofs.least_budget.Goals as goal
use Rattle.budget.proofs.least_budget.Goals.{Start}

-- the task and those above it
abbrev task : Start → Task
task s = due_task s.args.tasks.now.costs s.args.i s.args.deadline

abbrev higher : Start → List Task
higher s = above s.args.tasks.now s.args.i

pub returns-in-Some : goal.returns-in-Some
returns-in-Some c =
    let s = (goal.at.returns-in-Some c).Start in
    narrow_here c.args.period c.args.q c.args.b (task s) (higher s) _ c.requires.budget_most (sym c.passing_time.ensures ∙ c.in-Some.is)

pub loop-low-init : goal.loop-low-init
unfolding need_of
loop-low-init c =
    let s = (goal.at.loop-low-init c).Start in
    let r = c.requires in
    let least : c.map-least.result ≡ option_map (λ Q. passed Q 1) c.enough_at-enough.result = search rules in
    rw (least, c.unwrap_or-high.ensures)
    (narrow_start c.args.period c.args.q c.args.b (task s) (higher s) (cost_some c.requires) c.enough_at-enough.result r.budget_some r.budget_most (sym c.passing_time.ensures ∙ c.in_default.is) c.enough_at-enough.ensures)

pub same_until-end-requires : goal.same_until-end-requires
same_until-end-requires c =
    let s = (goal.at.same_until-end-requires c).Start in
    let tasks = c.args.tasks.now in
    let within = time_within c.args.period c.args.q c.args.b (task s) (higher s) _ _ (sym c.passing_time-in-loop-low.ensures ∙ c.in-Some-passing_time.is) in
    ((times_fine tasks c.requires.fine).fine, within.0, within.1, c.requires.deadline_most)

pub returns : goal.returns
returns c =
    let s = (goal.at.returns c).Start in
    let at = c.loop-low in
    narrow_end c.args.period c.args.q c.args.b (task s) (higher s) at.least at.begin at.low at.high at.invariant c.loop-low-test.false

pub loop-low-preserved : goal.loop-low-preserved
loop-low-preserved c =
    let s = (goal.at.loop-low-preserved c).Start in
    let at = c.loop-low in
    narrow_up c.args.period c.args.q c.args.b (task s) (higher s) at.least at.begin at.low at.high c.if-halve.next at.invariant (omega arith) (omega arith) (sym c.passing_time-in-loop-low.ensures ∙ c.in-None.is)

pub loop-low-smaller-in-Some-passing_time : goal.loop-low-smaller-in-Some-passing_time
loop-low-smaller-in-Some-passing_time c =
    let at = c.loop-low in
    let is = enough_is c.args.period _ c.same_until-end.result at.low c.if-halve.next (omega arith) c.enough_at.result c.enough_at.ensures in
    omega (arith, is.low, is.high)

pub loop-low-preserved-in-Some-passing_time : goal.loop-low-preserved-in-Some-passing_time
unfolding need_of
loop-low-preserved-in-Some-passing_time c =
    let s = (goal.at.loop-low-preserved-in-Some-passing_time c).Start in
    let at = c.loop-low in
    let e = c.same_until-end in
    let tasks = c.args.tasks.now in
    let same = times_demand tasks (suc c.args.i) e.result ∙ demand_same tasks.periods tasks.costs tasks.count (suc c.args.i) c.in-Some-passing_time.time e.result (λ k p h. e.ensures.same k (omega arith) h) ∙ sym (times_demand tasks (suc c.args.i) c.in-Some-passing_time.time) in
    let down = narrow_down c.args.period c.args.q c.args.b (task s) (higher s) (cost_some c.requires) at.least at.begin at.low at.high c.if-halve.next c.in-Some-passing_time.time e.result c.enough_at.result at.invariant (omega arith) (omega arith) (sym c.passing_time-in-loop-low.ensures ∙ c.in-Some-passing_time.is) (apart c.requires) e.ensures.from e.ensures.within same c.enough_at.ensures in
    rw c.unwrap_or-high-in-Some-passing_time.ensures down
