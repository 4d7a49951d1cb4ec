-- `budget::passing_time` meets its contract. The invariant: at no time below t is the need met.
-- Assumes nothing.
use mathlib.Core.Path.{◌≡◌}
use native.Mathlib.Omega.{arith}
use Rattle.least.proofs.Iterate.{step_unsolved, jump_unsolved}
use Rattle.budget.specs.Code.Passing.{due_task, above}
use Rattle.budget.proofs.Iteration.{ticks}
use Rattle.budget.proofs.Asked.{need_is, mono, ticks_are, asked_start, asked_past, asked_over, asked_met, asked_jump}
use Rattle.budget.proofs.passing_time.Goals as goal
use Rattle.budget.proofs.passing_time.Goals.{After-reach_at-next}

pub loop-t-init : goal.loop-t-init
loop-t-init c = (c.requires.start_some, asked_start c.requires)

pub returns-then-deadline-need : goal.returns-then-deadline-need
returns-then-deadline-need c =
    asked_over c.requires c.loop-t.invariant.1 (omega (arith, need_is c.args.tasks.now c.args.i c.args.b c.args.deadline c.loop-t.t _ c.demand_from.ensures.value, c.if-deadline-need.true))

-- the ticks at t
then : (c : After-reach_at-next) → c.reach_at-next.result ≡ ticks c.args.period c.args.q c.args.b (due_task c.args.tasks.now.costs c.args.i c.args.deadline) (above c.args.tasks.now c.args.i) c.loop-t.t
then c = ticks_are c.requires c.loop-t.t _ _ (need_is c.args.tasks.now c.args.i c.args.b c.args.deadline c.loop-t.t _ c.demand_from.ensures.value) c.reach_at-next.ensures

pub returns-then-next-t : goal.returns-then-next-t
returns-then-next-t c =
    let at = c.loop-t in
    asked_met c.requires at.invariant.1 at.invariant.0 (omega arith) (omega (arith, then (goal.at.returns-then-next-t c).After-reach_at-next))

pub loop-t-preserved-then-left-gt0 : goal.loop-t-preserved-then-left-gt0
loop-t-preserved-then-left-gt0 c =
    let at = c.loop-t in
    (omega arith, step_unsolved _ at.t _ (mono c.requires) at.invariant.1 (omega (arith, then (goal.at.loop-t-preserved-then-left-gt0 c).After-reach_at-next)))

pub loop-t-preserved : goal.loop-t-preserved
loop-t-preserved c =
    let at = c.loop-t in
    (omega (arith, c.no_earlier-t.ensures.from), jump_unsolved _ at.t _ _ (mono c.requires) at.invariant.1 (omega (arith, then (goal.at.loop-t-preserved c).After-reach_at-next)) (asked_jump c.requires c.no_earlier-t.ensures))

pub returns : goal.returns
returns c = asked_past c.requires c.loop-t.invariant.1 c.loop-t-test.false
