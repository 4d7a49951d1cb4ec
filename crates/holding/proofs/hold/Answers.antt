-- `holding::hold` meets its contract. The invariant: no number below w is a solution. A step and a jump keep it, at rest w is the least, and past the limit
-- there is none.
-- Assumes nothing.
use Prim.Native.Nat.{◌+◌}
use mathlib.Core.Path.{◌≡◌, sym}
use native.Mathlib.Omega.{arith}
use Rattle.least.proofs.Iterate.{step_unsolved, jump_unsolved, at_rest, past_limit}
use Rattle.task_set.specs.Code.ByColumn.{times_of}
use Rattle.task_set.proofs.Times.{times_demand, times_fine}
use Rattle.holding.specs.Code.Search.{hold_up_to}
use Rattle.holding.proofs.Iteration.{hold_need, times_mono, whole_jump}
use Rattle.holding.proofs.hold.Goals as goal
use Rattle.holding.proofs.hold.Goals.{After-demand_from}

pub demand_from-requires : goal.demand_from-requires
demand_from-requires c = (times_fine c.args.tasks.now c.requires.0, omega arith, omega arith)

-- what the code computes is the need at w
is : (c : After-demand_from) → c.args.g + c.demand_from.result ≡ hold_need (times_of c.args.tasks.now) c.args.g c.args.r c.loop-w.w
is c = omega (arith, c.demand_from.ensures.value, times_demand c.args.tasks.now c.args.r c.loop-w.w)

pub loop-w-preserved-then-left-gt0 : goal.loop-w-preserved-then-left-gt0
loop-w-preserved-then-left-gt0 c =
    let a = c.args in
    let at = c.loop-w in
    (omega arith, step_unsolved _ at.w _ (times_mono a.tasks.now c.requires.0 a.g a.r) at.invariant.1 (omega (arith, is (goal.at.loop-w-preserved-then-left-gt0 c).After-demand_from)))

pub loop-w-preserved : goal.loop-w-preserved
loop-w-preserved c =
    let a = c.args in
    let at = c.loop-w in
    let far = whole_jump a.tasks.now a.g a.r at.w _ _ c.no_earlier-w.ensures in
    (omega (arith, c.no_earlier-w.ensures.from), jump_unsolved _ at.w _ _ (times_mono a.tasks.now c.requires.0 a.g a.r) at.invariant.1 (omega (arith, is (goal.at.loop-w-preserved c).After-demand_from)) far)

pub returns-then-limit-w : goal.returns-then-limit-w
unfolding hold_up_to
returns-then-limit-w c = sym (past_limit _ c.loop-w.w c.args.limit c.loop-w.invariant.1 c.if-limit-w.true)

pub returns-then-next-w : goal.returns-then-next-w
unfolding hold_up_to
returns-then-next-w c =
    let at = c.loop-w in
    sym (at_rest _ at.w c.args.limit at.invariant.1 at.invariant.0 (omega arith) (omega (arith, is (goal.at.returns-then-next-w c).After-demand_from)))
