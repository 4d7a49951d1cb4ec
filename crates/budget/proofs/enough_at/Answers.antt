-- `budget::enough_at` meets its contract. The invariant: the least budget that is enough is from `least` to `most`.
-- Assumes nothing.
use Prim.Native.Nat.{ℕ, ◌+◌, ◌≤◌}
use mathlib.Core.Path.{ap, ◌∙◌}
use native.Mathlib.Omega.{arith}
use lib.ListN.{get_or}
use Rattle.task_set.specs.Blocking.{need_of}
use Rattle.budget.specs.Code.Passing.{due_task, above, enough_from}
use Rattle.budget.proofs.Asked.{need_is}
use Rattle.budget.proofs.Enough.{enough_none, enough_up, enough_end}
use Rattle.budget.proofs.enough_at.Goals as goal
use Rattle.budget.proofs.enough_at.Goals.{Start}

-- what the task needs
abbrev needed : Start → ℕ
needed s = need_of s.args.b (due_task s.args.tasks.now.costs s.args.i s.args.t) (above s.args.tasks.now s.args.i) s.args.t

-- the task's own C and its blocking are a part of it
owns : (s : Start) → get_or s.args.tasks.now.costs s.args.i 0 + s.args.b ≤ needed s
unfolding need_of
owns s = omega arith

pub returns-then-t-own : goal.returns-then-t-own
returns-then-t-own c =
    let s = (goal.at.returns-then-t-own c).Start in
    enough_none c.args.period (needed s) c.args.t c.args.from c.args.to c.requires.5 c.requires.7 (omega (arith, owns s))

pub returns-then-t-need : goal.returns-then-t-need
returns-then-t-need c =
    enough_none c.args.period _ c.args.t c.args.from c.args.to c.requires.5 c.requires.7 (omega (arith, need_is c.args.tasks.now c.args.i c.args.b c.args.t c.args.t _ c.demand_from.ensures.value, c.if-t-need.true))

pub loop-least-preserved : goal.loop-least-preserved
loop-least-preserved c =
    let at = c.loop-least in
    enough_up c.args.period _ c.args.t c.args.from c.args.to c.requires.5 c.requires.7 at.least at.most at.invariant _ _ (omega arith) (omega arith) c.reach_at.ensures c.if-reach_at-t.false

pub returns : goal.returns
returns c =
    let at = c.loop-least in
    c.then_some.ensures
    ∙ enough_end c.args.period _ c.args.t c.args.from c.args.to c.requires.5 c.requires.7 at.least at.most at.invariant c.loop-least-test.false
    ∙ ap (λ (x : ℕ). enough_from c.args.period x c.args.t c.args.from c.args.to) (need_is c.args.tasks.now c.args.i c.args.b c.args.t c.args.t _ c.demand_from.ensures.value)
