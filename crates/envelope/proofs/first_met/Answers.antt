-- `envelope::first_met` meets its contract. The invariant: the demand is met at no time from `start` on before t. A step and a jump keep it.
-- Assumes nothing.
use Prim.Native.Nat.{ℕ, ◌+◌, ◌*◌}
use mathlib.Core.Path.{◌≡◌, sym, ap, ◌∙◌}
use native.Mathlib.Omega.{arith}
use Rattle.least.specs.Round.{ceil_div}
use Rattle.least.proofs.Round.{div_ceil_is}
use Rattle.envelope.proofs.Meeting.{meeting_time, met_past, met_over, met_here, met_step, met_jump}
use Rattle.envelope.proofs.first_met.Goals as goal
use Rattle.envelope.proofs.first_met.Goals.{After-div_ceil-next}

-- the next time is that at which what is asked for in t ticks is given
next_is : (c : After-div_ceil-next) →
    let a = c.args in
    let w = a.rows.now in
    c.div_ceil-next.result ≡ meeting_time w.periods w.costs w.count a.s a.own a.by c.loop-t.t
unfolding meeting_time
next_is c =
    let by = c.args.by in
    c.div_ceil-next.ensures ∙ div_ceil_is _ by.rate c.args.by.fine.some ∙ ap (λ (x : ℕ). ceil_div (by.times * (c.args.own + x) + by.wait) by.rate) c.demand_from.ensures.value

pub returns-then-limit-x : goal.returns-then-limit-x
returns-then-limit-x c =
    let at = c.loop-t in
    sym (met_over _ _ _ _ _ _ c.requires.0 _ _ _ at.invariant.0 at.invariant.1 c.loop-t-test.true (omega (arith, c.if-limit-x.true, c.demand_from.ensures.value)))

pub returns-then-next-t : goal.returns-then-next-t
returns-then-next-t c =
    let at = c.loop-t in
    sym (met_here _ _ _ _ _ _ c.requires.0 _ _ _ at.invariant.0 at.invariant.1 c.loop-t-test.true (omega (arith, next_is (goal.at.returns-then-next-t c).After-div_ceil-next)))

pub loop-t-preserved-then-left-gt0 : goal.loop-t-preserved-then-left-gt0
loop-t-preserved-then-left-gt0 c =
    let at = c.loop-t in
    (omega (arith, at.invariant.0), met_step _ _ _ _ _ _ c.requires.0 _ c.args.limit _ at.invariant.0 at.invariant.1 _ (next_is (goal.at.loop-t-preserved-then-left-gt0 c).After-div_ceil-next))

pub loop-t-preserved : goal.loop-t-preserved
loop-t-preserved c =
    let at = c.loop-t in
    (omega (arith, at.invariant.0, c.no_earlier-t.ensures.from), met_jump _ _ _ _ _ _ c.requires.0 _ c.args.limit _ at.invariant.0 at.invariant.1 _ _ (next_is (goal.at.loop-t-preserved c).After-div_ceil-next) c.no_earlier-t.ensures)

pub returns : goal.returns
returns c =
    let at = c.loop-t in
    sym (met_past _ _ _ _ _ _ c.requires.0 _ _ _ at.invariant.0 at.invariant.1 c.loop-t-test.false)
