-- `layout::place_in` meets its contract. The invariant: of the first ticks those that the part gets are its own, and `left` are left of its budget.
-- Assumes nothing.
use Rattle.std.proofs.lemmas.List.{set-get_or}
use native.Mathlib.Omega.{arith}
use Rattle.layout.proofs.Placing.{placing_start, placing_free, placing_taken, placing_done}
use Rattle.layout.proofs.place_in.Goals as goal
use Rattle.layout.proofs.place_in.Goals.{then-tick-eq0, else-tick-eq0}

pub loop-tick-init : goal.loop-tick-init
loop-tick-init c = placing_start _ _ _

pub returns-then-left-eq0 : goal.returns-then-left-eq0
returns-then-left-eq0 c =
    let a = c.args in
    let l = c.loop-tick in
    rw (set-get_or l.ticks l.tick-index 0) (placing_done a.ticks.now a.budget a.k l.tick-index l.ticks (rw c.if-left-eq0.true at l.invariant) (omega arith))

pub loop-tick-preserved : goal.loop-tick-preserved
loop-tick-preserved c =
    let a = c.args in
    let l = c.loop-tick in
    elim c.if-tick-eq0.branch [
      | then-tick-eq0 w ↦ rw (w.ticks-is, w.left-is) (placing_free a.ticks.now a.budget a.k l.tick-index l.left l.ticks l.invariant (omega arith) (omega arith) w.if-tick-eq0.true)
      | else-tick-eq0 w ↦ rw (w.ticks-is, w.left-is, set-get_or) (placing_taken a.ticks.now a.budget a.k l.tick-index l.left l.ticks l.invariant w.if-tick-eq0.false)
    ]
