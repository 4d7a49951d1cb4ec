-- `envelope::line_from` meets its contract. The invariant: the line so far, with what those from the place k on ask for, is not above the whole.
-- Assumes nothing.
use Prim.Native.Nat.{suc, ◌+◌, ◌*◌, ◌≤◌, ◌<◌}
use lib.ListN.{get_or}
use native.Mathlib.Numerals.{add-one}
use native.Mathlib.Omega.{arith}
use Rattle.least.proofs.Round.{ceil_under}
use Rattle.demand.specs.Code.Demand.{demand_limit}
use Rattle.demand.proofs.Demand.{demand_most}
use Rattle.envelope.proofs.Under.{Under, under_fixed_most, under_fixed, under_slope}
use Rattle.envelope.proofs.line_from.Goals as goal
use Rattle.envelope.proofs.line_from.Goals.{then-far-m, else-far-m}
use Rattle.envelope.proofs.line_from.Goals.{After-releases-m}

pub overflow_mul-m : goal.overflow_mul-m
overflow_mul-m c =
    let fine = c.requires.0.fine in
    let k = c.loop-k.k in
    let next : c.releases-m.result * get_or c.args.rows.now.periods k 0 < c.args.t + get_or c.args.rows.now.periods k 0 = rw c.releases-m.ensures (ceil_under _ _ (fine.some k c.loop-k-test.true)) in
    omega (arith, fine.most k c.loop-k-test.true)

-- the line with a task that does not come again
counted : (c : After-releases-m) →
    let w = c.args.rows.now in
    let line = c.loop-k.line in
    Under w.periods w.costs w.count c.args.s c.args.t (line.fixed + c.releases-m.result * get_or w.costs c.loop-k.k 0) line.slope (suc c.loop-k.k)
counted c = under_fixed _ _ _ _ _ c.requires.0 _ _ _ c.loop-k.invariant c.loop-k-test.true _ c.releases-m.ensures

-- it is within the limit of a demand
counted_most : (c : After-releases-m) → c.loop-k.line.fixed + c.releases-m.result * get_or c.args.rows.now.costs c.loop-k.k 0 ≤ demand_limit
counted_most c =
    let w = c.args.rows.now in
    omega (arith, under_fixed_most w.periods w.costs w.count c.args.s c.args.t _ _ _ (counted c), demand_most w.periods w.costs w.count c.requires.0 c.args.t c.requires.2 c.args.s)

pub overflow_mul-line : goal.overflow_mul-line
overflow_mul-line c = omega (arith, counted_most (goal.at.overflow_mul-line c).After-releases-m)

pub overflow_add-line : goal.overflow_add-line
overflow_add-line c = omega (arith, counted_most (goal.at.overflow_add-line c).After-releases-m)

pub loop-k-preserved : goal.loop-k-preserved
loop-k-preserved c =
    rw add-one
    (elim c.if-far-m.branch [
      | then-far-m w ↦ rw w.line-is (counted (goal.at.loop-k-preserved c).After-releases-m)
      | else-far-m w ↦
          rw w.line-is
          (under_slope _ _ _ _ _ c.requires.0 _ _ _ c.loop-k.invariant c.loop-k-test.true _ w.steeper.ensures)
    ])
