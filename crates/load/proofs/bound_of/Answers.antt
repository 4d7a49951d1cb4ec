-- `load::bound_of` meets its contract. The invariant: no time up to `last` is looked for, and the ratio is the least so far or sought.
-- Assumes nothing.
use Prim.Native.Nat.{◌+◌, ◌≤◌, ◌<◌}
use native.Mathlib.Omega.{arith}
use mathlib.Core.Path.{sym}
use mathlib.Core.Bool.{true}
use Rattle.least.specs.Fraction.{frac}
use Rattle.load.proofs.BoundBy.{BestBy, bound_start, bound_time, bound_found, bound_next, bound_settled, bound_none}
use Rattle.load.proofs.bound_of.Goals as goal
use Rattle.load.proofs.bound_of.Goals.{After-demand_from, In-Some}

pub loop-t-init : goal.loop-t-init
loop-t-init c = let a = c.args in bound_start a.rows.now a.s a.period a.own c.likely-best.result (omega arith) (omega arith) c.likely-best.ensures

pub returns-then-found : goal.returns-then-found
returns-then-found c =
    let a = c.args in
    let at = c.loop-t in
    sym (bound_settled a.rows.now a.s a.period a.own at.last at.best at.found _ at.invariant _ c.first_met.ensures c.in_default.is c.if-found.true)

pub returns-else-found : goal.returns-else-found
returns-else-found c =
    let a = c.args in
    let at = c.loop-t in
    sym (bound_none a.rows.now a.s a.period a.own at.last at.best at.found _ at.invariant _ c.first_met.ensures c.in_default.is c.if-found.false)

-- a time that is found is after the last and within the period
time : (c : In-Some) → (c.loop-t.last < c.in-Some.t) × (c.in-Some.t ≤ c.args.period)
time c =
    let a = c.args in
    let at = c.loop-t in
    bound_time a.rows.now a.s a.period a.own at.last at.best at.found _ at.invariant _ c.first_met.ensures _ c.in-Some.is

pub same_until-end-requires : goal.same_until-end-requires
same_until-end-requires c = let t = time c in (c.requires.0.fine, omega arith, t.1, omega arith)

pub demand_from-requires : goal.demand_from-requires
demand_from-requires c = let t = time (goal.at.demand_from-requires c).In-Some in (c.requires.0, omega arith, omega arith)

pub overflow_sub-end : goal.overflow_sub-end
overflow_sub-end c = let t = time (goal.at.overflow_sub-end c).In-Some in omega arith

-- its ratio at the end of its stretch is the least so far
least : (c : After-demand_from) → BestBy c.args.rows.now c.args.s c.args.period c.args.own c.same_until-end.result (frac (c.args.own + c.demand_from.result) c.same_until-end.result) true
least c =
    let a = c.args in
    let at = c.loop-t in
    bound_found a.rows.now a.s a.period a.own at.last at.best at.found _ at.invariant _ c.first_met.ensures _ c.in-Some.is c.requires.0 (omega arith) c.same_until-end.result c.demand_from.result c.same_until-end.ensures c.demand_from.ensures.value

pub further-best-requires : goal.further-best-requires
further-best-requires c =
    let t = time (goal.at.further-best-requires c).In-Some in
    (c.requires.0, omega arith, omega arith, omega arith, omega arith, (least (goal.at.further-best-requires c).After-demand_from).reach, omega arith)

pub loop-t-smaller : goal.loop-t-smaller
loop-t-smaller c = let t = time (goal.at.loop-t-smaller c).In-Some in omega arith

pub loop-t-preserved : goal.loop-t-preserved
loop-t-preserved c =
    let a = c.args in
    bound_next a.rows.now a.s a.period a.own c.same_until-end.result c.demand_from.result c.further-best.result (omega arith) c.demand_from.ensures.value (least (goal.at.loop-t-preserved c).After-demand_from) c.further-best.ensures
