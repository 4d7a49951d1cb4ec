-- `layout::place` meets its contract. The invariant: the part has its ticks of the periods before `from`, which is where one begins.
-- Assumes nothing.
use Prim.Native.Nat.{◌+◌}
use native.Mathlib.Omega.{arith}
use Rattle.layout.proofs.Placing.{periods_next, periods_all}
use Rattle.layout.proofs.place.Goals as goal

pub loop-from-preserved : goal.loop-from-preserved
loop-from-preserved c =
    let a = c.args in
    let l = c.loop-from in
    periods_next a.out.now a.period a.budget a.k l.from c.min.result l.out c.place_in.new.ticks (omega arith) (omega arith) l.invariant (omega arith) c.min.ensures c.place_in.ensures

-- behind the last period
pub returns-2 : goal.returns-2
returns-2 c =
    let a = c.args in
    let l = c.loop-from in
    periods_all a.out.now a.period a.budget a.k (l.from + a.period) _ (periods_next a.out.now a.period a.budget a.k l.from c.min.result l.out c.place_in.new.ticks (omega arith) (omega arith) l.invariant (omega arith) c.min.ensures c.place_in.ensures) (omega arith)
