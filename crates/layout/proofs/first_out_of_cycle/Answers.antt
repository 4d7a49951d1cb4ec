-- `layout::first_out_of_cycle` meets its contract. The invariant: the periods of the first k rows divide the ticks of a cycle.
-- Assumes nothing.
use Rattle.std.specs.Prelude.{option_map}
use Prim.Native.Nat.{◌+◌}
use native.Mathlib.Omega.{arith}
use mathlib.Core.Path.{sym, ap}
use mathlib.Core.Bool.{not}
use borrow.Author.Tests.{eq-eqb, ne_eqb}
use Rattle.least.proofs.First.{none_more, first_is, first_is_none}
use Rattle.load.specs.Weigh.{rows_of}
use Rattle.load.specs.Code.Rows.{no_row}
use Rattle.load.proofs.Position.{first_place, first_no_place}
use Rattle.layout.specs.Layout.{in_cycle}
use Rattle.layout.proofs.first_out_of_cycle.Goals as goal

pub returns-then-r-ne0 : goal.returns-then-r-ne0
unfolding rows_of in_cycle
returns-then-r-ne0 c =
    let rows = rows_of c.args.rows.now in
    ap (option_map (λ k. k + 1)) (sym (first_place (λ r. not (in_cycle r)) rows (first_is no_row (λ r. not (in_cycle r)) c.loop-k.k rows (omega arith) (ap not (ne_eqb _ _ c.if-r-ne0.true)) c.loop-k.invariant)))

pub loop-k-preserved : goal.loop-k-preserved
unfolding rows_of in_cycle
loop-k-preserved c = none_more no_row (λ r. not (in_cycle r)) (rows_of c.args.rows.now) c.loop-k.k c.loop-k.invariant (ap not (eq-eqb _ _ c.if-r-ne0.false))

pub returns : goal.returns
unfolding rows_of
returns c =
    let rows = rows_of c.args.rows.now in
    ap (option_map (λ k. k + 1)) (sym (first_no_place (λ r. not (in_cycle r)) rows (first_is_none no_row (λ r. not (in_cycle r)) rows (λ i h. c.loop-k.invariant i (omega arith)))))
