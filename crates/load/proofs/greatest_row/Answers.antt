-- `load::greatest_row` meets its contract. The invariant: j is the place of the first of k bounds that reaches their greatest.
-- Assumes nothing.
use Prim.Native.Nat.{ℕ, ◌<◌}
use native.Mathlib.Omega.{arith}
use native.Mathlib.Numerals.{add-one}
use mathlib.Core.Path.{◌≡◌, sym, ◌∙◌}
use lib.ListN.{get_or, length}
use lib.Seq.{take_all}
use Rattle.least.proofs.Fraction.{Ok, Leads, less_true, less_false, leads_on, leads_over, leads_in}
use Rattle.least.proofs.First.{first_greatest}
use Rattle.load.specs.Code.Rows.{no_frac}
use Rattle.load.proofs.greatest_row.Goals as goal
use Rattle.load.proofs.greatest_row.Goals.{then-is_less, else-is_less}

pub loop-k-preserved : goal.loop-k-preserved
loop-k-preserved c =
    let at = c.loop-k in
    let xs = c.args.bounds.now in
    let ok : (i : ℕ) → i < at.k → Ok (get_or xs i no_frac) = λ i h. record { some = (c.requires.0.each i (omega arith)).some } in
    elim c.if-is_less.branch [
      | then-is_less w ↦ rw w.j-is (leads_over no_frac xs at.k at.j ok at.invariant (less_true _ _ (sym c.is_less.ensures ∙ w.if-is_less.true)))
      | else-is_less w ↦ rw w.j-is (leads_on no_frac xs at.k at.j at.invariant (less_false _ _ (sym c.is_less.ensures ∙ w.if-is_less.false)))
    ]

pub returns : goal.returns
returns c =
    let at = c.loop-k in
    let xs = c.args.bounds.now in
    let e : at.k ≡ length xs = omega arith in
    let led : Leads no_frac xs (length xs) at.j = rw e at at.invariant in
    add-one at.j ∙ sym (first_greatest xs at.j (rw (take_all (length xs) xs (omega arith)) at (leads_in no_frac xs (length xs) at.j (omega arith) (λ i h. record { some = (c.requires.0.each i h).some }) led)))
