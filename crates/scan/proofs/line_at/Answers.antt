-- `scan::line_at` meets its contract. The invariant: some tabs ts have been passed, and the line is the one whose rest begins at i.
-- Assumes nothing.
use native.Mathlib.Omega.{arith}
use mathlib.Core.Path.{refl, sym, ap, ◌∙◌}
use mathlib.Core.List.{[], ◌∷◌, ◌++◌}
use Rattle.least.specs.Lists.{pad}
use Rattle.scan.specs.Positions.{first_five}
use Rattle.scan.proofs.Scan.{good_at, from_start, at_newline, at_forbidden, at_plain, at_tab, at_end, five_stored, five_full}
use Rattle.scan.proofs.line_at.Goals as goal
use Rattle.scan.proofs.line_at.Goals.{then-count-lt5, else-count-lt5}

pub loop-i-init : goal.loop-i-init
unfolding first_five pad
loop-i-init c = ([], refl, from_start _ _)

pub loop-i-preserved-then-is_plain : goal.loop-i-preserved-then-is_plain
loop-i-preserved-then-is_plain c =
    let s = c.args.s.now in
    (c.loop-i.invariant.0, c.loop-i.invariant.1, c.loop-i.invariant.2 ∙ at_plain s c.loop-i.i c.loop-i.invariant.0 c.loop-i-test.true (sym c.is_plain.ensures ∙ c.if-is_plain.true))

pub returns-then-b-eq10 : goal.returns-then-b-eq10
returns-then-b-eq10 c =
    ap (good_at c.loop-i.i) c.loop-i.invariant.1
    ∙ sym (c.loop-i.invariant.2 ∙ at_newline c.args.s.now c.loop-i.i c.loop-i.invariant.0 c.loop-i-test.true c.if-b-eq10.true)

pub loop-i-preserved : goal.loop-i-preserved
loop-i-preserved c =
    let s = c.args.s.now in (
      c.loop-i.invariant.0 ++ c.loop-i.i ∷ [],
      elim c.if-count-lt5.branch [
        | then-count-lt5 w ↦ rw (w.count-is, w.place-is) (five_stored _ _ c.loop-i.invariant.0 c.loop-i.i c.loop-i.invariant.1 (omega (arith, w.if-count-lt5.true)))
        | else-count-lt5 w ↦ rw (w.count-is, w.place-is) (five_full _ _ c.loop-i.invariant.0 c.loop-i.i c.loop-i.invariant.1 w.if-count-lt5.false)
      ],
      c.loop-i.invariant.2 ∙ at_tab s c.loop-i.i c.loop-i.invariant.0 c.loop-i-test.true c.if-b-ne9.false,
    )

pub returns-after-loop-i : goal.returns-after-loop-i
unfolding first_five pad
returns-after-loop-i c =
    sym (c.loop-i.invariant.2 ∙ at_end c.args.s.now c.loop-i.i c.loop-i.invariant.0 c.loop-i-test.false)

pub returns-then-b-ne9 : goal.returns-then-b-ne9
unfolding first_five pad
returns-then-b-ne9 c =
    sym (c.loop-i.invariant.2 ∙ at_forbidden c.args.s.now c.loop-i.i c.loop-i.invariant.0 c.loop-i-test.true (sym c.is_plain.ensures ∙ c.if-is_plain.false) c.if-b-ne9.true c.if-b-eq10.false)
