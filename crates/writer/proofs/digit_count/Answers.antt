-- `writer::digit_count` meets its contract. The invariant: k digits are counted but one, and those of the rest are left.
-- Assumes nothing.
use mathlib.Core.Path.{◌≡◌, ap}
use lib.ListN.{length}
use native.Mathlib.Omega.{arith}
use Rattle.text.specs.Decimal.{digits_of}
use Rattle.writer.proofs.Digits.{digits_one, digits_more_length, digits_most}
use Rattle.writer.proofs.digit_count.Goals as goal

pub loop-rest-init : goal.loop-rest-init
loop-rest-init c = (omega arith, omega arith, omega arith)

pub loop-rest-preserved : goal.loop-rest-preserved
loop-rest-preserved c =
    let l = c.loop-rest in
    (omega arith, omega arith, omega (arith, l.invariant.2, digits_more_length l.rest (omega arith)))

pub returns : goal.returns
returns c =
    let l = c.loop-rest in
    let n = c.args.n in
    let one = ap length (digits_one l.rest (omega arith)) in
    let r : l.k ≡ length (digits_of n) = omega (arith, l.invariant.2, one) in
    (r, omega (arith, digits_most n (omega arith)))
