-- `fields::read_number` meets its contract. The invariant: the digits so far spell v, and what is left decides.
-- Assumes nothing.
use Prim.Native.Nat.{◌+◌, ◌-◌, ◌*◌}
use native.Mathlib.Omega.{arith}
use mathlib.Core.Path.{◌≡◌, sym, ◌∙◌}
use lib.ListN.{drop, get_or}
use Rattle.text.specs.Decimal.{is_digit}
use Rattle.fields.specs.Code.Fields.{number_in}
use Rattle.fields.proofs.Reading.{number_from, number_start, number_empty, number_zero, number_large, number_more, number_not, number_end}
use Rattle.fields.proofs.read_number.Goals as goal
use Rattle.fields.proofs.read_number.Goals.{Else-not-is_ascii_digit}

pub returns-in_err-first : goal.returns-in_err-first
returns-in_err-first c = cc (number_empty c.args.f.now (cc (c.in_err-first.ensures.value)))

pub returns-then-branch-eq48 : goal.returns-then-branch-eq48
returns-then-branch-eq48 c = sym (number_zero c.args.f.now (cc (c.in_ok-first.ensures.value)))

pub loop-b-init : goal.loop-b-init
loop-b-init c = (omega arith, number_start _ _ (sym c.in_ok-first.ensures.value) c.if-branch-eq48.false)

pub returns-then-not-is_ascii_digit : goal.returns-then-not-is_ascii_digit
unfolding is_digit
returns-then-not-is_ascii_digit c =
    cc (number_not c.args.f.now c.loop-b.b-index c.loop-b.v (omega arith) (cc))

-- a digit more
more : (c : Else-not-is_ascii_digit) → number_in c.args.f.now ≡ number_from (c.loop-b.v * 10 + (get_or c.args.f.now c.loop-b.b-index 0 - 48)) (drop (c.loop-b.b-index + 1) c.args.f.now)
unfolding is_digit
more c = c.loop-b.invariant.1 ∙ number_more c.args.f.now c.loop-b.b-index c.loop-b.v (omega arith) (cc)

pub returns-then-v-gt-NUMBER_LIMIT : goal.returns-then-v-gt-NUMBER_LIMIT
returns-then-v-gt-NUMBER_LIMIT c =
    sym (more (goal.at.returns-then-v-gt-NUMBER_LIMIT c).Else-not-is_ascii_digit ∙ rw (← c.from.ensures) (number_large _ (drop (c.loop-b.b-index + 1) c.args.f.now) (omega arith)))

pub loop-b-preserved : goal.loop-b-preserved
loop-b-preserved c = (omega arith, rw c.from.ensures (more (goal.at.loop-b-preserved c).Else-not-is_ascii_digit))

pub returns : goal.returns
returns c =
    cc (number_end c.args.f.now c.loop-b.b-index c.loop-b.v (omega arith) c.loop-b.invariant.0)
