-- `load::Rows::weigh` meets its contract.
-- Assumes nothing.
use native.Mathlib.Omega.{arith}
use mathlib.Core.Path.{sym, ◌∙◌}
use mathlib.Core.Bool.{not}
use mathlib.Core.Logic.{⊎_elim}
use lib.ListN.{length-take}
use Rattle.load.specs.Weigh.{row_in_range, rows_of}
use Rattle.load.proofs.Position.{place_in}
use Rattle.load.proofs.InRange.{all_in_range}
use Rattle.load.proofs.Weighing.{weigh_none, weigh_many, weigh_few, weigh_bad}
use Rattle.load.proofs.Rows.weigh.Goals as goal

pub returns-then-n-lt1 : goal.returns-then-n-lt1
returns-then-n-lt1 c =
    c.refused.ensures ∙ sym (⊎_elim (λ h. weigh_none c.args.self.now h) (λ h. weigh_many c.args.self.now h.1) c.then-n-lt1.either)

pub overflow_add-bad : goal.overflow_add-bad
unfolding rows_of
overflow_add-bad c =
    let l = place_in (λ r. not (row_in_range r)) (rows_of c.args.self.now) (sym c.first_bad.ensures ∙ c.in-Some.is) in
    omega (arith, l, length-take c.args.self.now.count c.args.self.now.rows)

pub returns-in-Some : goal.returns-in-Some
returns-in-Some c =
    c.refused-in-Some.ensures ∙ sym (weigh_bad c.args.self.now c.if-n-lt1.false c.if-n-gt-ROW_LIMIT.false (omega arith) c.in-Some.bad (sym c.first_bad.ensures ∙ c.in-Some.is))

pub weigh_in_range-requires : goal.weigh_in_range-requires
weigh_in_range-requires c = all_in_range c.args.self.now c.if-n-lt1.false c.if-n-gt-ROW_LIMIT.false (omega arith) (sym c.first_bad.ensures ∙ c.in_default.is)

pub returns : goal.returns
returns c = c.weigh_in_range.ensures ∙ sym (weigh_few c.args.self.now c.if-n-gt-ROW_LIMIT.false)
