-- `records::shape_of` meets its contract: at each branch the tests that led there decide `shape_by`.
-- Assumes nothing.
use mathlib.Core.Path.{◌≡◌, sym, ◌∙◌}
use Rattle.text.specs.Bytes.{bytes}
use Rattle.records.specs.declared.Shape.TheVariants.{Part, Task, Lock, End, Unknown}
use Rattle.records.proofs.Records.{shape_by, shape_by_word}
use Rattle.records.proofs.shape_of.Goals as goal

pub returns-then-has : goal.returns-then-has
unfolding bytes
returns-then-has c =
    let e : Part c.field_of.result c.field_of-then-has.result ≡ shape_by c.args.w.now c.args.l.now = simp (sym c.has.ensures ∙ c.if-has.true, c.field_of.ensures, c.field_of-then-has.ensures) in
    e ∙ shape_by_word _ _

pub returns-then-has-2 : goal.returns-then-has-2
unfolding bytes
returns-then-has-2 c =
    let e : Task c.field_of-then-has-2.result c.field_of-then-has-2-2.result c.field_of-then-has-2-3.result c.field_of-then-has-2-4.result ≡ shape_by c.args.w.now c.args.l.now =
    simp (sym c.has.ensures ∙ c.if-has.false, sym c.has-else-has.ensures ∙ c.if-has-2.true, c.field_of-then-has-2.ensures, c.field_of-then-has-2-2.ensures, c.field_of-then-has-2-3.ensures, c.field_of-then-has-2-4.ensures) in
    e ∙ shape_by_word _ _

pub returns-then-has-3 : goal.returns-then-has-3
unfolding bytes
returns-then-has-3 c =
    let e : Lock c.field_of-then-has-3.result c.field_of-then-has-3-2.result ≡ shape_by c.args.w.now c.args.l.now =
    simp (sym c.has.ensures ∙ c.if-has.false, sym c.has-else-has.ensures ∙ c.if-has-2.false, sym c.has-else-has-2.ensures ∙ c.if-has-3.true, c.field_of-then-has-3.ensures, c.field_of-then-has-3-2.ensures) in
    e ∙ shape_by_word _ _

pub returns-then-has-4 : goal.returns-then-has-4
unfolding bytes
returns-then-has-4 c =
    let e : End ≡ shape_by c.args.w.now c.args.l.now =
    simp (sym c.has.ensures ∙ c.if-has.false, sym c.has-else-has.ensures ∙ c.if-has-2.false, sym c.has-else-has-2.ensures ∙ c.if-has-3.false, sym c.has-else-has-3.ensures ∙ c.if-has-4.true) in
    e ∙ shape_by_word _ _

pub returns-else-has-4 : goal.returns-else-has-4
unfolding bytes
returns-else-has-4 c =
    let e : Unknown ≡ shape_by c.args.w.now c.args.l.now =
    simp (sym c.has.ensures ∙ c.if-has.false, sym c.has-else-has.ensures ∙ c.if-has-2.false, sym c.has-else-has-2.ensures ∙ c.if-has-3.false, sym c.has-else-has-3.ensures ∙ c.if-has-4.false) in
    e ∙ shape_by_word _ _
