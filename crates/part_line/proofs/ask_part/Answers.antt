-- `part_line::ask_part` meets its contract: each way through it is a law of `Asking`.
-- Assumes nothing.
use mathlib.Core.Path.{◌≡◌, ◌∙◌}
use mathlib.Core.Bool.{false}
use Rattle.std.proofs.Common.{Err, rules}
use Rattle.refusal.specs.declared.Refusal.TheVariants.{BadNumber}
use Rattle.std.specs.Option.{is_some}
use Rattle.stretch.specs.Stretch.{bytes_of}
use Rattle.plan_file.specs.Code.Entries.{names_of, place_in}
use Rattle.plan_file.proofs.Asking.{number_is, number_none, Named, part_misplaced, part_misnamed, part_known, part_misnumbered, part_too_many, part_enters}
use Rattle.part_line.proofs.ask_part.Goals as goal
use Rattle.part_line.proofs.ask_part.Goals.{Else-is_some, Else-not-is_name}

-- behind question 5
named : (c : Else-not-is_name) → let a = c.args in Named a.allowed (bytes_of a.s.now a.name)
named c = record { here = c.if-not-allowed.false; good = cc }

-- behind question 6
new : (c : Else-is_some) → let a = c.args in is_some (place_in (bytes_of a.s.now a.name) (names_of a.s.now a.parts.now)) ≡ false
new c = cc

pub returns-then-not-allowed : goal.returns-then-not-allowed
returns-then-not-allowed c = part_misplaced _ _ _ _ _ _ c.requires (c.if-not-allowed.true)

pub returns-then-not-is_name : goal.returns-then-not-is_name
returns-then-not-is_name c = part_misnamed _ _ _ _ _ _ c.requires (c.if-not-allowed.false) (cc)

pub returns-then-is_some : goal.returns-then-is_some
returns-then-is_some c = part_known _ _ _ _ _ _ c.requires (named (goal.at.returns-then-is_some c).Else-not-is_name) (cc)

pub returns-in_err-p : goal.returns-in_err-p
returns-in_err-p c =
    let r : c.from_residual.result ≡ Err (BadNumber c.args.line) = search rules in
    let e = (goal.at.returns-in_err-p c).Else-is_some in
    r ∙ part_misnumbered _ _ _ _ _ _ c.requires (named (goal.at.Else-is_some e).Else-not-is_name) (new e) (number_none _ (cc (c.in_err-p.ensures.ok_part)))

pub returns-then-parts-ge-PART_LIMIT : goal.returns-then-parts-ge-PART_LIMIT
returns-then-parts-ge-PART_LIMIT c =
    let e = (goal.at.returns-then-parts-ge-PART_LIMIT c).Else-is_some in
    part_too_many _ _ _ _ _ _ c.requires (named (goal.at.Else-is_some e).Else-not-is_name) (new e) (number_is _ c.in_ok-p.p (cc (c.in_ok-p.ensures.ok_part))) c.if-parts-ge-PART_LIMIT.true

pub returns : goal.returns
returns c =
    let e = (goal.at.returns c).Else-is_some in
    part_enters _ _ _ _ _ _ c.requires (named (goal.at.Else-is_some e).Else-not-is_name) (new e) (number_is _ c.in_ok-p.p (cc (c.in_ok-p.ensures.ok_part))) c.if-parts-ge-PART_LIMIT.false
