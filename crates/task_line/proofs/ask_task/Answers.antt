-- `task_line::ask_task` meets its contract: each way through it is a law of `Asking`.
-- Assumes nothing.
use mathlib.Core.Path.{◌≡◌, ◌∙◌}
use mathlib.Core.Bool.{false}
use Rattle.std.proofs.Common.{Err, rules}
use Rattle.std.specs.Option.{is_some}
use Rattle.refusal.specs.declared.Refusal.TheVariants.{BadName, BadNumber}
use Rattle.stretch.specs.Stretch.{bytes_of}
use Rattle.codes.proofs.Codes.{Coded, some_named, none_unnamed}
use Rattle.plan_file.specs.Code.Entries.{names_of, place_in}
use Rattle.plan_file.proofs.Asking.{number_is, number_none, TimesAre, times_are, separation_malformed, cost_malformed, deadline_malformed, Named, task_misplaced, task_misnamed, task_known, task_misnumbered, task_misordered, task_too_many, task_enters}
use Rattle.plan_file.proofs.Coded.{numbers_place}
use Rattle.task_line.proofs.ask_task.Goals as goal
use Rattle.task_line.proofs.ask_task.Goals.{In_ok-code, After-place_of, Else-is_some, In_ok-d}

-- behind question 5
coded : (c : In_ok-code) → let a = c.args in Coded (bytes_of a.s.now a.name) c.in_ok-code.code
coded c = some_named _ _ (cc (c.in_ok-code.ensures.ok_part))

named : (c : In_ok-code) → let a = c.args in Named a.allowed (bytes_of a.s.now a.name)
named c = record { here = c.if-not-allowed.false; good = (coded c).good }

-- the place of the name
placed : (c : After-place_of) → let a = c.args in c.place_of.result ≡ place_in (bytes_of a.s.now a.name) (names_of a.s.now a.tasks.now)
placed c =
    let d = coded (goal.at.After-place_of c).In_ok-code in
    cc (numbers_place _ _ _ c.requires.1 _ d.good, d.is)

-- behind question 6
new : (c : Else-is_some) → let a = c.args in is_some (place_in (bytes_of a.s.now a.name) (names_of a.s.now a.tasks.now)) ≡ false
new c = cc (placed (goal.at.Else-is_some c).After-place_of)

-- behind question 7
times : (c : In_ok-d) → let a = c.args in TimesAre (bytes_of a.s.now a.separation) (bytes_of a.s.now a.cost) (bytes_of a.s.now a.deadline) c.in_ok-t.t c.in_ok-c.c c.in_ok-d.d
times c = times_are _ _ _ (number_is _ _ (cc (c.in_ok-t.ensures.ok_part))) (number_is _ _ (cc (c.in_ok-c.ensures.ok_part))) (number_is _ _ (cc (c.in_ok-d.ensures.ok_part)))

pub returns-then-not-allowed : goal.returns-then-not-allowed
returns-then-not-allowed c = task_misplaced _ _ _ _ _ _ _ _ c.requires.0 (c.if-not-allowed.true)

pub returns-in_err-code : goal.returns-in_err-code
returns-in_err-code c =
    let r : c.from_residual.result ≡ Err (BadName c.args.line) = search rules in
    r ∙ task_misnamed _ _ _ _ _ _ _ _ c.requires.0 c.if-not-allowed.false (none_unnamed _ (cc (c.in_err-code.ensures.ok_part)))

pub returns-then-is_some : goal.returns-then-is_some
returns-then-is_some c =
    let e = (goal.at.returns-then-is_some c).After-place_of in
    task_known _ _ _ _ _ _ _ _ c.requires.0 (named (goal.at.After-place_of e).In_ok-code) (cc (placed e))

pub returns-in_err-t : goal.returns-in_err-t
returns-in_err-t c =
    let r : c.from_residual-in_err-t.result ≡ Err (BadNumber c.args.line) = search rules in
    let e = (goal.at.returns-in_err-t c).Else-is_some in
    r ∙ task_misnumbered _ _ _ _ _ _ _ _ c.requires.0 (named (goal.at.Else-is_some e).In_ok-code) (new e) (separation_malformed _ _ _ (number_none _ (cc (c.in_err-t.ensures.ok_part))))

pub returns-in_err-c : goal.returns-in_err-c
returns-in_err-c c =
    let r : c.from_residual-in_err-c.result ≡ Err (BadNumber c.args.line) = search rules in
    let e = (goal.at.returns-in_err-c c).Else-is_some in
    r ∙ task_misnumbered _ _ _ _ _ _ _ _ c.requires.0 (named (goal.at.Else-is_some e).In_ok-code) (new e) (cost_malformed _ _ _ (number_none _ (cc (c.in_err-c.ensures.ok_part))))

pub returns-in_err-d : goal.returns-in_err-d
returns-in_err-d c =
    let r : c.from_residual-in_err-d.result ≡ Err (BadNumber c.args.line) = search rules in
    let e = (goal.at.returns-in_err-d c).Else-is_some in
    r ∙ task_misnumbered _ _ _ _ _ _ _ _ c.requires.0 (named (goal.at.Else-is_some e).In_ok-code) (new e) (deadline_malformed _ _ _ (number_none _ (cc (c.in_err-d.ensures.ok_part))))

pub returns-then-d-c : goal.returns-then-d-c
returns-then-d-c c =
    let f = (goal.at.returns-then-d-c c).In_ok-d in
    let e = (goal.at.In_ok-d f).Else-is_some in
    task_misordered _ _ _ _ _ _ _ _ c.requires.0 (named (goal.at.Else-is_some e).In_ok-code) (new e) (times f) c.then-d-c.either

pub returns-then-tasks-ge-TASK_LIMIT : goal.returns-then-tasks-ge-TASK_LIMIT
returns-then-tasks-ge-TASK_LIMIT c =
    let f = (goal.at.returns-then-tasks-ge-TASK_LIMIT c).In_ok-d in
    let e = (goal.at.In_ok-d f).Else-is_some in
    task_too_many _ _ _ _ _ _ _ _ c.requires.0 (named (goal.at.Else-is_some e).In_ok-code) (new e) (times f) c.if-d-c.false c.if-t-d.false c.if-tasks-ge-TASK_LIMIT.true

pub returns : goal.returns
returns c =
    let f = (goal.at.returns c).In_ok-d in
    let e = (goal.at.In_ok-d f).Else-is_some in
    task_enters _ _ _ _ _ _ _ _ c.requires.0 (named (goal.at.Else-is_some e).In_ok-code) (new e) (times f) c.if-d-c.false c.if-t-d.false c.if-tasks-ge-TASK_LIMIT.false
