-- `lock_line::ask_lock` meets its contract: each way through it is a law of `Asking`.
-- Assumes nothing.
use Prim.Native.Nat.{◌<◌}
use mathlib.Core.Path.{◌≡◌, refl, ◌∙◌}
use Rattle.std.proofs.Common.{Err, rules}
use Rattle.refusal.specs.declared.Refusal.TheVariants.{BadName, BadNumber}
use Rattle.stretch.specs.Stretch.{bytes_of}
use Rattle.codes.proofs.Codes.{Coded, some_named, none_unnamed}
use Rattle.plan_file.specs.Code.Entries.{names_of, place_among, use_at}
use Rattle.plan_file.proofs.Asking.{number_is, number_none, Named, lock_misplaced, lock_misnamed, lock_known, lock_misnumbered, lock_held_over_cost, lock_too_many, lock_enters}
use Rattle.plan_file.proofs.Coded.{numbers_or_count}
use Rattle.lock_line.proofs.ask_lock.Goals as goal
use Rattle.lock_line.proofs.ask_lock.Goals.{In_ok-code, After-unwrap_or-j, After-unwrap_or-used, Else-used-ge1}

-- behind question 5
coded : (c : In_ok-code) → let a = c.args in Coded (bytes_of a.s.now a.name) c.in_ok-code.code
coded c = some_named _ _ (cc (c.in_ok-code.ensures.ok_part))

named : (c : In_ok-code) → let a = c.args in Named a.allowed (bytes_of a.s.now a.name)
named c = record { here = c.if-not-allowed.false; good = (coded c).good }

-- the place of the name
placed : (c : After-unwrap_or-j) → let a = c.args in c.unwrap_or-j.result ≡ place_among (bytes_of a.s.now a.name) (names_of a.s.now a.locks.now)
placed c =
    let d = coded (goal.at.After-unwrap_or-j c).In_ok-code in
    cc (numbers_or_count _ _ _ c.requires.2 c.requires.0 _ d.good, d.is)

-- behind question 6
used : (c : After-unwrap_or-used) → c.unwrap_or-used.result ≡ use_at c.args.last.now c.unwrap_or-j.result
unfolding use_at
used c = search rules

new : (c : Else-used-ge1) → use_at c.args.last.now c.unwrap_or-j.result < 1
new c = rw (← used (goal.at.Else-used-ge1 c).After-unwrap_or-used) c.if-used-ge1.false

pub returns-then-not-allowed : goal.returns-then-not-allowed
returns-then-not-allowed c = lock_misplaced _ _ _ _ _ _ _ c.requires.0 c.requires.1 _ refl (c.if-not-allowed.true)

pub returns-in_err-code : goal.returns-in_err-code
returns-in_err-code c =
    let r : c.from_residual.result ≡ Err (BadName c.args.line) = search rules in
    r ∙ lock_misnamed _ _ _ _ _ _ _ c.requires.0 c.requires.1 _ refl c.if-not-allowed.false (none_unnamed _ (cc (c.in_err-code.ensures.ok_part)))

pub returns-then-used-ge1 : goal.returns-then-used-ge1
returns-then-used-ge1 c =
    let e = (goal.at.returns-then-used-ge1 c).After-unwrap_or-used in
    let f = (goal.at.After-unwrap_or-used e).After-unwrap_or-j in
    lock_known _ _ _ _ _ _ _ c.requires.0 c.requires.1 _ (placed f) (named (goal.at.After-unwrap_or-j f).In_ok-code) (rw (← used e) c.if-used-ge1.true)

pub returns-in_err-c : goal.returns-in_err-c
returns-in_err-c c =
    let r : c.from_residual-in_err-c.result ≡ Err (BadNumber c.args.line) = search rules in
    let e = (goal.at.returns-in_err-c c).Else-used-ge1 in
    let f = (goal.at.Else-used-ge1 e).After-unwrap_or-j in
    r ∙ lock_misnumbered _ _ _ _ _ _ _ c.requires.0 c.requires.1 _ (placed f) (named (goal.at.After-unwrap_or-j f).In_ok-code) (new e) (number_none _ (cc (c.in_err-c.ensures.ok_part)))

pub returns-then-last-c : goal.returns-then-last-c
returns-then-last-c c =
    let e = (goal.at.returns-then-last-c c).Else-used-ge1 in
    let f = (goal.at.Else-used-ge1 e).After-unwrap_or-j in
    lock_held_over_cost _ _ _ _ _ _ _ c.requires.0 c.requires.1 _ (placed f) (named (goal.at.After-unwrap_or-j f).In_ok-code) (new e) (number_is _ c.in_ok-c.c (cc (c.in_ok-c.ensures.ok_part))) c.if-last-c.true

pub returns-then-j-ge-LOCK_LIMIT : goal.returns-then-j-ge-LOCK_LIMIT
returns-then-j-ge-LOCK_LIMIT c =
    let e = (goal.at.returns-then-j-ge-LOCK_LIMIT c).Else-used-ge1 in
    let f = (goal.at.Else-used-ge1 e).After-unwrap_or-j in
    lock_too_many _ _ _ _ _ _ _ c.requires.0 c.requires.1 _ (placed f) (named (goal.at.After-unwrap_or-j f).In_ok-code) (new e) (number_is _ c.in_ok-c.c (cc (c.in_ok-c.ensures.ok_part))) c.if-last-c.false c.if-j-ge-LOCK_LIMIT.true

pub returns : goal.returns
returns c =
    let e = (goal.at.returns c).Else-used-ge1 in
    let f = (goal.at.Else-used-ge1 e).After-unwrap_or-j in
    lock_enters _ _ _ _ _ _ _ c.requires.0 c.requires.1 _ (placed f) (named (goal.at.After-unwrap_or-j f).In_ok-code) (new e) (number_is _ c.in_ok-c.c (cc (c.in_ok-c.ensures.ok_part))) c.if-last-c.false c.if-j-ge-LOCK_LIMIT.false
