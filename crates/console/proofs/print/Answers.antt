-- `console::print` meets its contract: behind a plan the buffer holds the listing; behind a refusal its line is written over zeros.
-- Assumes nothing.
use native.Mathlib.Omega.{arith}
use Rattle.std.proofs.Common.{◌≤◌, ℕ, subst}
use Rattle.std.proofs.lemmas.List.{length-replicate}
use Rattle.console.proofs.Prints.{refusal_room, print_listing, print_refusal, plan_within}
use Rattle.console.proofs.print.Goals as goal

pub write_refusal-count-requires : goal.write_refusal-count-requires
write_refusal-count-requires c =
    let p = c.plan-p in
    omega (arith, refusal_room c.number-number.result c.place-place.result p.new.out (omega arith) (omega arith) (omega arith))

pub returns-in-Done-clause-bytes : goal.returns-in-Done-clause-bytes
returns-in-Done-clause-bytes c =
    let a = c.args in
    let p = c.plan-p in
    print_listing a.file.now p.result p.new.out p.ensures c.in-Done.is

pub returns-in-Refused-clause-bytes : goal.returns-in-Refused-clause-bytes
returns-in-Refused-clause-bytes c =
    let a = c.args in
    let p = c.plan-p in
    let r = c.in-Refused in
    let n = c.number-number in
    let k = c.place-place in
    let w = c.write_refusal-count in
    print_refusal a.file.now p.result p.new.out p.ensures r.field-0 r.is n.result k.result n.ensures k.ensures (omega arith) (omega arith) w.new.out w.result w.ensures

pub returns-in-Done-clause-room : goal.returns-in-Done-clause-room
returns-in-Done-clause-room c =
    let p = c.plan-p in
    subst (λ (k : ℕ). p.result.written ≤ k) (length-replicate {A = ℕ} 8192 0) (plan_within c.args.file.now _ p.result p.new.out p.ensures)

pub returns-in-Refused-clause-room : goal.returns-in-Refused-clause-room
returns-in-Refused-clause-room c =
    let room = refusal_room c.number-number.result c.place-place.result c.plan-p.new.out (omega arith) (omega arith) (omega arith) in
    omega (arith, room, c.write_refusal-count.ensures.place)
