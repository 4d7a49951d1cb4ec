-- `questions::entry_at` meets its contract: each kind of record has its own function.
-- Assumes nothing.
use mathlib.Core.Path.{◌≡◌}
use mathlib.Core.Bool.{not, ◌&&◌}
use lib.Dec.{leb}
use native.Mathlib.Omega.{arith}
use Rattle.std.proofs.lemmas.Grind.{common_steps}
use Rattle.std.proofs.Common.{rules}
use Rattle.plan_file.specs.Code.Entries.{entry_of}
use Rattle.questions.proofs.entry_at.Goals as goal

pub returns-after-open : goal.returns-after-open
unfolding entry_of
returns-after-open c =
    let a = c.args.seen.now in
    let e : c.if-open.ask_part ≡ (not a.ended && not a.fresh) = search rules in
    simp c.in-Part.is (rw e at c.ask_part.ensures)

pub returns-after-open-2 : goal.returns-after-open-2
unfolding entry_of
returns-after-open-2 c =
    let a = c.args.seen.now in
    let e : c.if-open-2.ask_task ≡ (not a.ended && leb 1 a.parts.count) = search rules in
    simp c.in-Task.is (rw e at c.ask_task.ensures)

pub returns-after-open-3 : goal.returns-after-open-3
unfolding entry_of
returns-after-open-3 c =
    let a = c.args.seen.now in
    let e : c.if-open-3.ask_lock ≡ (not a.ended && leb 1 a.tasks.count) = search rules in
    simp c.in-Lock.is (rw e at c.ask_lock.ensures)

pub returns-after-not-seen : goal.returns-after-not-seen
unfolding entry_of
returns-after-not-seen c =
    let a = c.args.seen.now in
    let e : c.if-not-seen.ask_end ≡ (not a.ended && (not a.fresh && leb 1 a.parts.count)) = grind (arith, common_steps) in
    simp c.in-End.is (rw e at c.ask_end.ensures)

pub returns-in-Unknown : goal.returns-in-Unknown
unfolding entry_of
returns-in-Unknown c = simp c.in-Unknown.is
