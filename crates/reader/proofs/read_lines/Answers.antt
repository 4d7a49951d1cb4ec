-- `reader::read_lines` meets its contract. The invariant is `Reading`: what is left of the file decides, and the locals are what the lines above say; and the names
-- of the last part have their numbers.
-- Assumes nothing.
use Prim.Native.Nat.{ℕ, ◌-◌, ◌<◌}
use mathlib.Core.Path.{◌≡◌, refl, sym, ap, subst, ◌∙◌}
use mathlib.Core.Bool.{true}
use mathlib.Core.List.{List, []}
use lib.ListN.{length}
use native.Mathlib.Omega.{arith}
use Rattle.least.specs.Lists.{pad}
use Rattle.least.proofs.Pad.{length_pad}
use Rattle.records.specs.declared.Cursor.{Cursor}
use Rattle.records.specs.Code.Cursor.{RecordIs}
use Rattle.std.proofs.Common.{Option, Some, Ok, IsSome}
use Rattle.std.proofs.lemmas.Result.{err_from_is_err_and}
use Rattle.fields.specs.Fields.{is_name}
use Rattle.codes.specs.Code.Codes.{code_of, code_if}
use Rattle.codes.proofs.Codes.{code_named}
use Rattle.plan_file.specs.Stretches.{no_span}
use Rattle.plan_file.specs.Code.Entries.{no_task_read, none_seen, with_name, entry_of, seen_part, seen_task, seen_end}
use Rattle.plan_file.proofs.Coded.{numbers_none, numbers_with}
use Rattle.plan_file.proofs.Nothing.{no_names_is, no_task_is}
use Rattle.reader.specs.Code.Reader.{held_at}
use Rattle.reader.proofs.Reading.{Reading, reading_start, reading_too_long, turn_shortens, reading_fine, reading_refused, reading_broken, reading_over, reading_lines}
use Rattle.reader.proofs.Turns.{part_room, name_room, task_room, task_named, lock_room, lock_named, reading_part, reading_task, reading_new_lock, reading_known_lock, reading_end}
use Rattle.reader.proofs.read_lines.Goals as goal
use Rattle.reader.proofs.read_lines.Goals.{In_ok-entry-in-Record}

-- what is stored of a name is its number
code_is : (f : List ℕ) {o : Option ℕ} {x : ℕ} → o ≡ code_if f → is_name f ≡ true → o ≡ Some x → x ≡ code_of f
code_is f {o} {x} e good is = let q : Some x ≡ Some (code_of f) = sym is ∙ e ∙ code_named f good in cc

code_there : (f : List ℕ) {o : Option ℕ} → o ≡ code_if f → is_name f ≡ true → IsSome o
code_there f e good = rw (e, code_named f good) refl

-- a record was entered
record_is : (e : In_ok-entry-in-Record) → RecordIs e.args.s.now e.loop-f.c e.in-Record.shape e.in-Record.next
record_is e = rw e.in-Record.is at e.next.ensures

entered : (e : In_ok-entry-in-Record) → entry_of e.args.s.now e.loop-f.c.line e.loop-f.seen e.in-Record.shape ≡ Ok e.in_ok-entry-in-Record.entry
entered e = sym e.in_ok-entry-in-Record.ensures

shorter : (e : In_ok-entry-in-Record) → length e.args.s.now - e.in-Record.next.at < length e.args.s.now - e.loop-f.c.at
shorter e = turn_shortens (record_is e)

part_at_lem : (e : In_ok-entry-in-Record) → e.loop-f.«open» < 16
part_at_lem e = part_room e.loop-f.invariant.1 (record_is e)

pub returns-then-s-gt-FILE_LIMIT-clause-read : goal.returns-then-s-gt-FILE_LIMIT-clause-read
returns-then-s-gt-FILE_LIMIT-clause-read c = reading_too_long _ c.args.s.now (omega arith)

pub loop-f-init : goal.loop-f-init
unfolding pad
loop-f-init c =
    let a = c.args in
    let n = c.new-c in
    let start : ◌≡◌ {A = Cursor} (record { at = 0; line = a.first }) n.result = λ i. record { at = sym n.ensures.0 i; line = sym n.ensures.1 i } in
    rw (no_names_is, no_task_is)
    (refl, subst (λ (k : Cursor). Reading a.first a.s.now k none_seen 0 no_span 0 (pad 16 no_task_read []) a.f.now.parts) start (reading_start a.first a.s.now a.f.now.parts (omega arith) (omega arith)), numbers_none a.s.now _ (length_pad {A = ℕ} 16 0 []), numbers_none a.s.now _ (length_pad {A = ℕ} 16 0 []))

pub returns-then-seen-clause-read : goal.returns-then-seen-clause-read
returns-then-seen-clause-read c = reading_lines c.loop-f.invariant.1 (rw c.in-Over.is at c.next.ensures) c.if-seen.true

pub returns-in-Over-clause-read : goal.returns-in-Over-clause-read
returns-in-Over-clause-read c = reading_over c.loop-f.invariant.1 (rw c.in-Over.is at c.next.ensures) c.if-seen.false

pub returns-in-Broken-clause-read : goal.returns-in-Broken-clause-read
returns-in-Broken-clause-read c = reading_broken c.loop-f.invariant.1 (rw c.in-Broken.is at c.next.ensures)

pub slice_bounds-entry_at-end : goal.slice_bounds-entry_at-end
slice_bounds-entry_at-end c = sym c.loop-f.invariant.2.room

pub slice_bounds-entry_at-end-in-Record : goal.slice_bounds-entry_at-end-in-Record
slice_bounds-entry_at-end-in-Record c = sym c.loop-f.invariant.3.room

pub entry_at-requires : goal.entry_at-requires
entry_at-requires c =
    let h : RecordIs c.args.s.now c.loop-f.c c.in-Record.shape c.in-Record.next = rw c.in-Record.is at c.next.ensures in
    (reading_fine c.loop-f.invariant.1, c.loop-f.invariant.2, c.loop-f.invariant.3, h.fields)

pub returns-in_err-entry-in-Record-clause-read : goal.returns-in_err-entry-in-Record-clause-read
returns-in_err-entry-in-Record-clause-read c =
    let p = err_from_is_err_and c.from_residual.result c.from_residual.ensures.1 in
    let h : RecordIs c.args.s.now c.loop-f.c c.in-Record.shape c.in-Record.next = rw c.in-Record.is at c.next.ensures in
    rw (p.1, p.2) (reading_refused c.loop-f.invariant.1 h (sym c.in_err-entry-in-Record.ensures))

pub offset_bounds-f-open : goal.offset_bounds-f-open
offset_bounds-f-open c = omega (arith, part_at_lem (goal.at.offset_bounds-f-open c).In_ok-entry-in-Record)

pub bounds-f-open : goal.bounds-f-open
bounds-f-open c = part_at_lem (goal.at.bounds-f-open c).In_ok-entry-in-Record

-- there is room for what the record enters
pub bounds-seen-open : goal.bounds-seen-open
bounds-seen-open c = let e = (goal.at.bounds-seen-open c).In_ok-entry-in-Record in name_room e.loop-f.invariant.1 (record_is e) (entered e ∙ ap Ok c.in-Part.is)

pub loop-f-preserved-in-Part : goal.loop-f-preserved-in-Part
unfolding pad seen_part with_name
loop-f-preserved-in-Part c =
    let e = (goal.at.loop-f-preserved-in-Part c).In_ok-entry-in-Record in
    let v = e.loop-f.invariant in
    rw (c.closed_part.ensures, no_names_is, no_task_is)
    (v.0, reading_part v.1 (record_is e) (entered e ∙ ap Ok c.in-Part.is), numbers_none _ _ v.2.room, numbers_none _ _ v.3.room)

pub bounds-tasks-n : goal.bounds-tasks-n
bounds-tasks-n c = let e = (goal.at.bounds-tasks-n c).In_ok-entry-in-Record in task_room e.loop-f.invariant.1 (record_is e) (entered e ∙ ap Ok c.in-Task.is)

pub bounds-seen-n : goal.bounds-seen-n
bounds-seen-n c = let e = (goal.at.bounds-seen-n c).In_ok-entry-in-Record in task_room e.loop-f.invariant.1 (record_is e) (entered e ∙ ap Ok c.in-Task.is)

pub bounds-task_codes-n : goal.bounds-task_codes-n
bounds-task_codes-n c = let e = (goal.at.bounds-task_codes-n c).In_ok-entry-in-Record in task_room e.loop-f.invariant.1 (record_is e) (entered e ∙ ap Ok c.in-Task.is)

pub loop-f-preserved-in-Task : goal.loop-f-preserved-in-Task
unfolding pad seen_task with_name
loop-f-preserved-in-Task c =
    let e = (goal.at.loop-f-preserved-in-Task c).In_ok-entry-in-Record in
    let v = e.loop-f.invariant in
    let is = entered e ∙ ap Ok c.in-Task.is in
    let code = code_is _ (c.name_code.ensures ∙ ap code_if c.bytes.ensures) (task_named v.1 (record_is e) is) c.unwrap.ensures in
    let numbers = numbers_with _ _ _ v.2 c.in-Task.task_name (reading_fine v.1).tasks (task_room v.1 (record_is e) is) (task_named v.1 (record_is e) is) in
    (v.0, reading_task v.1 (record_is e) is, rw code numbers, v.3)

pub offset_bounds-seen-j : goal.offset_bounds-seen-j
offset_bounds-seen-j c = let e = (goal.at.offset_bounds-seen-j c).In_ok-entry-in-Record in omega (arith, lock_room e.loop-f.invariant.1 (record_is e) (entered e ∙ ap Ok c.in-Lock.is))

pub bounds-seen-j : goal.bounds-seen-j
bounds-seen-j c = let e = (goal.at.bounds-seen-j c).In_ok-entry-in-Record in (lock_room e.loop-f.invariant.1 (record_is e) (entered e ∙ ap Ok c.in-Lock.is)).0

pub overflow_sub-tasks : goal.overflow_sub-tasks
overflow_sub-tasks c = let e = (goal.at.overflow_sub-tasks c).In_ok-entry-in-Record in (lock_room e.loop-f.invariant.1 (record_is e) (entered e ∙ ap Ok c.in-Lock.is)).1

pub loop-f-preserved-then-j-m : goal.loop-f-preserved-then-j-m
unfolding held_at with_name
loop-f-preserved-then-j-m c =
    let e = (goal.at.loop-f-preserved-then-j-m c).In_ok-entry-in-Record in
    let v = e.loop-f.invariant in
    let is = entered e ∙ ap Ok c.in-Lock.is in
    let code = code_is _ (c.name_code-then-j-m.ensures ∙ ap code_if c.bytes-then-j-m.ensures) (lock_named v.1 (record_is e) is) c.unwrap-then-j-m.ensures in
    let room = lock_room v.1 (record_is e) is in
    let numbers = numbers_with _ _ _ v.3 c.in-Lock.lock_name (reading_fine v.1).locks (omega (arith, room, c.if-j-m.true)) (lock_named v.1 (record_is e) is) in
    (v.0, reading_new_lock v.1 (record_is e) is c.if-j-m.true, v.2, rw code numbers)

pub loop-f-preserved-else-j-m : goal.loop-f-preserved-else-j-m
unfolding held_at
loop-f-preserved-else-j-m c =
    let e = (goal.at.loop-f-preserved-else-j-m c).In_ok-entry-in-Record in
    let v = e.loop-f.invariant in
    (v.0, reading_known_lock v.1 (record_is e) (entered e ∙ ap Ok c.in-Lock.is) c.if-j-m.false, v.2, v.3)

pub unwrap-requires : goal.unwrap-requires
unwrap-requires c =
    let e = (goal.at.unwrap-requires c).In_ok-entry-in-Record in
    code_there _ (c.name_code.ensures ∙ ap code_if c.bytes.ensures) (task_named e.loop-f.invariant.1 (record_is e) (entered e ∙ ap Ok c.in-Task.is))

pub unwrap-requires-then-j-m : goal.unwrap-requires-then-j-m
unwrap-requires-then-j-m c =
    let e = (goal.at.unwrap-requires-then-j-m c).In_ok-entry-in-Record in
    code_there _ (c.name_code-then-j-m.ensures ∙ ap code_if c.bytes-then-j-m.ensures) (lock_named e.loop-f.invariant.1 (record_is e) (entered e ∙ ap Ok c.in-Lock.is))

pub offset_bounds-f-open-in-End : goal.offset_bounds-f-open-in-End
offset_bounds-f-open-in-End c = omega (arith, part_at_lem (goal.at.offset_bounds-f-open-in-End c).In_ok-entry-in-Record)

pub bounds-f-open-in-End : goal.bounds-f-open-in-End
bounds-f-open-in-End c = part_at_lem (goal.at.bounds-f-open-in-End c).In_ok-entry-in-Record

pub loop-f-preserved : goal.loop-f-preserved
unfolding seen_end
loop-f-preserved c =
    let e = (goal.at.loop-f-preserved c).In_ok-entry-in-Record in
    let v = e.loop-f.invariant in
    rw c.closed_part-in-End.ensures (v.0, reading_end v.1 (record_is e) (entered e ∙ ap Ok c.in-End.is), v.2, v.3)
