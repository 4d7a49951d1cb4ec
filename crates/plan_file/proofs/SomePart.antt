-- A file that can be read has a part.
--   PartSeen a == an `end` line stands behind a part
-- Assumes nothing.
use Prim.Native.Nat.{ℕ, ◌≤◌}
use mathlib.Core.Path.{◌≡◌}
use mathlib.Core.Bool.{true, false≢true}
use mathlib.Core.List.{List}
use lib.ListN.{length}
use Rattle.least.proofs.Lists.{and_iff, not_empty}
use Rattle.refusal.specs.declared.Outcome.TheVariants.{Done}
use Rattle.refusal.specs.Questions.{first_no}
use Rattle.refusal.specs.Questions.Answer.{answered}
use Rattle.refusal.specs.FirstNo.{all_yes}
use Rattle.refusal.proofs.Questions.{done_iff}
use Rattle.records.specs.Records.{Record}
use Rattle.records.specs.Records.Record.{part, task, lock, end, no_record}
use Rattle.plan_file.specs.Above.{Above, FilePart, after, parts_after}
use Rattle.plan_file.specs.Reading.{is_end, not_behind_end, not_behind_part, part_above, allowed_here, record_questions, read_file}
use Rattle.plan_file.proofs.Reading.{read_answered_iff, read_keeps}

abbrev PartSeen : Above → Type 0
PartSeen a = is_end a.directly ≡ true → 1 ≤ length a.parts

record_seen : (n : ℕ) (a : Above) (r : Record) → first_no (record_questions n a r) ≡ Done → PartSeen (after a r)
unfolding is_end record_questions allowed_here parts_after all_yes
record_seen n a (part name P) e h = absurd (false≢true h)
record_seen n a (task name T C D) e h = absurd (false≢true h)
record_seen n a (lock name c) e h = absurd (false≢true h)
record_seen n a end e h =
    let yes-here = ((and_iff _ _).0 ((done_iff (record_questions n a end)).0 e)).0 in
    not_empty a.parts ((and_iff (not_behind_part a) (part_above a)).0 ((and_iff (not_behind_end a) _).0 yes-here).1).1
record_seen n a no_record e h = absurd (false≢true h)

pub read_some : (s : List ℕ) (ps : List FilePart) → read_file s ≡ answered ps → 1 ≤ length ps
unfolding is_end
read_some s ps e =
    let d = (read_answered_iff s ps).0 e in
    rw d.are at (read_keeps PartSeen (λ n a r seen. record_seen n a r) (λ h. absurd (false≢true h)) s ps e d.by.ended)
