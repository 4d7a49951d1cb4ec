-- A file that cannot be read is refused by a question of reading.
-- Assumes nothing.
use Prim.Native.Nat.{ℕ}
use mathlib.Core.Path.{◌≡◌, refl, sym, subst}
use mathlib.Core.Bool.{Bool, true}
use mathlib.Core.List.Memᴰ
use mathlib.Core.List.{List, Memᴰ}
use Rattle.least.specs.Lists.{every}
use Rattle.least.proofs.Lists.{every_member}
use Rattle.refusal.specs.declared.Refusal.{Refusal}
use Rattle.refusal.specs.Number.{is_of_the_file}
use Rattle.refusal.specs.Questions.{Question, ask}
use Rattle.refusal.specs.Questions.Answer.{refused}
use Rattle.refusal.specs.FirstNo.{FirstNo}
use Rattle.text.specs.Bytes.{Line}
use Rattle.records.specs.Records.{Record, record_in}
use Rattle.records.specs.Records.Record.{part, task, lock, end, no_record}
use Rattle.plan_file.specs.Above.{Above}
use Rattle.plan_file.specs.Reading.{part_questions, task_questions, lock_questions, record_questions, questions_at, read_file}
use Rattle.plan_file.specs.Statement.{RefusedAt}
use Rattle.plan_file.specs.Statement.RefusedAt.{too_long, on_line, run_out}
use Rattle.plan_file.proofs.Reading.{read_refused_iff}

abbrev about_file : Question → Bool
about_file q = is_of_the_file q.refusal

record_about_file : (n : ℕ) (a : Above) (r : Record) → every about_file (record_questions n a r) ≡ true
unfolding every record_questions part_questions task_questions lock_questions
record_about_file n a (part name P) = refl
record_about_file n a (task name T C D) = refl
record_about_file n a (lock name c) = refl
record_about_file n a end = refl
record_about_file n a no_record = refl

line_about_file : (n : ℕ) (a : Above) (l : Line) → every about_file (questions_at n a l) ≡ true
unfolding every questions_at
line_about_file n a l = record_about_file n a (record_in l)

first_about_file : (qs : List Question) (r : Refusal) → every about_file qs ≡ true → FirstNo qs r → is_of_the_file r ≡ true
first_about_file qs r e f =
    every_member about_file qs e (subst (Memᴰ (ask r _)) (sym f.2) (Memᴰ.append_right f.0 (Memᴰ.head refl)))

pub read_refused_of_file : (s : List ℕ) (r : Refusal) → read_file s ≡ refused r → is_of_the_file r ≡ true
read_refused_of_file s r e = go ((read_refused_iff s r).0 e)
  where
    go : RefusedAt s r → is_of_the_file r ≡ true
    go (too_long h q) = rw q refl
    go (on_line h d) = first_about_file _ r (line_about_file _ _ d.line) d.no
    go (run_out h p b q) = rw q refl
