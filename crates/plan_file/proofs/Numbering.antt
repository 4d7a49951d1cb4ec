-- Whatever number the first line has, the same files are readable, with the same parts; so their lock names are good and few.
-- Assumes nothing.
use Prim.Native.Nat.{ℕ, suc}
use mathlib.Core.Path.{◌≡◌, refl, sym, ap, ◌∙◌}
use mathlib.Core.Bool.{Bool, true, false, ◌&&◌}
use mathlib.Core.List.{List, [], ◌∷◌}
use borrow.Author.Tests.{leb-true, leb-false}
use lib.Dec.{leb}
use lib.ListN.{length}
use Rattle.refusal.specs.declared.Outcome.{Outcome}
use Rattle.refusal.specs.declared.Outcome.TheVariants.{Done, Refused}
use Rattle.refusal.specs.Limits.{file_limit}
use Rattle.refusal.specs.Questions.{first_no}
use Rattle.refusal.specs.Questions.Answer.{answered}
use Rattle.refusal.specs.FirstNo.{all_yes}
use Rattle.refusal.proofs.Answers.{answered_not_refused}
use Rattle.refusal.proofs.Questions.{done_iff}
use Rattle.text.specs.Bytes.{Line, lines_of}
use Rattle.scan.specs.Line.{line_is_good}
use Rattle.records.specs.Records.{Record, record_in}
use Rattle.records.specs.Records.Record.{part, task, lock, end, no_record}
use Rattle.plan_file.specs.Above.{FilePart, Above, nothing_above, after}
use Rattle.plan_file.specs.Reading.{is_end, part_questions, task_questions, lock_questions, record_questions, questions_at, read_lines, read_from}
use Rattle.plan_file.proofs.Reading.{read_next, read_stop, read_too_long, read_lines_lem}
use Rattle.plan_file.proofs.Fine.{AllFine, read_fine}

-- the answers do not depend on the line's number
yes_any : (n m : ℕ) (a : Above) (r : Record) → all_yes (record_questions n a r) ≡ all_yes (record_questions m a r)
unfolding record_questions part_questions task_questions lock_questions all_yes
yes_any n m a (part name P) = refl
yes_any n m a (task name T C D) = refl
yes_any n m a (lock name c) = refl
yes_any n m a end = refl
yes_any n m a no_record = refl

done_any : (n m : ℕ) (a : Above) (l : Line) → first_no (questions_at n a l) ≡ Done → first_no (questions_at m a l) ≡ Done
unfolding questions_at all_yes
done_any n m a l e =
    (done_iff (questions_at m a l)).1 (ap (λ (b : Bool). line_is_good l && b) (yes_any m n a (record_in l)) ∙ (done_iff (questions_at n a l)).0 e)

lines_any : (n m : ℕ) (a : Above) (ls : List Line) (ps : List FilePart) → read_lines n a ls ≡ answered ps → read_lines m a ls ≡ answered ps
unfolding read_lines
lines_any n m a [] ps e = go (is_end a.directly) refl
  where
    go : (b : Bool) → is_end a.directly ≡ b → read_lines m a [] ≡ answered ps
    go true h = simp h (simp h at e)
    go false h = absurd (answered_not_refused (sym (simp h at e)))
lines_any n m a (l ∷ ls) ps e = go (first_no (questions_at n a l)) refl (lines_any (suc n) (suc m) (after a (record_in l)) ls ps)
  where
    go : (o : Outcome) → first_no (questions_at n a l) ≡ o → (read_lines (suc n) (after a (record_in l)) ls ≡ answered ps → read_lines (suc m) (after a (record_in l)) ls ≡ answered ps) → read_lines m a (l ∷ ls) ≡ answered ps
    go Done h ih = read_next m a l ls (done_any n m a l h) ∙ ih (sym (read_next n a l ls h) ∙ e)
    go (Refused r) h ih = absurd (answered_not_refused (sym e ∙ read_stop n a l ls r h))

pub read_any : (n m : ℕ) (s : List ℕ) (ps : List FilePart) → read_from n s ≡ answered ps → read_from m s ≡ answered ps
read_any n m s ps e = go (leb (length s) file_limit) refl
  where
    go : (b : Bool) → leb (length s) file_limit ≡ b → read_from m s ≡ answered ps
    go true h =
        let l = leb-true (length s) file_limit h in
        read_lines_lem m s l ∙ lines_any n m nothing_above (lines_of s) ps (sym (read_lines_lem n s l) ∙ e)
    go false h = absurd (answered_not_refused (sym e ∙ read_too_long n s (leb-false (length s) file_limit h)))

pub read_from_fine : (n : ℕ) (s : List ℕ) (ps : List FilePart) → read_from n s ≡ answered ps → AllFine ps
read_from_fine n s ps e = read_fine s ps (read_any n 1 s ps e)
