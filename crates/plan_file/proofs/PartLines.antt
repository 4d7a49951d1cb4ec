-- The parts of a readable file are what their own lines say.
--   part_with p r  == the part p with the record r behind its lines; a `part` record starts a new part
--   part_from p ls == the part p with the lines ls behind its own
--   part_in ls     == the part that these lines say, the first of which is its `part` line
-- Assumes nothing.
use Prim.Native.Nat.{ℕ, suc}
use mathlib.Core.Path.{◌≡◌, refl, sym, ap, ◌∙◌}
use mathlib.Core.Bool.{Bool, true, false, false≢true}
use mathlib.Core.List.{List, [], ◌∷◌, ◌++◌, map, append_assoc}
use borrow.Author.Tests.{not-true}
use Rattle.least.specs.Lists.{nth_or, last_or, on_last}
use Rattle.least.proofs.Lists.{and_iff, nth_of_map}
use Rattle.least.proofs.Last.{on_last_snoc}
use Rattle.refusal.specs.Questions.Answer.{answered}
use Rattle.refusal.specs.FirstNo.{all_yes}
use Rattle.text.specs.Bytes.{Line, lines_of}
use Rattle.scan.specs.Line.{line_is_good}
use Rattle.records.specs.Records.{Record, record_in}
use Rattle.records.specs.Records.Record.{part, task, lock, end, no_record}
use Rattle.plan_file.specs.Above.{FilePart, Above, no_part, nothing_above, parts_after, after}
use Rattle.plan_file.specs.Reading.{is_part, is_end, allowed_here, part_questions, task_questions, lock_questions, record_questions, questions_at, read_file}
use Rattle.plan_file.specs.PartLines.{own_lines, lines_by_part, lines_of_part}
use Rattle.plan_file.specs.Statement.{said, AllYes}
use Rattle.plan_file.proofs.Reading.{yes_first, yes_rest, read_answered_iff}

unfoldable pub part_with : FilePart → Record → FilePart
part_with p r = last_or no_part (parts_after (p ∷ []) r)

unfoldable pub part_from : FilePart → List Line → FilePart
part_from p [] = p
part_from p (l ∷ ls) = part_from (part_with p (record_in l)) ls

abbrev pub part_in : List Line → FilePart
part_in ls = part_from no_part ls

-- a `part` record starts a new part, another one goes to the last part
part_starts : (ps : List FilePart) (r : Record) → is_part r ≡ true → parts_after ps r ≡ ps ++ (part_with no_part r ∷ [])
unfolding is_part parts_after part_with last_or
part_starts ps (part name P) e = refl
part_starts ps (task name T C D) e = absurd (false≢true e)
part_starts ps (lock name c) e = absurd (false≢true e)
part_starts ps end e = absurd (false≢true e)
part_starts ps no_record e = absurd (false≢true e)

other_goes_last : (ps : List FilePart) (p : FilePart) (r : Record) → is_part r ≡ false → parts_after (ps ++ (p ∷ [])) r ≡ ps ++ (part_with p r ∷ [])
unfolding is_part parts_after part_with last_or on_last
other_goes_last ps p (part name P) e = absurd (false≢true (sym e))
other_goes_last ps p (task name T C D) e = on_last_snoc _ ps p
other_goes_last ps p (lock name c) e = on_last_snoc _ ps p
other_goes_last ps p end e = refl
other_goes_last ps p no_record e = refl

other_starts_none : (r : Record) → is_part r ≡ false → parts_after [] r ≡ []
unfolding is_part parts_after on_last
other_starts_none (part name P) e = absurd (false≢true (sym e))
other_starts_none (task name T C D) e = refl
other_starts_none (lock name c) e = refl
other_starts_none end e = refl
other_starts_none no_record e = refl

end_adds_none : (ps : List FilePart) (r : Record) → is_end r ≡ true → parts_after ps r ≡ ps
unfolding is_end parts_after
end_adds_none ps (part name P) e = absurd (false≢true e)
end_adds_none ps (task name T C D) e = absurd (false≢true e)
end_adds_none ps (lock name c) e = absurd (false≢true e)
end_adds_none ps end e = refl
end_adds_none ps no_record e = absurd (false≢true e)

-- nothing follows `end`
yes_allowed : (n : ℕ) (a : Above) (r : Record) → all_yes (record_questions n a r) ≡ true → allowed_here a r ≡ true
unfolding record_questions part_questions task_questions lock_questions all_yes allowed_here
yes_allowed n a (part name P) e = ((and_iff _ _).0 e).0
yes_allowed n a (task name T C D) e = ((and_iff _ _).0 e).0
yes_allowed n a (lock name c) e = ((and_iff _ _).0 e).0
yes_allowed n a end e = ((and_iff _ _).0 e).0
yes_allowed n a no_record e = e

allowed_not_behind_end : (a : Above) (r : Record) → allowed_here a r ≡ true → is_end a.directly ≡ false
unfolding allowed_here
allowed_not_behind_end a (part name P) e = not-true _ ((and_iff _ _).0 e).0
allowed_not_behind_end a (task name T C D) e = not-true _ ((and_iff _ _).0 e).0
allowed_not_behind_end a (lock name c) e = not-true _ ((and_iff _ _).0 e).0
allowed_not_behind_end a end e = not-true _ ((and_iff _ _).0 e).0
allowed_not_behind_end a no_record e = absurd (false≢true e)

nothing_behind_end : (n : ℕ) (a : Above) (ls : List Line) → AllYes n a ls → is_end a.directly ≡ true → ls ≡ []
unfolding questions_at all_yes
nothing_behind_end n a [] all e = refl
nothing_behind_end n a (l ∷ ls) all e =
    let y = ((and_iff (line_is_good l) (all_yes (record_questions n a (record_in l)))).0 (yes_first n a l ls all)).1 in
    absurd (false≢true (sym (allowed_not_behind_end a (record_in l) (yes_allowed n a (record_in l) y)) ∙ e))

-- the invariant: behind some parts and one that is open, the open part takes its own lines, and each part that follows is what its lines say
abbrev OpenByLines : Above → List FilePart → FilePart → List Line → Type 0
OpenByLines a ps p ls = (said a ls).parts ≡ ps ++ (part_from p (own_lines ls) ∷ map part_in (lines_by_part ls))

open_by_lines : (n : ℕ) (a : Above) (ps : List FilePart) (p : FilePart) (ls : List Line) → AllYes n a ls → a.parts ≡ ps ++ (p ∷ []) → OpenByLines a ps p ls
unfolding said part_from own_lines lines_by_part
open_by_lines n a ps p [] all e = e
open_by_lines n a ps p (l ∷ ls) all e =
    go (is_part (record_in l)) refl (is_end (record_in l)) refl (λ qs q. open_by_lines (suc n) (after a (record_in l)) qs q ls (yes_rest n a l ls all))
  where
    Next : Type 0
    Next = (qs : List FilePart) (q : FilePart) → parts_after a.parts (record_in l) ≡ qs ++ (q ∷ []) → OpenByLines (after a (record_in l)) qs q ls

    go : (b : Bool) → is_part (record_in l) ≡ b → (c : Bool) → is_end (record_in l) ≡ c → Next → OpenByLines a ps p (l ∷ ls)
    go true f c g next =
        simp f (next (ps ++ (p ∷ [])) (part_with no_part (record_in l)) (rw e (part_starts (ps ++ (p ∷ [])) (record_in l) f)) ∙ append_assoc ps (p ∷ []) _)
    go false f true g next =
        let none = nothing_behind_end (suc n) (after a (record_in l)) ls (yes_rest n a l ls all) g in
        rw none (simp (f, g) (end_adds_none a.parts (record_in l) g ∙ e))
    go false f false g next =
        simp (f, g) (next ps (part_with p (record_in l)) (rw e (other_goes_last ps p (record_in l) f)))

-- where no part is above
parts_by_lines : (n : ℕ) (a : Above) (ls : List Line) → AllYes n a ls → a.parts ≡ [] → (said a ls).parts ≡ map part_in (lines_by_part ls)
unfolding said part_from lines_by_part
parts_by_lines n a [] all e = e
parts_by_lines n a (l ∷ ls) all e = go (is_part (record_in l)) refl (parts_by_lines (suc n) (after a (record_in l)) ls (yes_rest n a l ls all))
  where
    Next : Type 0
    Next = parts_after a.parts (record_in l) ≡ [] → (said (after a (record_in l)) ls).parts ≡ map part_in (lines_by_part ls)

    go : (b : Bool) → is_part (record_in l) ≡ b → Next → (said (after a (record_in l)) ls).parts ≡ map part_in (lines_by_part (l ∷ ls))
    go true f next =
        simp f (open_by_lines (suc n) (after a (record_in l)) [] (part_with no_part (record_in l)) ls (yes_rest n a l ls all) (rw e (part_starts [] (record_in l) f)))
    go false f next =
        simp f (next (rw e (other_starts_none (record_in l) f)))

pub read_by_part : (s : List ℕ) (ps : List FilePart) → read_file s ≡ answered ps → ps ≡ map part_in (lines_by_part (lines_of s))
read_by_part s ps e =
    let d = (read_answered_iff s ps).0 e in
    sym d.are ∙ parts_by_lines 1 nothing_above (lines_of s) d.by.yes refl

-- the part k of a readable file is what its own lines say, whatever stands around them
pub part_by_lines : (s : List ℕ) (ps : List FilePart) (k : ℕ) → read_file s ≡ answered ps → nth_or no_part k ps ≡ part_in (lines_of_part k s)
unfolding lines_of_part part_from
part_by_lines s ps k e = ap (nth_or no_part k) (read_by_part s ps e) ∙ nth_of_map part_in [] k (lines_by_part (lines_of s))
