-- Questions 1 to 9 in their order, in the paper's words: when a file is refused, with which refusal and where, and when it is answered.
-- Assumes nothing.
use Prim.Native.Nat.{ℕ, suc, ◌+◌, ◌≤◌, ◌<◌}
use native.Mathlib.Nat.{add-zero}
use native.Mathlib.Omega.{arith}
use mathlib.Core.Path.{◌≡◌, refl, sym, ap, subst, ◌∙◌}
use mathlib.Core.Bool.{Bool, true, false}
use mathlib.Core.Logic.{◌⊎◌, inl, inr, ◌↔◌}
use mathlib.Core.List.{List, [], ◌∷◌, ◌++◌, append-nil}
use borrow.Author.Tests.{leb-true, leb-false, le-leb, lt-leb}
use lib.Dec.{leb}
use lib.ListN.{length}
use Rattle.least.proofs.Lists.{and_iff}
use Rattle.refusal.specs.declared.Refusal.{Refusal}
use Rattle.refusal.specs.declared.Refusal.TheVariants.{FileTooLong, Misplaced}
use Rattle.refusal.specs.declared.Outcome.{Outcome}
use Rattle.refusal.specs.declared.Outcome.TheVariants.{Done, Refused}
use Rattle.refusal.specs.Limits.{file_limit}
use Rattle.refusal.specs.Questions.{Answer, first_no, when_done}
use Rattle.refusal.specs.Questions.Answer.{answered, refused}
use Rattle.refusal.specs.FirstNo.{all_yes}
use Rattle.refusal.proofs.Answers.{answered_not_refused, answer_same_value, answer_same_refusal}
use Rattle.refusal.proofs.Questions.{refused_iff, done_iff}
use Rattle.text.specs.Bytes.{Line, lines_of}
use Rattle.scan.specs.Line.{line_is_good}
use Rattle.records.specs.Records.{Record, record_in}
use Rattle.plan_file.specs.Above.{FilePart, Above, nothing_above, after}
use Rattle.plan_file.specs.Reading.{is_end, record_questions, questions_at, read_lines, read_from, read_file}
use Rattle.plan_file.specs.Numbers.{PlanPart, plan_parts, numbered, parts_of}
use Rattle.plan_file.specs.Statement.{said, AllYes, StopsAt, RefusedAt, AnsweredBy}
use Rattle.plan_file.specs.Statement.RefusedAt.{too_long, on_line, run_out}

-- no line, one line more at the front
yes_none : (n : ℕ) (a : Above) → AllYes n a []
yes_none n a [] l behind e = absurd (omega (arith, ap length e))
yes_none n a (x ∷ xs) l behind e = absurd (omega (arith, ap length e))

yes_more : (n : ℕ) (a : Above) (l : Line) (ls : List Line) → all_yes (questions_at n a l) ≡ true → AllYes (suc n) (after a (record_in l)) ls → AllYes n a (l ∷ ls)
unfolding said
yes_more n a l ls y p [] k behind e = let q : l ≡ k = cc in rw (add-zero n, ← q) y
yes_more n a l ls y p (x ∷ xs) k behind e =
    let q : l ≡ x = cc in
    let f : ls ≡ xs ++ (k ∷ behind) = cc in
    let m : n + suc (length xs) ≡ suc n + length xs = omega arith in
    rw (m, ← q) (p xs k behind f)

pub yes_first : (n : ℕ) (a : Above) (l : Line) (ls : List Line) → AllYes n a (l ∷ ls) → all_yes (questions_at n a l) ≡ true
unfolding said
yes_first n a l ls p = rw add-zero at (p [] l ls refl)

pub yes_rest : (n : ℕ) (a : Above) (l : Line) (ls : List Line) → AllYes n a (l ∷ ls) → AllYes (suc n) (after a (record_in l)) ls
unfolding said
yes_rest n a l ls p xs k behind e =
    let m : suc n + length xs ≡ n + suc (length xs) = omega arith in
    rw m (p (l ∷ xs) k behind (ap (λ (z : List Line). l ∷ z) e))

-- what holds above the lines, and behind each record whose answers are yes, holds behind the last of them
module _ (I : Above → Type 0) (keeps : (n : ℕ) (a : Above) (r : Record) → I a → first_no (record_questions n a r) ≡ Done → I (after a r)) where
  line_keeps : (n : ℕ) (a : Above) (l : Line) → I a → all_yes (questions_at n a l) ≡ true → I (after a (record_in l))
  unfolding questions_at all_yes
  line_keeps n a l h e =
      keeps n a (record_in l) h ((done_iff (record_questions n a (record_in l))).1 ((and_iff (line_is_good l) (all_yes (record_questions n a (record_in l)))).0 e).1)

  lines_keep : (n : ℕ) (a : Above) (ls : List Line) → I a → AllYes n a ls → I (said a ls)
  unfolding said
  lines_keep n a [] h all = h
  lines_keep n a (l ∷ ls) h all = lines_keep (suc n) (after a (record_in l)) ls (line_keeps n a l h (yes_first n a l ls all)) (yes_rest n a l ls all)

-- a line whose answers are yes is passed over, one with a no is refused
pub read_next : (n : ℕ) (a : Above) (l : Line) (ls : List Line) → first_no (questions_at n a l) ≡ Done → read_lines n a (l ∷ ls) ≡ read_lines (suc n) (after a (record_in l)) ls
unfolding read_lines
read_next n a l ls e = rw (e, read_lines) refl

pub read_stop : (n : ℕ) (a : Above) (l : Line) (ls : List Line) (r : Refusal) → first_no (questions_at n a l) ≡ Refused r → read_lines n a (l ∷ ls) ≡ refused r
unfolding read_lines
read_stop n a l ls r e = rw (e, read_lines) refl

read_ended : (n : ℕ) (a : Above) → is_end a.directly ≡ true → read_lines n a [] ≡ answered a.parts
unfolding read_lines
read_ended n a e = simp e

read_run_out : (n : ℕ) (a : Above) → is_end a.directly ≡ false → read_lines n a [] ≡ refused (Misplaced n)
unfolding read_lines
read_run_out n a e = simp e

-- lines whose answers are yes are read past
read_past : (n : ℕ) (a : Above) (before behind : List Line) → AllYes n a before → read_lines n a (before ++ behind) ≡ read_lines (n + length before) (said a before) behind
unfolding said
read_past n a [] behind p = rw add-zero refl
read_past n a (l ∷ ls) behind p =
    let m : n + suc (length ls) ≡ suc n + length ls = omega arith in
    rw m (read_next n a l (ls ++ behind) ((done_iff (questions_at n a l)).1 (yes_first n a l ls p)) ∙ read_past (suc n) (after a (record_in l)) ls behind (yes_rest n a l ls p))

stops_here : (n : ℕ) (a : Above) (l : Line) (ls : List Line) (r : Refusal) → first_no (questions_at n a l) ≡ Refused r → StopsAt n a (l ∷ ls) r
unfolding said
stops_here n a l ls r e = record { before = []; line = l; behind = ls; lines = refl; yes = yes_none n a; no = rw add-zero ((refused_iff (questions_at n a l) r).0 e) }

stops_later : (n : ℕ) (a : Above) (l : Line) (ls : List Line) (r : Refusal) → all_yes (questions_at n a l) ≡ true → StopsAt (suc n) (after a (record_in l)) ls r → StopsAt n a (l ∷ ls) r
unfolding said
stops_later n a l ls r y d =
    let m : n + suc (length d.before) ≡ suc n + length d.before = omega arith in
    record { before = l ∷ d.before; line = d.line; behind = d.behind; lines = ap (λ (z : List Line). l ∷ z) d.lines; yes = yes_more n a l d.before y d.yes; no = rw m d.no }

-- either no line has a no, or there is a first one
abbrev Passed : ℕ → Above → List Line → Type 0
Passed n a ls = AllYes n a ls ⊎ ((r : Refusal) × StopsAt n a ls r)

passed : (n : ℕ) (a : Above) (ls : List Line) → Passed n a ls
passed n a [] = inl (yes_none n a)
passed n a (l ∷ ls) = go (first_no (questions_at n a l)) refl (passed (suc n) (after a (record_in l)) ls)
  where
    go : (o : Outcome) → first_no (questions_at n a l) ≡ o → Passed (suc n) (after a (record_in l)) ls → Passed n a (l ∷ ls)
    go Done e (inl p) = inl (yes_more n a l ls ((done_iff (questions_at n a l)).0 e) p)
    go Done e (inr d) = inr (d.0, stops_later n a l ls d.0 ((done_iff (questions_at n a l)).0 e) d.1)
    go (Refused r) e k = inr (r, stops_here n a l ls r e)

-- a file that is too long is refused, another is its lines
pub read_too_long : (n : ℕ) (s : List ℕ) → file_limit < length s → read_from n s ≡ refused FileTooLong
unfolding read_from first_no when_done
read_too_long n s h = simp (lt-leb (length s) file_limit h)

pub read_lines_lem : (n : ℕ) (s : List ℕ) → length s ≤ file_limit → read_from n s ≡ read_lines n nothing_above (lines_of s)
unfolding read_from first_no when_done
read_lines_lem n s h = simp (le-leb (length s) file_limit h)

read_all : (s : List ℕ) → length s ≤ file_limit → AllYes 1 nothing_above (lines_of s) → read_file s ≡ read_lines (1 + length (lines_of s)) (said nothing_above (lines_of s)) []
read_all s h p = read_lines_lem 1 s h ∙ (ap (read_lines 1 nothing_above) (sym (append-nil (lines_of s))) ∙ read_past 1 nothing_above (lines_of s) [] p)

refused_so : (s : List ℕ) (r : Refusal) → RefusedAt s r → read_file s ≡ refused r
refused_so s r (too_long h e) = read_too_long 1 s h ∙ ap refused (sym e)
refused_so s r (on_line h d) =
    read_lines_lem 1 s h ∙ (ap (read_lines 1 nothing_above) d.lines ∙ (read_past 1 nothing_above d.before (d.line ∷ d.behind) d.yes ∙ read_stop _ _ d.line d.behind r ((refused_iff _ r).1 d.no)))
refused_so s r (run_out h p e q) = read_all s h p ∙ (read_run_out _ _ e ∙ ap refused (sym q))

-- a readable file, before its parts are numbered
pub record ReadAs (s : List ℕ) (ps : List FilePart) : Type 0 where
  pub by : AnsweredBy s (plan_parts ps)
  pub are : (said nothing_above (lines_of s)).parts ≡ ps

said_so : (s : List ℕ) (ps : List PlanPart) → AnsweredBy s ps → read_file s ≡ answered (said nothing_above (lines_of s)).parts
said_so s ps d = read_all s d.fits d.yes ∙ read_ended _ _ d.ended

answered_so : (s : List ℕ) (ps : List FilePart) → ReadAs s ps → read_file s ≡ answered ps
answered_so s ps d = said_so s (plan_parts ps) d.by ∙ ap answered d.are

-- every file is refused or answered
abbrev Known : List ℕ → Type 0
Known s = ((r : Refusal) × RefusedAt s r) ⊎ ((ps : List FilePart) × ReadAs s ps)

ends_known : (s : List ℕ) → length s ≤ file_limit → AllYes 1 nothing_above (lines_of s) → Known s
ends_known s h p = go (is_end (said nothing_above (lines_of s)).directly) refl
  where
    go : (b : Bool) → is_end (said nothing_above (lines_of s)).directly ≡ b → Known s
    go true e = inr ((said nothing_above (lines_of s)).parts, record { by = record { fits = h; yes = p; ended = e; are = refl }; are = refl })
    go false e = inl (Misplaced (1 + length (lines_of s)), run_out h p e refl)

lines_known : (s : List ℕ) → length s ≤ file_limit → Passed 1 nothing_above (lines_of s) → Known s
lines_known s h (inl p) = ends_known s h p
lines_known s h (inr d) = inl (d.0, on_line h d.1)

file_known : (s : List ℕ) → Known s
file_known s = go (leb (length s) file_limit) refl
  where
    go : (b : Bool) → leb (length s) file_limit ≡ b → Known s
    go true e = lines_known s (leb-true (length s) file_limit e) (passed 1 nothing_above (lines_of s))
    go false e = inl (FileTooLong, too_long (leb-false (length s) file_limit e) refl)

pub read_refused_iff : (s : List ℕ) (r : Refusal) → (read_file s ≡ refused r) ↔ RefusedAt s r
read_refused_iff s r = (λ e. go e (file_known s), refused_so s r)
  where
    go : read_file s ≡ refused r → Known s → RefusedAt s r
    go e (inl d) = subst (RefusedAt s) (answer_same_refusal (sym (refused_so s d.0 d.1) ∙ e)) d.1
    go e (inr d) = absurd (answered_not_refused (sym (answered_so s d.0 d.1) ∙ e))

pub read_answered_iff : (s : List ℕ) (ps : List FilePart) → (read_file s ≡ answered ps) ↔ ReadAs s ps
read_answered_iff s ps = (λ e. go e (file_known s), answered_so s ps)
  where
    go : read_file s ≡ answered ps → Known s → ReadAs s ps
    go e (inl d) = absurd (answered_not_refused (sym e ∙ refused_so s d.0 d.1))
    go e (inr d) = subst (ReadAs s) (answer_same_value (sym (answered_so s d.0 d.1) ∙ e)) d.1

-- the same of the parts as they are numbered
pub parts_refused_iff : (s : List ℕ) (r : Refusal) → (parts_of s ≡ refused r) ↔ RefusedAt s r
unfolding numbered
parts_refused_iff s r = (λ e. (read_refused_iff s r).0 (go (read_file s) refl e), λ d. ap numbered (refused_so s r d))
  where
    go : (a : Answer (List FilePart)) → read_file s ≡ a → parts_of s ≡ refused r → read_file s ≡ refused r
    go (answered ps) h e = absurd (answered_not_refused (sym (ap numbered h) ∙ e))
    go (refused x) h e = h ∙ ap refused (answer_same_refusal (sym (ap numbered h) ∙ e))

-- what was read behind the numbers
pub parts_read : (s : List ℕ) (qs : List PlanPart) → parts_of s ≡ answered qs → (ps : List FilePart) × (read_file s ≡ answered ps) × (plan_parts ps ≡ qs)
unfolding numbered
parts_read s qs e = go (read_file s) refl
  where
    go : (a : Answer (List FilePart)) → read_file s ≡ a → (ps : List FilePart) × (read_file s ≡ answered ps) × (plan_parts ps ≡ qs)
    go (answered ps) h = (ps, h, answer_same_value (sym (ap numbered h) ∙ e))
    go (refused x) h = absurd (answered_not_refused (sym e ∙ ap numbered h))

pub parts_answered_iff : (s : List ℕ) (qs : List PlanPart) → (parts_of s ≡ answered qs) ↔ AnsweredBy s qs
unfolding numbered
parts_answered_iff s qs = (to, λ d. ap numbered (said_so s qs d) ∙ ap answered d.are)
  where
    to : parts_of s ≡ answered qs → AnsweredBy s qs
    to e = let p = parts_read s qs e in subst (AnsweredBy s) p.2 ((read_answered_iff s p.0).0 p.1).by

pub read_keeps : (I : Above → Type 0) → ((n : ℕ) (a : Above) (r : Record) → I a → first_no (record_questions n a r) ≡ Done → I (after a r)) → I nothing_above
    → (s : List ℕ) (ps : List FilePart) → read_file s ≡ answered ps → I (said nothing_above (lines_of s))
read_keeps I keeps h s ps e = lines_keep I keeps 1 nothing_above (lines_of s) h ((read_answered_iff s ps).0 e).by.yes
