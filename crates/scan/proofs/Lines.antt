-- A scanned line is the first of the lines that the file has from there on. Where it is good, its byte 10 and its tabs stand within the file.
-- Assumes nothing.
use Prim.Native.Nat.{ℕ, suc, ◌+◌, ◌≤◌, ◌<◌, zero-le}
use native.Mathlib.Decide.{dec_lt}
use native.Mathlib.Omega.{arith}
use mathlib.Core.Path.{◌≡◌, refl, ap, ◌∙◌}
use mathlib.Core.Bool.{Bool, true, false, false≢true}
use mathlib.Core.List.{List, [], ◌∷◌}
use lib.Dec.{eqb}
use lib.ListN.{length, drop, length-drop, get_or}
use lib.Seq.{drop-drop}
use Rattle.least.specs.Lists.{every}
use Rattle.least.proofs.Lists.{and_iff}
use Rattle.text.specs.Bytes.{Line, into_line, lines_of}
use Rattle.scan.specs.declared.Scanned.{Scanned}
use Rattle.scan.specs.Line.{is_allowed, line_is_good}
use Rattle.scan.specs.Scan.{Found}
use Rattle.scan.specs.Positions.{body_of, is_ended, first_line, tabs_from, first_five, line_at}
use Rattle.scan.proofs.Scan.{good_at}
use Rattle.scan.proofs.FirstLine.{first_scanned}

-- the first line, and the lines behind its byte 10
lines_newline : (b : ℕ) (bs : List ℕ) → eqb b 10 ≡ true → lines_of (b ∷ bs) ≡ record { body = []; ended = true } ∷ lines_of bs
unfolding lines_of
lines_newline b bs e = rw (e, lines_of) refl

lines_more : (b : ℕ) (bs : List ℕ) → eqb b 10 ≡ false → lines_of (b ∷ bs) ≡ into_line b (lines_of bs)
unfolding lines_of
lines_more b bs e = rw (e, lines_of) refl

abbrev lines_behind : List ℕ → List Line
lines_behind xs = lines_of (drop (suc (length (body_of xs))) xs)

into_first : (b : ℕ) (bs : List ℕ) → (1 ≤ length bs → lines_of bs ≡ first_line bs ∷ lines_behind bs) → into_line b (lines_of bs) ≡ record { body = b ∷ body_of bs; ended = is_ended bs } ∷ lines_behind bs
unfolding lines_of into_line body_of is_ended
into_first b [] ih = refl
into_first b (c ∷ cs) ih = ap (into_line b) (ih (omega arith))

pub lines_first : (xs : List ℕ) → 1 ≤ length xs → lines_of xs ≡ first_line xs ∷ lines_of (drop (suc (length (body_of xs))) xs)
unfolding body_of is_ended
lines_first [] h = absurd (omega arith)
lines_first (b ∷ bs) h = go (eqb b 10) refl (into_first b bs (lines_first bs))
  where
    go : (t : Bool) → eqb b 10 ≡ t → into_line b (lines_of bs) ≡ record { body = b ∷ body_of bs; ended = is_ended bs } ∷ lines_behind bs → lines_of (b ∷ bs) ≡ first_line (b ∷ bs) ∷ lines_behind (b ∷ bs)
    go true e r = lines_newline b bs e ∙ simp e
    go false e r = lines_more b bs e ∙ r ∙ simp e

-- behind the bytes of a line that is ended stands one byte more
body_ended : (xs : List ℕ) → is_ended xs ≡ true → length (body_of xs) < length xs
unfolding body_of is_ended
body_ended [] e = absurd (false≢true e)
body_ended (b ∷ bs) e = go (eqb b 10) refl (body_ended bs)
  where
    go : (t : Bool) → eqb b 10 ≡ t → (is_ended bs ≡ true → length (body_of bs) < length bs) → length (body_of (b ∷ bs)) < suc (length bs)
    go true p ih = simp p (omega arith)
    go false p ih = simp p (omega (arith, ih (simp p at e)))

-- the tabs of a line stand on it
tabs_below : (l : Line) (at : ℕ) (r : Scanned) → Found l at r → (k : ℕ) → get_or r.tabs.place k 0 ≤ at + length l.body
tabs_below l at r f k = go (dec_lt k r.tabs.count)
  where
    go : Dec (k < r.tabs.count) → get_or r.tabs.place k 0 ≤ at + length l.body
    go (yes h) = let (i, e, t) = f.place k h in omega (arith, e, t.within)
    go (no h) = rw (f.unused k (omega arith)) zero-le

module _ (s : List ℕ) (at : ℕ) where
  -- the line that begins at `at`, where its byte 10 stands, and its tabs
  abbrev pub the_line : Line
  the_line = first_line (drop at s)

  abbrev pub the_end : ℕ
  the_end = at + length the_line.body

  abbrev pub the_tabs : List ℕ
  the_tabs = tabs_from the_line.body at

  pub scanned_good : (line_at s at).good ≡ line_is_good the_line
  scanned_good = (first_scanned s at).question2

  pub lines_at : at < length s → lines_of (drop at s) ≡ the_line ∷ lines_of (drop (the_end + 1) s)
  lines_at h =
      let e : at + suc (length the_line.body) ≡ the_end + 1 = omega arith in
      lines_first (drop at s) (simp length-drop (omega arith)) ∙ ap (λ (xs : List ℕ). the_line ∷ lines_of xs) (drop-drop (suc (length the_line.body)) at s ∙ ap (λ (n : ℕ). drop n s) e)

  -- what is known of a line with a yes to question 2
  pub record GoodLine : Type 0 where
    pub scanned : line_at s at ≡ good_at the_end (first_five the_tabs)
    pub within : the_end < length s
    pub places : (j : ℕ) → get_or (line_at s at).tabs.place j 0 < length s

  pub good_line : line_is_good the_line ≡ true → GoodLine
  unfolding line_at line_is_good
  good_line g =
      let e : the_end < length s = omega (arith, simp length-drop at (body_ended (drop at s) ((and_iff (is_ended (drop at s)) (every is_allowed (body_of (drop at s)))).0 g).0)) in
      let l : line_at s at ≡ good_at the_end (first_five the_tabs) = simp g in
      record { scanned = l; within = e; places = λ j. omega (arith, tabs_below the_line at (line_at s at) ((first_scanned s at).good (scanned_good ∙ g)) j) }
