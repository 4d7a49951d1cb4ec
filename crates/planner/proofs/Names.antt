-- The names of the parts of a readable file are the bytes of the stretches of its `part` lines.
-- Assumes nothing.
use Prim.Native.Nat.{ℕ, suc, ◌+◌}
use native.Mathlib.Omega.{arith}
use mathlib.Core.Path.{◌≡◌, refl, sym, ap, ap₂, ◌∙◌}
use mathlib.Core.Bool.{Bool, true, false, cond}
use mathlib.Core.List.{List, [], ◌∷◌, ◌++◌, map, append-nil, append_assoc, map-append, map-map}
use lib.ListN.{length, length-append}
use lib.Seq.{take-append_seam, drop-append-add}
use Rattle.least.specs.Lists.{joined, nth_or}
use Rattle.least.proofs.Last.{map_on_last}
use Rattle.least.proofs.Lists.{and_iff, nth_of_map}
use Rattle.refusal.specs.FirstNo.{all_yes}
use Rattle.stretch.specs.Stretch.{bytes_of}
use Rattle.text.specs.Bytes.{bytes, same, Line, lines_of, fields_of, line_of}
use Rattle.text.proofs.Bytes.{line_bytes, lines_join, fields_join, same_true}
use Rattle.scan.specs.Line.{line_is_good}
use Rattle.records.specs.Records.{Record, record_of, record_in, name_span}
use Rattle.records.specs.Records.Record.{part, task, lock, end, no_record}
use Rattle.plan_file.specs.Above.{FilePart, Above, nothing_above, parts_after, after}
use Rattle.plan_file.specs.Stretches.{no_span, span_on, spans_from, name_spans}
use Rattle.plan_file.specs.Reading.{questions_at, part_names}
use Rattle.plan_file.specs.Statement.{said, AllYes, AnsweredBy}
use Rattle.plan_file.specs.Numbers.{PlanPart, plan_part, no_plan_part, part_at}
use Rattle.plan_file.proofs.Reading.{yes_first, yes_rest}

-- the fields of a `part`
part_fields : (fs : List (List ℕ)) (name P : List ℕ) → record_of fs ≡ part name P → fs ≡ bytes "part" ∷ name ∷ P ∷ []
unfolding record_of
part_fields [] name P e = let z : ◌≡◌ {A = ℕ} 0 1 = cc e in absurd (omega arith)
part_fields (w ∷ []) name P e = go (same w (bytes "end")) e
  where
    go : (b : Bool) → cond b end no_record ≡ part name P → w ∷ [] ≡ bytes "part" ∷ name ∷ P ∷ []
    go true q = let z : ◌≡◌ {A = ℕ} 0 1 = cc q in absurd (omega arith)
    go false q = let z : ◌≡◌ {A = ℕ} 0 1 = cc q in absurd (omega arith)
part_fields (w ∷ a ∷ []) name P e = let z : ◌≡◌ {A = ℕ} 0 1 = cc e in absurd (omega arith)
part_fields (w ∷ a ∷ b ∷ []) name P e = go (same w (bytes "part")) refl (same w (bytes "lock")) e
  where
    go : (x : Bool) → same w (bytes "part") ≡ x → (y : Bool) → cond x (part a b) (cond y (lock a b) no_record) ≡ part name P → w ∷ a ∷ b ∷ [] ≡ bytes "part" ∷ name ∷ P ∷ []
    go true f y q = let i : a ≡ name = cc q in let j : b ≡ P = cc q in rw (same_true w (bytes "part") f, i, j) refl
    go false f true q = let z : ◌≡◌ {A = ℕ} 0 1 = cc q in absurd (omega arith)
    go false f false q = let z : ◌≡◌ {A = ℕ} 0 1 = cc q in absurd (omega arith)
part_fields (w ∷ a ∷ b ∷ c ∷ []) name P e = let z : ◌≡◌ {A = ℕ} 0 1 = cc e in absurd (omega arith)
part_fields (w ∷ a ∷ b ∷ c ∷ d ∷ []) name P e = go (same w (bytes "task")) e
  where
    go : (x : Bool) → cond x (task a b c d) no_record ≡ part name P → w ∷ a ∷ b ∷ c ∷ d ∷ [] ≡ bytes "part" ∷ name ∷ P ∷ []
    go true q = let z : ◌≡◌ {A = ℕ} 0 1 = cc q in absurd (omega arith)
    go false q = let z : ◌≡◌ {A = ℕ} 0 1 = cc q in absurd (omega arith)
part_fields (w ∷ a ∷ b ∷ c ∷ d ∷ f ∷ fs) name P e = let z : ◌≡◌ {A = ℕ} 0 1 = cc e in absurd (omega arith)

part_line : (body name P : List ℕ) → record_of (fields_of body) ≡ part name P → body ++ (10 ∷ []) ≡ bytes "part" ++ (9 ∷ (name ++ (9 ∷ (P ++ (10 ∷ [])))))
unfolding line_of
part_line body name P e = sym (fields_join body) ∙ ap line_of (part_fields (fields_of body) name P e)

-- a line after the bytes `front`
module _ (s front : List ℕ) (l : Line) (rest : List ℕ) (is : s ≡ front ++ ((l.body ++ (10 ∷ [])) ++ rest)) where
  name_there : (name P : List ℕ) → record_in l ≡ part name P → bytes_of s (name_span (length front) name) ≡ name
  unfolding bytes_of bytes
  name_there name P e =
      rw (is, drop-append-add front ((l.body ++ (10 ∷ [])) ++ rest) 5, part_line l.body name P e, append_assoc name (9 ∷ (P ++ (10 ∷ []))) rest) (take-append_seam name ((9 ∷ (P ++ (10 ∷ []))) ++ rest))

  one_more : (ps : List FilePart) (r : Record) → record_in l ≡ r → part_names (parts_after ps r) ≡ part_names ps ++ map (bytes_of s) (span_on (length front) r)
  unfolding parts_after span_on
  one_more ps (part name P) e = map-append (λ p. p.name) ps _ ∙ ap (λ (n : List ℕ). part_names ps ++ (n ∷ [])) (sym (name_there name P e))
  one_more ps (task name T C D) e = map_on_last (λ p. p.name) _ ps (λ p. refl) ∙ sym (append-nil (part_names ps))
  one_more ps (lock name c) e = map_on_last (λ p. p.name) _ ps (λ p. refl) ∙ sym (append-nil (part_names ps))
  one_more ps end e = sym (append-nil (part_names ps))
  one_more ps no_record e = sym (append-nil (part_names ps))

line_ended : (n : ℕ) (a : Above) (l : Line) → all_yes (questions_at n a l) ≡ true → l.ended ≡ true
unfolding questions_at all_yes line_is_good
line_ended n a l e = ((and_iff l.ended _).0 ((and_iff _ _).0 e).0).0

names_from : (s front : List ℕ) (n : ℕ) (a : Above) (ls : List Line) → AllYes n a ls → s ≡ front ++ joined (map line_bytes ls) → part_names (said a ls).parts ≡ part_names a.parts ++ map (bytes_of s) (spans_from (length front) ls)
unfolding said spans_from joined
names_from s front n a [] all is = sym (append-nil (part_names a.parts))
names_from s front n a (l ∷ ls) all is =
    let ended = line_ended n a l (yes_first n a l ls all) in
    let rest = joined (map line_bytes ls) in
    let line = l.body ++ (10 ∷ []) in
    let here : s ≡ front ++ (line ++ rest) = is ∙ ap (λ (b : Bool). front ++ ((l.body ++ cond b (10 ∷ []) []) ++ rest)) ended in
    let at : length (front ++ line) ≡ length front + suc (length l.body) = omega (arith, length-append front line, length-append l.body (10 ∷ [])) in
    let later = names_from s (front ++ line) (suc n) (after a (record_in l)) ls (yes_rest n a l ls all) (here ∙ sym (append_assoc front line rest)) in
    let first = one_more s front l rest here a.parts (record_in l) refl in
    later ∙ ap₂ (λ (x : List (List ℕ)) (k : ℕ). x ++ map (bytes_of s) (spans_from k ls)) first at
    ∙ append_assoc (part_names a.parts) _ _
    ∙ ap (λ (x : List (List ℕ)). part_names a.parts ++ x) (sym (map-append (bytes_of s) (span_on (length front) (record_in l)) _))

pub names_stretches : (s : List ℕ) (ps : List PlanPart) → AnsweredBy s ps → map (bytes_of s) (name_spans s) ≡ map (λ p. p.name) ps
unfolding name_spans
names_stretches s ps d =
    sym (names_from s [] 1 nothing_above (lines_of s) d.yes (sym (lines_join s))) ∙ sym (map-map (λ (p : PlanPart). p.name) (plan_part (said nothing_above (lines_of s)).parts) (said nothing_above (lines_of s)).parts) ∙ ap (map (λ (p : PlanPart). p.name)) d.are

pub name_stretch_lem : (s : List ℕ) (ps : List PlanPart) (k : ℕ) → AnsweredBy s ps → bytes_of s (nth_or no_span k (name_spans s)) ≡ (part_at ps k).name
unfolding bytes_of
name_stretch_lem s ps k d = sym (nth_of_map (bytes_of s) no_span k (name_spans s)) ∙ ap (nth_or [] k) (names_stretches s ps d) ∙ nth_of_map (λ p. p.name) no_plan_part k ps
