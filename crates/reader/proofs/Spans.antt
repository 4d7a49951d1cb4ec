-- Where the names of the parts stand, line by line.
--   spans_read n opened name all         == the stretches of the names of n parts: those of the closed ones, and that of the open one
--   Spanned s at n opened name all ended == those of the lines before `at`, and those from there on are the file's; behind the end all are stored
-- Assumes nothing.
use Prim.Native.Nat.{ℕ, zero, suc, ◌+◌, ◌-◌, ◌≤◌, ◌<◌}
use native.Mathlib.Numerals.{add-one}
use native.Mathlib.Omega.{arith}
use mathlib.Core.Path.{◌≡◌, refl, sym, ap, ap₂, ◌∙◌}
use mathlib.Core.Bool.{Bool, true, false, false≢true}
use mathlib.Core.List.{List, [], ◌∷◌, ◌++◌, map, map-append, append_assoc, append-nil}
use lib.ListN.{length, take, drop, set, drop_of_length-le}
use lib.Seq.{take-suc-set, take-set-le}
use Rattle.text.specs.Bytes.{lines_of}
use Rattle.stretch.specs.declared.Span.{Span}
use Rattle.records.specs.declared.Shape.{Shape}
use Rattle.records.specs.declared.Shape.TheVariants.{Part}
use Rattle.records.specs.declared.Cursor.{Cursor}
use Rattle.records.specs.Records.{Record}
use Rattle.records.specs.Code.Cursor.{record_as, RecordIs}
use Rattle.plan_file.specs.Stretches.{no_span, span_on, spans_from, name_spans}
use Rattle.reader.specs.declared.PartRead.{PartRead}

abbrev names_in : List PartRead → List Span
names_in ps = map (λ p. p.name) ps

abbrev pub spans_read : ℕ → ℕ → Span → List PartRead → List Span
spans_read zero opened name all = []
spans_read (suc n) opened name all = names_in (take opened all) ++ (name ∷ [])

pub record Spanned (s : List ℕ) (at n opened : ℕ) (name : Span) (all : List PartRead) (ended : Bool) : Type 0 where
  pub spans : name_spans s ≡ spans_read n opened name all ++ spans_from at (lines_of (drop at s))
  pub complete : ended ≡ true → names_in (take n all) ≡ spans_read n opened name all

pub spanned_start : (s : List ℕ) (all : List PartRead) → Spanned s 0 0 0 no_span all false
unfolding name_spans
spanned_start s all = record { spans = refl; complete = λ e. absurd (false≢true e) }

-- with the open part stored, all are stored
stored : (n opened : ℕ) (name : Span) (all : List PartRead) (p : PartRead) → opened ≡ n - 1 → opened < length all → p.name ≡ name → names_in (take n (set all opened p)) ≡ spans_read n opened name all
stored zero opened name all p e h is = refl
stored (suc n) opened name all p e h is =
    let k : suc n ≡ suc opened = omega arith in
    ap (λ (m : ℕ). names_in (take m (set all opened p))) k ∙ ap names_in (take-suc-set all opened p h)
    ∙ map-append (λ p. p.name) (take opened all) (p ∷ []) ∙ ap (λ (x : Span). names_in (take opened all) ++ (x ∷ [])) is

store_behind : (n opened : ℕ) (name : Span) (all : List PartRead) (p : PartRead) → spans_read n opened name (set all opened p) ≡ spans_read n opened name all
store_behind zero opened name all p = refl
store_behind (suc n) opened name all p = ap (λ (ps : List PartRead). names_in ps ++ (name ∷ [])) (take-set-le opened all opened p (omega arith))

module _ (s : List ℕ) (c : Cursor) (r : Shape) (next : Cursor) (at : RecordIs s c r next) where
  line_spans : spans_from c.at (lines_of (drop c.at s)) ≡ span_on c.at (record_as s r) ++ spans_from next.at (lines_of (drop next.at s))
  unfolding spans_from
  line_spans =
      ap (spans_from c.at) at.lines
      ∙ ap₂ (λ (x : Record) (k : ℕ). span_on c.at x ++ spans_from k (lines_of (drop next.at s))) at.is (sym at.behind)

  module _ (n opened : ℕ) (name : Span) (all : List PartRead) (ended : Bool) (before : Spanned s c.at n opened name all ended) where
    pub spanned_same : span_on c.at (record_as s r) ≡ [] → Spanned s next.at n opened name all false
    spanned_same e = record {
      spans = before.spans ∙ ap (λ (xs : List Span). spans_read n opened name all ++ xs) (line_spans ∙ ap (λ (xs : List Span). xs ++ spans_from next.at (lines_of (drop next.at s))) e);
      complete = λ f. absurd (false≢true f);
    }

    module _ (p : PartRead) (open_is : opened ≡ n - 1) (room : opened < length all) (is : p.name ≡ name) where
      pub spanned_end : span_on c.at (record_as s r) ≡ [] → Spanned s next.at n opened name (set all opened p) true
      spanned_end e = record {
        spans = (spanned_same e).spans ∙ ap (λ (xs : List Span). xs ++ spans_from next.at (lines_of (drop next.at s))) (sym (store_behind n opened name all p));
        complete = λ f. stored n opened name all p open_is room is ∙ sym (store_behind n opened name all p);
      }

      pub spanned_part : (nm P : Span) → r ≡ Part nm P → Spanned s next.at (n + 1) n nm (set all opened p) false
      unfolding span_on record_as
      spanned_part nm P shape =
          let rest = spans_from next.at (lines_of (drop next.at s)) in
          let here : span_on c.at (record_as s r) ≡ nm ∷ [] = ap (λ (x : Shape). span_on c.at (record_as s x)) shape ∙ ap (λ (x : Span). x ∷ []) (sym (at.named nm P shape)) in
          record {
            spans =
                before.spans ∙ ap (λ (xs : List Span). spans_read n opened name all ++ xs) (line_spans ∙ ap (λ (xs : List Span). xs ++ rest) here)
                ∙ sym (append_assoc (spans_read n opened name all) (nm ∷ []) rest)
                ∙ ap (λ (xs : List Span). (xs ++ (nm ∷ [])) ++ rest) (sym (stored n opened name all p open_is room is))
                ∙ ap (λ (m : ℕ). spans_read m n nm (set all opened p) ++ rest) (sym (add-one n));
            complete = λ f. absurd (false≢true f);
          }

-- at the end of the file all names are read
pub spanned_all : (s : List ℕ) (at n opened : ℕ) (name : Span) (all : List PartRead) → Spanned s at n opened name all true → length s ≤ at → names_in (take n all) ≡ name_spans s
unfolding spans_from lines_of
spanned_all s at n opened name all done h =
    done.complete refl ∙ sym (append-nil (spans_read n opened name all))
    ∙ ap (λ (rest : List ℕ). spans_read n opened name all ++ spans_from at (lines_of rest)) (sym (drop_of_length-le s {i = at} (omega arith))) ∙ sym done.spans
