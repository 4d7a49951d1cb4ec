-- What stands at a cursor, from the line that was scanned there.
-- Assumes nothing.
use Prim.Native.Nat.{ℕ, ◌+◌, ◌<◌, ◌≤◌}
use native.Mathlib.Numerals.{add-one}
use native.Mathlib.Omega.{arith}
use mathlib.Core.Path.{◌≡◌, sym, ap, subst, ◌∙◌}
use mathlib.Core.Bool.{Bool, true, false}
use mathlib.Core.List.{List}
use lib.ListN.{length, get_or}
use Rattle.stretch.specs.Stretch.{bytes_of}
use Rattle.scan.specs.declared.Scanned.{Scanned}
use Rattle.scan.specs.Line.{line_is_good}
use Rattle.scan.specs.Positions.{first_five, line_at}
use Rattle.scan.proofs.Scan.{good_at}
use Rattle.scan.proofs.Lines.{the_line, the_end, the_tabs, scanned_good, lines_at, GoodLine, good_line}
use Rattle.records.specs.declared.Shape.{Shape}
use Rattle.records.specs.declared.Cursor.{Cursor}
use Rattle.records.specs.Code.Shapes.{first_field, word_of, shape_of}
use Rattle.records.specs.Code.Cursor.{record_as, FieldsWithin, RecordIs, BrokenIs}
use Rattle.records.proofs.Records.{record_line}
use Rattle.records.proofs.Names.{name_stands}
use Rattle.records.proofs.Within.{shape_within}

module _ (s : List ℕ) (c : Cursor) (l : Scanned) (is : l ≡ line_at s c.at) where
  good_of : {b : Bool} → l.good ≡ b → line_is_good (the_line s c.at) ≡ b
  good_of g = sym (scanned_good s c.at) ∙ (sym (ap (λ (x : Scanned). x.good) is) ∙ g)

  good_known : l.good ≡ true → GoodLine s c.at
  good_known g = good_line s c.at (good_of g)

  pub tabs_within : l.good ≡ true → (j : ℕ) → get_or l.tabs.place j 0 ≤ length s
  tabs_within g j = let h : get_or (line_at s c.at).tabs.place j 0 ≤ length s = omega (arith, (good_known g).places j) in rw is h

  pub tabs_before : l.good ≡ true → (j : ℕ) → get_or l.tabs.place j 0 < length s
  tabs_before g j = rw is ((good_known g).places j)

  scanned : l.good ≡ true → l ≡ good_at (the_end s c.at) (first_five (the_tabs s c.at))
  scanned g = is ∙ (good_known g).scanned

  pub end_within : l.good ≡ true → l.end < length s
  end_within g = rw (scanned g) (good_known g).within

  pub record_at : (r : Shape) → l.good ≡ true → c.at < length s → r ≡ shape_of (word_of (bytes_of s (first_field c.at l))) l → RecordIs s c r (record { at = l.end + 1; line = c.line + 1 })
  record_at r g h e =
      record {
        line = the_line s c.at;
        lines = rw (scanned g) (lines_at s c.at h);
        good = good_of g;
        is = record_line s c.at ∙ ap (record_as s) (rw (scanned g) at (sym e));
        named = λ name P h. name_stands s c.at l (tabs_within g) name P (sym e ∙ h);
        numbered = add-one c.line;
        behind = rw (scanned g) (omega arith);
        within = rw (scanned g) (omega (arith, (good_known g).within));
        fields = subst (FieldsWithin s) (sym e) (shape_within s l (tabs_before g) (end_within g) (word_of (bytes_of s (first_field c.at l))));
      }

  pub broken_at : l.good ≡ false → c.at < length s → BrokenIs s c
  broken_at g h = record { line = the_line s c.at; behind = _; lines = lines_at s c.at h; bad = good_of g }
