-- The answer of `plan`, from the rows of least load: what is measured and written is the listing of the definition, and the refusals are its refusals. Those of
-- questions 1 to 11 are the chart's too.
-- Assumes nothing.
use Prim.Native.Nat.{ℕ, suc, ◌≤◌, ◌<◌}
use native.Mathlib.Omega.{arith}
use mathlib.Core.Path.{◌≡◌, sym, ap, subst, ◌∙◌}
use mathlib.Core.Bool.{cond}
use mathlib.Core.List.{List, ◌++◌, map}
use borrow.Author.Tests.{le-leb, lt-leb}
use lib.Dec.{leb}
use lib.ListN.{length, take, drop}
use lib.Seq.{get_or-take}
use Rattle.std.specs.Prelude.{Ok, Err}
use Rattle.least.specs.Lists.{pad}
use Rattle.least.proofs.Fraction.{FirstGreatest, first_if_any}
use Rattle.least.proofs.First.{first_greatest}
use Rattle.least.proofs.Pad.{length_pad, take_pad}
use Rattle.least.proofs.Members.{get_d_member}
use Rattle.refusal.specs.declared.Refusal.{Refusal}
use Rattle.refusal.specs.declared.Refusal.TheVariants.{NoRoom}
use Rattle.refusal.specs.declared.Outcome.TheVariants.{Done}
use Rattle.refusal.specs.Limits.{row_limit}
use Rattle.refusal.specs.Questions.{Answer, when_answered}
use Rattle.refusal.specs.Questions.Answer.{answered, refused}
use Rattle.load.specs.declared.Row.{Row}
use Rattle.load.specs.declared.Rows.{Rows}
use Rattle.load.specs.declared.Weighed.{Weighed}
use Rattle.load.specs.Load.{bounds_of, load_of, load_row}
use Rattle.load.specs.Weigh.{rows_of, weighed, weigh_rows}
use Rattle.load.proofs.Load.{bounds_of-length}
use Rattle.load.specs.Code.Rows.{no_row, FineRows}
use Rattle.load.proofs.Weighing.{weigh_few}
use Rattle.load.proofs.InRange.{in_range_fine}
use Rattle.writer.specs.Code.Written.{Written}
use Rattle.plan_file.specs.Numbers.{PlanPart}
use Rattle.plan_file.proofs.PlanParts.{parts_fine, parts_some}
use Rattle.plan_file.proofs.Reading.{parts_answered_iff}
use Rattle.reader.specs.declared.PlanFile.{PlanFile}
use Rattle.reader.specs.Code.Reader.{parts_in}
use Rattle.reader.proofs.Handed.{parts_count}
use Rattle.answers.specs.Parts.{shares_of}
use Rattle.answers.specs.Answers.{plan_of, chart_of, buffer_after, listed_in}
use Rattle.answers.specs.Code.Handing.{count_of, HandedOn}
use Rattle.answers.specs.Plan.{Plan, plan_file, plan_text}
use Rattle.answers.proofs.Handing.{refused_on}
use Rattle.answers.proofs.ChartRows.{chart_unplanned}
use Rattle.answers.proofs.PlanRows.{shares_bounds, listed_or_14}
use Rattle.printing.specs.declared.Listing.{Listing}
use Rattle.printing.specs.Code.ToPrint.{ToPrint}
use Rattle.printing.specs.Code.Printing.{listing_at, shares_in, EachFine, AllShownAre}
use Rattle.printing.proofs.Ceilings.{shares_shown}
use Rattle.planning.specs.Code.Chosen.{PlanIs}
use Rattle.planning.proofs.Planning.{file_fine, listing_same, buffer_same, each_fine}
use Rattle.planning.proofs.Weighed.{rows_in_range, kept_weighed}
use Rattle.planning.proofs.Choosing.{count_is, rows_room, plan_is, kept, passes, rows_length}

-- questions 1 to 11
pub list_refused : (s : List ℕ) (out : List ℕ) (r : Refusal) → plan_file s ≡ refused r → HandedOn (plan_of s (length out)) out (Err r) out
unfolding plan_of when_answered
list_refused s out r e = refused_on _ out r (ap (λ (a : Answer Plan). when_answered a (listed_in (length out))) e)

pub chart_refused : (s : List ℕ) (out : List ℕ) (r : Refusal) → plan_file s ≡ refused r → HandedOn (chart_of s (length out)) out (Err r) out
chart_refused s out r e = refused_on _ out r (chart_unplanned (length out) s r e)

-- some choice passes
module _ (s : List ℕ) (f : PlanFile) (rows : Rows) (is : PlanIs s f rows) where
  abbrev ps : List PlanPart
  ps = parts_in s f

  abbrev R : List Row
  R = rows_of rows

  some_part : 1 ≤ f.count
  some_part = omega (arith, parts_some s ps (is.read.value), parts_count s f is.read)

  R-length : length R ≡ f.count
  R-length = rows_length s f rows is

  weighed_is : weigh_rows rows ≡ weighed Done R
  weighed_is =
      weigh_few rows (omega (arith, count_is s f rows is, is.read.few))
      ∙ kept_weighed ps (parts_fine s ps (is.read.value)) (omega (arith, R-length, some_part)) (omega (arith, R-length, is.read.few)) (kept s f rows is) (passes s f rows is)

  -- its rows are in range
  pub rows_fine : FineRows rows
  unfolding rows_of
  rows_fine =
      let n = rows_room s f rows is in
      let c = count_is s f rows is in
      in_range_fine rows (record {
        some = omega (arith, c, some_part);
        few = omega (arith, c, is.read.few);
        room = omega (arith, c, n);
        each = λ k h. rw (← get_or-take rows.count rows.rows k no_row h) (rows_in_range ps (parts_fine s ps (is.read.value)) (kept s f rows is) _ (get_d_member R k no_row (omega (arith, R-length, c))));
      })

  abbrev w : Weighed
  w = weigh_rows rows

  bounds_taken : take f.count w.bounds ≡ bounds_of R
  unfolding weighed
  bounds_taken =
      let B = bounds_of R in
      let n : length B ≡ f.count = bounds_of-length R ∙ R-length in
      ap (λ (x : Weighed). take f.count x.bounds) weighed_is ∙ ap (λ (k : ℕ). take k (pad row_limit (record { num = 0; den = 0 }) B)) (sym n) ∙ take_pad 16 (record { num = 0; den = 0 }) B (omega (arith, n, is.read.few))

  bounds_room : f.count ≤ length w.bounds
  unfolding weighed
  bounds_room = omega (arith, ap (λ (x : Weighed). length x.bounds) weighed_is, length_pad row_limit (record { num = 0; den = 0 }) (bounds_of R), is.read.few)

  row_is : w.row ≡ load_row R
  unfolding weighed
  row_is = ap (λ (x : Weighed). x.row) weighed_is

  first : (j : ℕ) × FirstGreatest (bounds_of R) j
  first = first_if_any (bounds_of R) (omega (arith, bounds_of-length R, R-length, some_part))

  row_first : w.row ≡ suc first.0
  unfolding load_row load_of
  row_first = row_is ∙ first_greatest (bounds_of R) first.0 first.1

  -- question 14
  abbrev text : List ℕ
  text = plan_text (record { parts = ps; rows = R })

  answer_is : (room : ℕ) → plan_of s room ≡ cond (leb (length text) room) (answered text) (refused NoRoom)
  unfolding plan_of when_answered
  answer_is room = ap (λ (a : Answer Plan). when_answered a (listed_in room)) (plan_is s f rows is) ∙ listed_or_14 (record { parts = ps; rows = R }) room

  plan_fits : (room : ℕ) → length text ≤ room → plan_of s room ≡ answered text
  plan_fits room l = answer_is room ∙ simp (le-leb _ _ l)

  plan_no_room : (room : ℕ) → room < length text → plan_of s room ≡ refused NoRoom
  plan_no_room room l = answer_is room ∙ simp (lt-leb _ _ l)

  pub fine : EachFine f
  fine = each_fine s f is.read

  pub to_print : (x : Weighed) → x ≡ w → ToPrint s f x
  to_print x x-is =
      let at = ap (λ (y : Weighed). y.row) x-is in
      record {
        fine = file_fine s f is.read;
        short = omega (arith, ((parts_answered_iff s ps).0 is.read.value).fits);
        row_some = omega (arith, at, row_first);
        row_most = omega (arith, at, row_first, first.1.within, bounds_of-length R, R-length);
      }

-- what was weighed is printed, if it fits
module _ (l : Listing) (is : PlanIs l.file.now l.plan.now l.rows.now) (x-is : l.weighed.now ≡ weigh_rows l.rows.now) (shown-are : AllShownAre l) where
  abbrev s : List ℕ
  s = l.file.now

  abbrev f : PlanFile
  f = l.plan.now

  abbrev rows : Rows
  rows = l.rows.now

  at : l.weighed.now.row ≡ (weigh_rows rows).row
  at = ap (λ (y : Weighed). y.row) x-is

  abbrev pub shown : List ℕ
  shown = listing_at l.weighed.now.row (shares_in l)

  shares_are : shares_in l ≡ shares_of (parts_in s f) (rows_of rows) (bounds_of (rows_of rows))
  shares_are =
      shares_shown l (file_fine s f is.read) (count_is s f rows is) (rows_room s f rows is) (subst (λ (y : Weighed). f.count ≤ length y.bounds) (sym x-is) (bounds_room s f rows is)) shown-are
      ∙ ap (shares_of (parts_in s f) (rows_of rows)) (ap (λ (y : Weighed). take f.count y.bounds) x-is ∙ bounds_taken s f rows is)

  shown_is : shown ≡ text s f rows is
  unfolding plan_text load_row load_of
  shown_is =
      let B = bounds_of (rows_of rows) in
      let bounds : map (λ y. y.bound) (shares_of (parts_in s f) (rows_of rows) B) ≡ B = shares_bounds (parts_in s f) B (kept s f rows is) (bounds_of-length (rows_of rows)) in
      ap (listing_at l.weighed.now.row) shares_are
      ∙ listing_same (shares_of (parts_in s f) (rows_of rows) B) l.weighed.now.row (omega (arith, row_first s f rows is, at)) (rw bounds (sym (row_is s f rows is) ∙ sym at))

  pub no_room : (out : List ℕ) (n : ℕ) → n ≡ length shown → length out < n → HandedOn (plan_of s (length out)) out (Err NoRoom) out
  no_room out n e h = refused_on (plan_of s (length out)) out NoRoom (plan_no_room s f rows is (length out) (omega (arith, e, h, ap length shown_is)))

  pub printed_is : (out after : List ℕ) (k n : ℕ) → k ≡ length shown → k ≤ length out → Written 0 shown out after n → HandedOn (plan_of s (length out)) out (Ok n) after
  unfolding count_of buffer_after
  printed_is out after k n e h written =
      let fits = plan_fits s f rows is (length out) (omega (arith, e, h, ap length shown_is)) in
      let count : n ≡ length (text s f rows is) = omega (arith, written.place, ap length shown_is) in
      record {
        result = ap Ok count ∙ sym (ap count_of fits);
        bytes = buffer_same shown out after n written ∙ ap (λ (bytes : List ℕ). bytes ++ drop (length bytes) out) shown_is ∙ sym (ap (λ (a : Answer (List ℕ)). buffer_after a out) fits);
      }
