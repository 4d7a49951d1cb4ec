-- The rows that question 12 lets pass.
-- Assumes nothing.
use Rattle.std.specs.Prelude.{None}
use Rattle.std.specs.List.{position}
use Prim.Native.Nat.{ℕ, ◌-◌, ◌≤◌, ◌<◌}
use native.Mathlib.Omega.{arith}
use mathlib.Core.Path.{◌≡◌, sym, ◌∙◌}
use mathlib.Core.Bool.{true, not}
use borrow.Author.Tests.{le-leb, leb-true}
use lib.ListN.{length, get_or}
use lib.Seq.{get_or-take, length-take-le, ext_get_or}
use Rattle.least.proofs.Lists.{and_iff, every_member}
use Rattle.least.proofs.Members.{get_d_member}
use Rattle.least.proofs.First.{first_every}
use Rattle.load.specs.declared.Row.{Row}
use Rattle.load.specs.declared.Rows.{Rows}
use Rattle.load.specs.declared.columns.RowColumns.{RowColumns}
use Rattle.load.specs.Load.{row_sum}
use Rattle.load.specs.Weigh.{RowFits, row_in_range, rows_of}
use Rattle.load.specs.Code.ByColumn.{row_at, rows_by}
use Rattle.load.specs.Code.Rows.{no_row, FineRow, FineRows, ColumnsAre, InRange}
use Rattle.load.proofs.Position.{none_is}
use Rattle.load.proofs.RowsBy.{rows_length, rows_get}

pub fits_in_range : (r : Row) → RowFits r → row_in_range r ≡ true
unfolding row_in_range
fits_in_range r f = simp (le-leb _ _ f.budget_some, le-leb _ _ f.budget_most, le-leb _ _ f.period_most, le-leb _ _ f.holding_most)

pub in_range_fits : (r : Row) → row_in_range r ≡ true → RowFits r
unfolding row_in_range
in_range_fits r e =
    let a = (and_iff _ _).0 e in
    let b = (and_iff _ _).0 a.1 in
    let c = (and_iff _ _).0 b.1 in
    record { budget_some = leb-true _ _ a.0; budget_most = leb-true _ _ b.0; period_most = leb-true _ _ c.0; holding_most = leb-true _ _ c.1 }

-- where no row is bad
pub all_in_range : (rows : Rows) → 1 ≤ rows.count → rows.count ≤ 16 → rows.count ≤ length rows.rows → position (λ r. not (row_in_range r)) (rows_of rows) ≡ None → InRange rows
unfolding rows_of
all_in_range rows o l room e = record {
  some = o;
  few = l;
  room = room;
  each = λ k h. rw (← get_or-take rows.count rows.rows k no_row h) (every_member row_in_range (rows_of rows) (first_every row_in_range (rows_of rows) (none_is _ _ e)) (get_d_member (rows_of rows) k no_row (omega (arith, length-take-le rows.count rows.rows room))));
}

pub in_range_fine : (rows : Rows) → InRange rows → FineRows rows
in_range_fine rows i = record { few = i.few; room = i.room; each = each }
  where
    each : (k : ℕ) → k < rows.count → FineRow (get_or rows.rows k no_row)
    each k h =
        let f = in_range_fits (get_or rows.rows k no_row) (i.each k h) in
        record { period_some = omega (arith, f); period_most = omega (arith, f); budget_some = omega (arith, f); budget_most = omega (arith, f); holding_most = omega (arith, f) }

-- the columns of rows are the rows
module _ (rows : Rows) (fine : FineRows rows) (c : RowColumns) (are : ColumnsAre rows c) where
  same_row : (k : ℕ) → k < rows.count → row_at c k ≡ get_or rows.rows k no_row
  same_row k h =
      let r = get_or rows.rows k no_row in
      let e : row_sum r - r.holding ≡ r.budget = omega arith in
      rw (are.periods k h, are.costs k h, are.holdings k h, e)

  pub columns_rows : rows_by c ≡ rows_of rows
  unfolding rows_of
  columns_rows =
      let n = rows.count in
      let a = rows_length c in
      let b = length-take-le n rows.rows fine.room in
      ext_get_or no_row _ _ (a ∙ are.count ∙ sym b)
      (λ k h.
      let l : k < n = omega arith in
      rows_get c k (omega (arith, are.count)) ∙ same_row k l ∙ sym (get_or-take n rows.rows k no_row l))
