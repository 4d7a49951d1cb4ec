-- `load::weigh_in_range` meets its contract.
-- Assumes nothing.
use Prim.Native.Nat.{◌+◌}
use native.Mathlib.Omega.{arith}
use mathlib.Core.Path.{◌≡◌, sym, ap, ◌∙◌}
use mathlib.Core.Bool.{not}
use mathlib.Core.List.{List}
use Rattle.std.specs.List.{position}
use lib.ListN.{take}
use Rattle.least.specs.declared.Frac.{Frac}
use Rattle.least.specs.Lists.{pad, first_of}
use Rattle.least.specs.Fraction.{at_most, greatest_of}
use Rattle.load.specs.declared.Row.{Row}
use Rattle.load.specs.Load.{bounds_of, load_of, load_row}
use Rattle.load.specs.Weigh.{has_time, rows_of}
use Rattle.load.specs.Code.Rows.{no_frac}
use Rattle.load.proofs.InRange.{in_range_fine, columns_rows}
use Rattle.load.proofs.Weighing.{weigh_late, weigh_answer, bounds_take, bounds_count, bounds_fine, load_place}
use Rattle.load.proofs.weigh_in_range.Goals as goal
use Rattle.load.proofs.weigh_in_range.Goals.{After-bounds_of-bounds, After-greatest_row-row}

bounds_are : (c : After-bounds_of-bounds) → c.bounds_of-bounds.result ≡ pad 16 no_frac (bounds_of (rows_of c.args.rows.now))
bounds_are c =
    c.bounds_of-bounds.ensures ∙ ap (λ (l : List Row). pad 16 no_frac (bounds_of l)) (columns_rows c.args.rows.now (in_range_fine c.args.rows.now c.requires) c.columns_of.result c.columns_of.ensures)

-- those of the rows
taken : (c : After-bounds_of-bounds) → take c.args.rows.now.count c.bounds_of-bounds.result ≡ bounds_of (rows_of c.args.rows.now)
taken c = ap (take c.args.rows.now.count) (bounds_are c) ∙ bounds_take c.args.rows.now c.requires

row_is : (c : After-greatest_row-row) → c.greatest_row-row.result + 1 ≡ load_row (rows_of c.args.rows.now)
unfolding load_row load_of
row_is c = c.greatest_row-row.ensures ∙ ap (λ (l : List Frac). first_of (at_most (greatest_of l)) l) (taken (goal.at.After-greatest_row-row c).After-bounds_of-bounds)

pub columns_of-requires : goal.columns_of-requires
columns_of-requires c = in_range_fine c.args.rows.now c.requires

pub returns-in-Some : goal.returns-in-Some
returns-in-Some c =
    c.refused.ensures ∙ sym (weigh_late c.args.rows.now c.requires c.in-Some.late (ap (position (λ b. not (has_time b))) (sym (taken (goal.at.returns-in-Some c).After-bounds_of-bounds)) ∙ sym c.first_late.ensures ∙ c.in-Some.is))

pub greatest_row-row-requires : goal.greatest_row-row-requires
greatest_row-row-requires c =
    let t = taken (goal.at.greatest_row-row-requires c).After-bounds_of-bounds in
    rw t (bounds_fine c.args.rows.now c.requires, omega (arith, bounds_count c.args.rows.now c.requires, c.requires.some))

pub bounds-bounds-row : goal.bounds-bounds-row
bounds-bounds-row c = load_place c.args.rows.now c.requires c.greatest_row-row.result (row_is c)

pub offset_bounds-bounds-row : goal.offset_bounds-bounds-row
offset_bounds-bounds-row c = omega (arith, bounds-bounds-row c)

pub overflow_add-result : goal.overflow_add-result
overflow_add-result c = omega (arith, bounds-bounds-row (goal.at.overflow_add-result c).After-greatest_row-row)

pub returns : goal.returns
returns c =
    weigh_answer c.args.rows.now c.requires c.greatest_row-row.result (row_is (goal.at.returns c).After-greatest_row-row) c.bounds_of-bounds.result (bounds_are (goal.at.returns c).After-bounds_of-bounds)
    (ap (position (λ b. not (has_time b))) (sym (taken (goal.at.returns c).After-bounds_of-bounds)) ∙ sym c.first_late.ensures ∙ c.in_default.is)
