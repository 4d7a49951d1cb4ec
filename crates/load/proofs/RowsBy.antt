-- The rows by columns and their bounds, place by place.
-- Assumes nothing.
use Prim.Native.Nat.{ℕ, suc, ◌+◌, max, ◌<◌}
use native.Mathlib.Omega.{arith}
use native.Mathlib.Numerals.{add-one}
use mathlib.Core.Path.{◌≡◌, refl, sym, ap, ◌∙◌, fun_ext}
use mathlib.Core.List.{List, [], ◌∷◌, reverse, reverse-append}
use lib.ListN.{length, take, drop, get_or, set, replicate}
use lib.Seq.{take-suc}
use Rattle.least.specs.declared.Frac.{Frac}
use Rattle.least.specs.Lists.{greatest, pad}
use Rattle.least.specs.Fraction.{least_over}
use Rattle.least.proofs.Columns.{column_length, column_get}
use Rattle.least.proofs.Along.{along_at}
use Rattle.least.proofs.Pad.{pad_none, pad_next}
use Rattle.demand.specs.declared.Workload.{Workload}
use Rattle.demand.specs.Code.Demand.{demand_from}
use Rattle.demand.proofs.Demand.{list_demand}
use Rattle.load.specs.declared.Row.{Row}
use Rattle.load.specs.declared.columns.RowColumns.{RowColumns}
use Rattle.load.specs.Load.{row, row_sum, demand_of, held_below, load_at, ratio, bound_of, bounds_of}
use Rattle.load.specs.Code.ByColumn.{rows_costing, row_at, rows_by}
use Rattle.load.specs.Code.Rows.{no_row, no_frac}
use Rattle.load.proofs.Load.{bounds_of-length}
use Rattle.load.proofs.Costing.{costing_demand}

-- only the period, what a row costs with its blocking, and what the higher rows ask for count
pub bound_alike : (lower higher others : List Row) (r : Row) (own : ℕ) → own ≡ row_sum r + held_below lower → ((t : ℕ) → demand_of higher t ≡ demand_of others t) → bound_of lower r higher ≡ bound_of [] (row r.period own 0) others
unfolding bound_of load_at greatest
bound_alike lower higher others r own e same =
    ap (least_over r.period) (fun_ext (λ t. ap (λ (l : ℕ). ratio l t) (let s = same t in omega arith)))

module _ (c : RowColumns) where
  abbrev rows : Workload
  rows = c.workload

  pub rows_length : length (rows_by c) ≡ rows.count
  unfolding rows_by
  rows_length = column_length (row_at c) rows.count

  pub rows_get : (k : ℕ) → k < rows.count → get_or (rows_by c) k no_row ≡ row_at c k
  unfolding rows_by
  rows_get k h = column_get (row_at c) no_row k rows.count h

  -- what blocks the row at the place k
  abbrev pub blocking_at : ℕ → ℕ
  blocking_at k = held_below (reverse (take k (rows_by c)))

  pub blocking_none : blocking_at 0 ≡ 0
  unfolding greatest
  blocking_none = refl

  held_cons : (r : Row) (lower : List Row) → held_below (r ∷ lower) ≡ max r.holding (held_below lower)
  unfolding greatest
  held_cons r lower = refl

  pub blocking_next : (k : ℕ) → k < rows.count → blocking_at (k + 1) ≡ max (blocking_at k) (get_or c.holdings k 0)
  blocking_next k h =
      let R = rows_by c in
      let e : reverse (take (k + 1) R) ≡ row_at c k ∷ reverse (take k R) = ap reverse (ap (λ (i : ℕ). take i R) (add-one k) ∙ take-suc R k no_row (omega (arith, rows_length))) ∙ reverse-append (take k R) (get_or R k no_row ∷ []) ∙ ap (λ (r : Row). r ∷ reverse (take k R)) (rows_get k h) in
      ap held_below e ∙ held_cons (row_at c k) (reverse (take k R)) ∙ omega arith

  rows_demand : (s t : ℕ) → demand_of (drop s (rows_by c)) t ≡ demand_from rows.periods rows.costs rows.count s t
  unfolding demand_of
  rows_demand s t =
      list_demand (λ r. r.period) row_sum no_row (rows_by c) rows.periods rows.costs rows.count rows_length
      (λ k h. ap (λ (r : Row). r.period) (rows_get k h)) (λ k h. let e = ap row_sum (rows_get k h) in omega (arith, c.fine.holds k h)) t s

  -- the bound of the row at the place k
  pub bound_at_lem : (k : ℕ) → k < rows.count → get_or (bounds_of (rows_by c)) k no_frac ≡ bound_of [] (row (get_or rows.periods k 0) (get_or rows.costs k 0 + blocking_at k) 0) (drop (k + 1) (rows_costing rows))
  unfolding bounds_of
  bound_at_lem k h =
      let R = rows_by c in
      let e : get_or rows.costs k 0 + blocking_at k ≡ row_sum (row_at c k) + blocking_at k = omega (arith, c.fine.holds k h) in
      along_at bound_of no_row no_frac R k (omega (arith, rows_length)) ∙ ap (λ (r : Row). bound_of (reverse (take k R)) r (drop (suc k) R)) (rows_get k h)
      ∙ bound_alike (reverse (take k R)) (drop (suc k) R) (drop (k + 1) (rows_costing rows)) (row_at c k) _ e (λ t. rw add-one (rows_demand (suc k) t ∙ sym (costing_demand rows (suc k) t)))

  -- the loop over all rows
  pub bounds_start : replicate 16 no_frac ≡ pad 16 no_frac (take 0 (bounds_of (rows_by c)))
  bounds_start = pad_none 16 no_frac

  pub bounds_next : (k : ℕ) (b : Frac) → k < rows.count → b ≡ bound_of [] (row (get_or rows.periods k 0) (get_or rows.costs k 0 + blocking_at k) 0) (drop (k + 1) (rows_costing rows)) → set (pad 16 no_frac (take k (bounds_of (rows_by c)))) k b ≡ pad 16 no_frac (take (k + 1) (bounds_of (rows_by c)))
  bounds_next k b h e =
      pad_next 16 no_frac (bounds_of (rows_by c)) k b no_frac (omega (arith, bounds_of-length (rows_by c), rows_length)) (omega (arith, c.fine.demand.fine.few)) (e ∙ sym (bound_at_lem k h))
