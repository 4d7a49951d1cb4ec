-- The search for the choice of least load. Arrays hold the pair at the place i of the part k, both from 0, at kept_limit × k + i.
--   offer_at o k i          == this pair as a row
--   offers_of o             == the rows that each part offers
--   FineOffers o            == 1 to part_limit parts offer 1 to kept_limit rows each, whose numbers are in range; along the rows of a part the holding time
--                              falls, and Q + X does not
--   bound_at rows s         == the bound of the row at the place s
--   held_before rows s      == what blocks it: the greatest X of the rows before it
--   FinePlaces o places     == each part has a place below kept_limit, with a row whose numbers are in range
--   ColumnsAre o places c   == c holds the periods, the costs and the holding times of the rows at these places
--   FineBest best           == 1/0, or a fraction of at most 1 of numbers from 1 to the limit
--   BelowIs best by         == by this linear supply a load is met at a time just if its ratio there is below `best`
--   StuckIs rows best r     == r is the blocking of a row whose bound is not below `best`, if there is such a row
--   HeaviestIs rows w       == w is the bound and the blocking of a row that reaches the load
--   MoverIs o c places x r  == r is the first part that holds for x, if there is one and it has a next row
--   ChoiceIs o r            == r is the first choice of least load, if any choice passes
-- Assumes nothing.
use Rattle.std.specs.Prelude.{ℕ, suc, ◌+◌, ◌*◌, ◌≤◌, ◌<◌, ◌≡◌, true, false, ◌⊎◌, List, map, reverse, length, get_or, take, Option, Some, None, is_some}
use Rattle.least.specs.declared.Frac.{Frac}
use Rattle.least.specs.Lists.{some, count_from}
use Rattle.least.specs.Fraction.{no_bound, ◌⊑◌, ◌⊏◌}
use Rattle.refusal.specs.Limits.{number_limit, part_limit, kept_limit}
use Rattle.envelope.specs.declared.supply.LinearSupply.{LinearSupply}
use Rattle.envelope.specs.Code.Envelope.{met_at}
use Rattle.load.specs.declared.Row.{Row}
use Rattle.load.specs.declared.columns.RowColumns.{RowColumns}
use Rattle.load.specs.Load.{row, row_sum, held_below, ratio, bounds_of, passes_system}
use Rattle.load.specs.Code.ByColumn.{rows_by}
use Rattle.load.specs.Code.Rows.{no_frac, FineRow}
use Rattle.selection.specs.declared.Offers.{Offers}
use Rattle.selection.specs.declared.Weight.{Weight}
use Rattle.selection.specs.Selection.{choices, least_loaded}

abbrev pub offer_at : Offers → ℕ → ℕ → Row
offer_at o k i = row (get_or o.periods k 0) (get_or o.budgets (kept_limit * k + i) 0) (get_or o.holdings (kept_limit * k + i) 0)

unfoldable pub offers_of : Offers → List (List Row)
offers_of o = map (λ k. map (offer_at o k) (count_from 0 (get_or o.counts k 0))) (count_from 0 o.count)

pub record FineOffers (o : Offers) : Type 0 where
  pub some : 1 ≤ o.count
  pub few : o.count ≤ part_limit
  pub counts_some : (k : ℕ) → k < o.count → 1 ≤ get_or o.counts k 0
  pub counts_most : (k : ℕ) → k < o.count → get_or o.counts k 0 ≤ kept_limit
  pub fine : (k i : ℕ) → k < o.count → i < get_or o.counts k 0 → FineRow (offer_at o k i)
  pub falls : (k i : ℕ) → k < o.count → suc i < get_or o.counts k 0 → (offer_at o k (suc i)).holding < (offer_at o k i).holding
  pub rises : (k i : ℕ) → k < o.count → suc i < get_or o.counts k 0 → row_sum (offer_at o k i) ≤ row_sum (offer_at o k (suc i))

abbrev pub bound_at : List Row → ℕ → Frac
bound_at rows s = get_or (bounds_of rows) s no_frac

abbrev pub held_before : List Row → ℕ → ℕ
held_before rows s = held_below (reverse (take s rows))

pub record FinePlaces (o : Offers) (places : List ℕ) : Type 0 where
  pub few : o.count ≤ part_limit
  pub within : (k : ℕ) → k < o.count → get_or places k 0 < kept_limit
  pub fine : (k : ℕ) → k < o.count → FineRow (offer_at o k (get_or places k 0))

pub record ColumnsAre (o : Offers) (places : List ℕ) (c : RowColumns) : Type 0 where
  pub count : c.workload.count ≡ o.count
  pub periods : c.workload.periods ≡ o.periods
  pub costs : (k : ℕ) → k < o.count → get_or c.workload.costs k 0 ≡ get_or o.budgets (kept_limit * k + get_or places k 0) 0 + get_or o.holdings (kept_limit * k + get_or places k 0) 0
  pub times : (k : ℕ) → k < o.count → get_or c.holdings k 0 ≡ get_or o.holdings (kept_limit * k + get_or places k 0) 0

pub record FineBest (best : Frac) : Type 0 where
  pub proper : (best ≡ no_bound) ⊎ ((1 ≤ best.num) × (best.num ≤ best.den))
  pub num_most : best.num ≤ number_limit
  pub den_most : best.den ≤ number_limit

pub record BelowIs (best : Frac) (by : LinearSupply) : Type 0 where
  pub met : (l t : ℕ) → 1 ≤ t → met_at by l t ≡ true → ratio l t ⊏ best
  pub missed : (l t : ℕ) → met_at by l t ≡ false → best ⊑ ratio l t

pub record StuckIs (rows : List Row) (best : Frac) (r : Option ℕ) : Type 0 where
  pub reaches : (x : ℕ) → r ≡ Some x → (s : ℕ) × (s < length rows) × (best ⊑ bound_at rows s) × (x ≡ held_before rows s)
  pub below : r ≡ None → (s : ℕ) → s < length rows → bound_at rows s ⊏ best

pub record HeaviestIs (rows : List Row) (w : Weight) : Type 0 where
  pub place : ℕ
  pub within : place < length rows
  pub bound : w.bound ≡ bound_at rows place
  pub blocking : w.blocking ≡ held_before rows place
  pub above : (s : ℕ) → s < length rows → bound_at rows s ⊑ w.bound

pub record MoverIs (o : Offers) (c : RowColumns) (places : List ℕ) (x : ℕ) (r : Option ℕ) : Type 0 where
  pub first : ℕ
  pub within : first ≤ o.count
  pub none : (k : ℕ) → k < first → get_or c.holdings k 0 ≡ x → ⊥
  pub holds : first < o.count → get_or c.holdings first 0 ≡ x
  pub moves : (j : ℕ) → r ≡ Some j → (j ≡ first) × (first < o.count) × (get_or places first 0 + 1 < get_or o.counts first 0)
  pub stops : r ≡ None → first < o.count → get_or o.counts first 0 ≤ get_or places first 0 + 1

pub record ChoiceIs (o : Offers) (r : Option RowColumns) : Type 0 where
  pub found : is_some r ≡ some passes_system (choices (offers_of o))
  pub rows : (c : RowColumns) → r ≡ Some c → rows_by c ≡ least_loaded (choices (offers_of o))
