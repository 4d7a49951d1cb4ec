-- Weighing in the paper's words, over every row number and every time.
--   CountFits rows   == there are 1 to 16 rows
--   BadRowAt rows j  == their count fits, and row j is the first that does not fit
--   NoTimeAt rows j  == their count and every row fit, and row j is the first without a time t
--   WeighedIs rows w == w has every row's bound and the load
-- Assumes nothing.
use Rattle.std.specs.Prelude.{ℕ, ◌≤◌, ◌<◌, ◌≡◌, length}
use mathlib.Core.List.{List, Memᴰ}
use Rattle.least.specs.Fraction.{frac}
use Rattle.refusal.specs.declared.Outcome.TheVariants.{Done}
use Rattle.refusal.specs.Limits.{row_limit}
use Rattle.load.specs.declared.Row.{Row}
use Rattle.load.specs.declared.Weighed.{Weighed}
use Rattle.load.specs.Weigh.{RowFits}
use Rattle.planner.specs.SystemTest.{row_at, TimeOf, bound_at, BoundIs, LoadIs}

pub record CountFits (rows : List Row) : Type 0 where
  pub some : 1 ≤ length rows
  pub few : length rows ≤ row_limit

pub record BadRowAt (rows : List Row) (j : ℕ) : Type 0 where
  pub count : CountFits rows
  pub from : 1 ≤ j
  pub to : j ≤ length rows
  pub bad : RowFits (row_at rows j) → ⊥
  pub before : (i : ℕ) → 1 ≤ i → i < j → RowFits (row_at rows i)

pub record NoTimeAt (rows : List Row) (j : ℕ) : Type 0 where
  pub count : CountFits rows
  pub fit : (r : Row) → Memᴰ r rows → RowFits r
  pub from : 1 ≤ j
  pub to : j ≤ length rows
  pub none : (t : ℕ) → TimeOf rows j t → ⊥
  pub before : (i : ℕ) → 1 ≤ i → i < j → (t : ℕ) × TimeOf rows i t

pub record WeighedIs (rows : List Row) (w : Weighed) : Type 0 where
  pub done : w.outcome ≡ Done
  -- every row's bound
  pub bounds : (i : ℕ) → 1 ≤ i → i ≤ length rows → BoundIs rows i (bound_at w.bounds i)
  -- unused places are zero
  pub places : length w.bounds ≡ row_limit
  pub unused : (i : ℕ) → length rows < i → bound_at w.bounds i ≡ frac 0 0
  -- and the load
  pub load : LoadIs rows w.load w.row
