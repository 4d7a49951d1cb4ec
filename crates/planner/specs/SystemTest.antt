-- The system test and the load in the paper's words, of every list of rows, over every row number and every time.
--   L rows i t       == L(t) of row i: its Q+X, plus Σ ⌈t/P_k⌉×(Q_k+X_k) over the rows after it, plus the greatest X of the rows before it
--   TimeOf rows i t  == 1 ≤ t ≤ P of row i, and L(t) ≤ t
--   BoundIs rows i b == b is the bound of row i: the least L(t)/t, with the smallest such t
--   LoadIs rows b k  == b is the load, and row k is its row
--   SystemTest       == these are the test, bounds and load that the choices and answers are made of
-- Assumes nothing.
use Rattle.std.specs.Prelude.{ℕ, ◌-◌, ◌≤◌, ◌<◌, ◌≡◌, true, ◌↔◌, List, length, take, drop}
use Rattle.least.specs.declared.Frac.{Frac}
use Rattle.least.specs.Lists.{nth_or}
use Rattle.least.specs.Fraction.{frac, ◌⊑◌, ◌⊏◌}
use Rattle.load.specs.declared.Row.{Row}
use Rattle.load.specs.Load.{row, load_at, passes_system, bounds_of, load_of, load_row}

-- row i and bound i, counted from 1
abbrev pub row_at : List Row → ℕ → Row
row_at rows i = nth_or (row 0 0 0) i rows

abbrev pub bound_at : List Frac → ℕ → Frac
bound_at bounds i = nth_or (frac 0 0) i bounds

abbrev pub L : List Row → ℕ → ℕ → ℕ
L rows i t = load_at (take (i - 1) rows) (row_at rows i) (drop i rows) t

pub record TimeOf (rows : List Row) (i t : ℕ) : Type 0 where
  pub from : 1 ≤ t
  pub to : t ≤ (row_at rows i).period
  pub served : L rows i t ≤ t

pub record BoundIs (rows : List Row) (i : ℕ) (b : Frac) : Type 0 where
  -- L(t)/t for a time t of the row
  pub time : TimeOf rows i b.den
  pub value : b.num ≡ L rows i b.den
  -- the least among those
  pub least : (u : ℕ) → TimeOf rows i u → b ⊑ frac (L rows i u) u
  -- shown with the smallest such t
  pub smallest : (u : ℕ) → TimeOf rows i u → frac (L rows i u) u ⊑ b → b.den ≤ u

pub record LoadIs (rows : List Row) (load : Frac) (k : ℕ) : Type 0 where
  pub from : 1 ≤ k
  pub to : k ≤ length rows
  -- it is the bound of its row
  pub reached : BoundIs rows k load
  -- no bound is greater
  pub greatest : (i : ℕ) (b : Frac) → 1 ≤ i → i ≤ length rows → BoundIs rows i b → b ⊑ load
  -- no row before reaches it
  pub first : (i : ℕ) (b : Frac) → 1 ≤ i → i < k → BoundIs rows i b → b ⊏ load

pub record SystemTest : Type 0 where
  -- the row passes if some t, 1 ≤ t ≤ P_s, has L(t) ≤ t; the choice passes the system test if every row passes
  pub passes : (rows : List Row) → (passes_system rows ≡ true) ↔ ((i : ℕ) → 1 ≤ i → i ≤ length rows → (t : ℕ) × TimeOf rows i t)
  -- its bound is the least L(t)/t among those, shown with the smallest such t
  pub bounds : (rows : List Row) → passes_system rows ≡ true → (i : ℕ) → 1 ≤ i → i ≤ length rows → BoundIs rows i (bound_at (bounds_of rows) i)
  -- each row has one
  pub count : (rows : List Row) → length (bounds_of rows) ≡ length rows
  -- the load is the greatest bound; its row is the first that reaches it; a choice's load is the load of its rows
  pub load : (rows : List Row) → passes_system rows ≡ true → 1 ≤ length rows → LoadIs rows (load_of rows) (load_row rows)
