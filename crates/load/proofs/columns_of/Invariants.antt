-- `load::columns_of` meets its contract: each turn fills one place of the three columns.
-- Assumes nothing.
use Prim.Native.Nat.{ℕ}
use lib.ListN.{get_or}
use Rattle.least.proofs.Fill.{Filled}
use Rattle.load.specs.declared.Rows.{Rows}
use Rattle.load.specs.Load.{row_sum}
use Rattle.load.specs.Code.Rows.{no_row}
use Rattle.load.proofs.columns_of.Given as goal

-- the columns
abbrev pub P : Rows → ℕ → ℕ
P rows k = (get_or rows.rows k no_row).period

abbrev pub C : Rows → ℕ → ℕ
C rows k = row_sum (get_or rows.rows k no_row)

abbrev pub X : Rows → ℕ → ℕ
X rows k = (get_or rows.rows k no_row).holding

abbrev pub invariant-loop-k : goal.invariant-loop-k
invariant-loop-k l = Filled 0 (P l.rows) 16 l.periods l.k × Filled 0 (C l.rows) 16 l.costs l.k × Filled 0 (X l.rows) 16 l.holdings l.k
