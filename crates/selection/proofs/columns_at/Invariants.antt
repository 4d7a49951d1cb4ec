-- `selection::columns_at` meets its contract: each turn fills one place of the two columns.
-- Assumes nothing.
use Prim.Native.Nat.{ℕ, ◌+◌, ◌*◌}
use lib.ListN.{get_or}
use mathlib.Core.List.{List}
use Rattle.least.proofs.Fill.{Filled}
use Rattle.refusal.specs.Limits.{kept_limit}
use Rattle.selection.specs.declared.Offers.{Offers}
use Rattle.selection.proofs.columns_at.Given as goal

-- the pair at the place of the part k
abbrev pub pair_at : List ℕ → ℕ → ℕ
pair_at places k = kept_limit * k + get_or places k 0

abbrev pub time_at : Offers → List ℕ → ℕ → ℕ
time_at o places k = get_or o.holdings (pair_at places k) 0

abbrev pub cost_at : Offers → List ℕ → ℕ → ℕ
cost_at o places k = get_or o.budgets (pair_at places k) 0 + time_at o places k

abbrev pub invariant-loop-k : goal.invariant-loop-k
invariant-loop-k l = Filled 0 (cost_at l.offers l.places) 16 l.costs l.k × Filled 0 (time_at l.offers l.places) 16 l.holdings l.k
