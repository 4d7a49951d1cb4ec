-- `offers::store` meets its contract. The invariant: the first i pairs are stored.
-- Assumes nothing.
use Prim.Native.Nat.{◌*◌}
use mathlib.Core.Path.{◌≡◌}
use lib.ListN.{get_or}
use Rattle.least.specs.Code.Stored.{Stored}
use Rattle.refusal.specs.Limits.{kept_limit}
use Rattle.candidates.specs.Candidates.{pair}
use Rattle.offers.proofs.store.Given as goal

abbrev pub invariant-loop-i : goal.invariant-loop-i
invariant-loop-i l = record {
  periods : l.offers.periods ≡ l.initial.offers.periods;
  counts : l.offers.counts ≡ l.initial.offers.counts;
  count : l.offers.count ≡ l.initial.offers.count;
  budgets : Stored (λ i. (get_or l.kept.pairs i (pair 0 0)).budget) (kept_limit * l.k) l.i l.initial.offers.budgets l.offers.budgets;
  holdings : Stored (λ i. (get_or l.kept.pairs i (pair 0 0)).holding) (kept_limit * l.k) l.i l.initial.offers.holdings l.offers.holdings;
}
