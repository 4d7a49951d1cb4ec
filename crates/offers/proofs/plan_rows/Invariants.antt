-- `offers::plan_rows` meets its contract. The invariants: the shares so far and those to come are all shares; the first k parts have stored what they offer.
-- Assumes nothing.
use Prim.Native.Nat.{ℕ, ◌+◌, ◌*◌, ◌≤◌, ◌<◌}
use mathlib.Core.Path.{◌≡◌}
use Rattle.envelope.specs.Code.Envelope.{slope_scale}
use Rattle.offers.specs.Code.Gathered.{OfferRoom, OfferedAt}
use Rattle.offers.proofs.Over.{shares_from}
use Rattle.offers.proofs.plan_rows.Given as goal

abbrev pub invariant-loop-p : goal.invariant-loop-p
invariant-loop-p l = record {
  left : l.share + shares_from l.f l.p-index ≡ shares_from l.f 0;
  most : l.share ≤ l.p-index * (16 * slope_scale);
}

abbrev pub invariant-loop-k : goal.invariant-loop-k
invariant-loop-k l = record {
  room : OfferRoom l.offers;
  count : l.offers.count ≡ l.f.count;
  gathered : (j : ℕ) → j < l.k → OfferedAt l.f l.offers j;
}
