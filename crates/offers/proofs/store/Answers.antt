-- `offers::store` meets its contract: each turn stores one pair.
-- Assumes nothing.
use Prim.Native.Nat.{◌<◌}
use native.Mathlib.Omega.{arith}
use mathlib.Core.Path.{ap}
use lib.Seq.{get_or-take}
use Rattle.least.proofs.Stores.{store_step}
use Rattle.candidates.specs.declared.Pair.{Pair}
use Rattle.candidates.specs.Candidates.{pair}
use Rattle.offers.proofs.store.Goals as goal

pub loop-i-preserved : goal.loop-i-preserved
loop-i-preserved c =
    let l = c.loop-i in
    let kept = c.args.kept.now in
    let room = c.requires.2 in
    let h : l.i < kept.count = omega (arith, c.loop-i-test.true) in
    let is = get_or-take kept.count kept.pairs l.i (pair 0 0) h in
    record {
      periods = l.invariant.periods;
      counts = l.invariant.counts;
      count = l.invariant.count;
      budgets = store_step _ _ _ l.offers.budgets l.i _ l.invariant.budgets (omega (arith, c.requires, room)) (ap (λ (p : Pair). p.budget) is);
      holdings = store_step _ _ _ l.offers.holdings l.i _ l.invariant.holdings (omega (arith, c.requires, room)) (ap (λ (p : Pair). p.holding) is);
    }
