-- `offers::first_missing` meets its contract.
-- Assumes nothing.
use mathlib.Core.Path.{refl}
use Rattle.std.proofs.lemmas.Iterator.{YieldsList-from_slice}
use Rattle.std.proofs.lemmas.Iterator.Adapters.{serves_from_places}
use Rattle.offers.proofs.Gathering.{item_fine}
use Rattle.offers.proofs.first_missing.Goals as goal

pub position-requires-clause-callable : goal.position-requires-clause-callable
position-requires-clause-callable c =
    serves_from_places (YieldsList-from_slice _ c.iter.ensures.rest) (λ x q h. refl) (λ x k h e _ _ _ _ _. item_fine c.args.f.now c.requires x.now k h e)
