-- `offers::refusal_of_over` meets its contract.
-- Assumes nothing.
use mathlib.Core.Path.{sym, ◌∙◌}
use Rattle.offers.proofs.Choosing.{over_missing, over_refused}
use Rattle.offers.proofs.refusal_of_over.Goals as goal

pub returns-in-Some : goal.returns-in-Some
returns-in-Some c = over_missing c.args.f.now c.requires.0 c.in-Some.k (sym c.first_missing.ensures ∙ c.in-Some.is)

pub returns-in-None : goal.returns-in-None
returns-in-None c = over_refused c.args.f.now c.requires.0 c.requires.1 (sym c.first_missing.ensures ∙ c.in-None.is)
