-- `sharing::names_it` meets its contract: it is what `contains` answers.
-- Assumes nothing.
use Rattle.sharing.proofs.names_it.Goals as goal

pub returns : goal.returns
returns c = c.contains.ensures.value
