-- `sharing::has_number` meets its contract: it is what `contains` answers.
-- Assumes nothing.
use Rattle.sharing.proofs.has_number.Goals as goal

pub returns : goal.returns
returns c = c.contains.ensures.value
