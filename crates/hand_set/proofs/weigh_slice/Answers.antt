-- `hand_set::weigh_slice` meets its contract: what is weighed are the rows that have a place.
-- Assumes nothing.
use mathlib.Core.Path.{ap, ◌∙◌}
use Rattle.load.specs.Weigh.{weigh_rows}
use Rattle.hand_set.proofs.Gathered.{weigh_first}
use Rattle.hand_set.proofs.weigh_slice.Goals as goal

pub returns : goal.returns
returns c = c.weigh.ensures ∙ ap weigh_rows c.first_rows.ensures ∙ weigh_first c.args.rows.now
