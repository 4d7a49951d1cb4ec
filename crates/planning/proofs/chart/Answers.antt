-- `planning::chart` meets its contract.
-- Assumes nothing.
use Rattle.answers.proofs.Handing.{handed_over}
use Rattle.planning.proofs.chart.Goals as goal

pub returns : goal.returns
returns c = handed_over c.charted.ensures c.from.ensures
