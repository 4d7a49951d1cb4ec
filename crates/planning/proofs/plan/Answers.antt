-- `planning::plan` meets its contract.
-- Assumes nothing.
use Rattle.answers.proofs.Handing.{handed_over}
use Rattle.planning.proofs.plan.Goals as goal

pub returns : goal.returns
returns c = handed_over c.listed.ensures c.from.ensures
