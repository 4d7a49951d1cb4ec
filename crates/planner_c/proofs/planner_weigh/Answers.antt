-- `planner_c::planner_weigh` meets its contract: the answer of `planner::weigh`, with its outcome as number and place.
-- Assumes nothing.
use mathlib.Core.Path.{ap, ◌∙◌}
use Rattle.planner_c.specs.Exported.{weigh_exported}
use Rattle.planner_c.proofs.planner_weigh.Goals as goal

pub returns : goal.returns
returns c = c.weigh_answer.ensures ∙ ap weigh_exported c.weigh.ensures
