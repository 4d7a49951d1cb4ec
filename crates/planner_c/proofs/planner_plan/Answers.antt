-- `planner_c::planner_plan` meets its contract: the answer of `planner::plan`, with its outcome as number and place.
-- Assumes nothing.
use Rattle.planner_c.proofs.planner_plan.Goals as goal

pub returns : goal.returns
returns c = let p = c.plan in record { answer = p.result; promised = p.ensures; is = c.plan_answer.ensures }
