-- `planner_c::planner_chart` meets its contract: the answer of `planner::chart`, with its outcome as number and place.
-- Assumes nothing.
use Rattle.planner_c.proofs.planner_chart.Goals as goal

pub returns : goal.returns
returns c = let p = c.chart in record { answer = p.result; promised = p.ensures; is = c.plan_answer.ensures }
