-- `planner_c::weigh_answer` meets its contract.
-- Assumes nothing.
use Rattle.planner_c.specs.Exported.{weigh_exported}
use Rattle.planner_c.proofs.weigh_answer.Goals as goal

pub returns : goal.returns
unfolding weigh_exported
returns c =
    let a = c.args.a in
    λ i. record { number = c.number.ensures i; place = c.place.ensures i; bounds = a.bounds; load = a.load; row = a.row }
