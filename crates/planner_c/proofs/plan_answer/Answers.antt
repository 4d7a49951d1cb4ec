-- `planner_c::plan_answer` meets its contract.
-- Assumes nothing.
use Rattle.planner_c.specs.Exported.{plan_exported}
use Rattle.planner_c.proofs.plan_answer.Goals as goal

pub returns : goal.returns
unfolding plan_exported
returns c =
    let a = c.args.a in
    λ i. record { number = c.number.ensures i; place = c.place.ensures i; written = a.written }
