-- `planner_c::planner_supply` meets its contract: the answer of `planner::supply`, with its outcome as number and place.
-- Assumes nothing.
use mathlib.Core.Path.{ap, ◌∙◌}
use Rattle.planner_c.specs.Exported.{supply_exported}
use Rattle.planner_c.proofs.planner_supply.Goals as goal

pub returns : goal.returns
unfolding supply_exported
returns c =
    let a = c.supply-a in
    (λ i. record { number = c.number.ensures i; place = c.place.ensures i; ticks = a.result.ticks }) ∙ ap supply_exported a.ensures
