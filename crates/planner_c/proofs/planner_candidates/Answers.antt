-- `planner_c::planner_candidates` meets its contract: the answer of `planner::candidates`, with its outcome as number and place.
-- Assumes nothing.
use mathlib.Core.Path.{ap, ◌∙◌}
use Rattle.planner_c.specs.Exported.{candidates_exported}
use Rattle.planner_c.proofs.planner_candidates.Goals as goal

pub returns : goal.returns
unfolding candidates_exported
returns c =
    let a = c.candidates-a in
    (λ i. record { number = c.number.ensures i; place = c.place.ensures i; kept = a.result.kept }) ∙ ap candidates_exported a.ensures
