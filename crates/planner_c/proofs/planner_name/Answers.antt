-- `planner_c::planner_name` meets its contract: the stretch of `planner::name_stretch`, with its outcome as number and place.
-- Assumes nothing.
use mathlib.Core.Path.{◌≡◌, ap, ◌∙◌}
use Rattle.stretch.specs.Stretch.{bytes_of}
use Rattle.planner_c.specs.Exported.{name_exported}
use Rattle.planner_c.proofs.planner_name.Goals as goal

pub returns : goal.returns
unfolding bytes_of name_exported
returns c =
    let n = c.name_stretch-a in
    let whole : _ ≡ name_exported n.result = λ i. record { number = c.number.ensures i; place = c.place.ensures i; start = n.result.span.start; length = n.result.span.len } in
    record { is = whole ∙ ap name_exported n.ensures.is; bytes = n.ensures.bytes }
