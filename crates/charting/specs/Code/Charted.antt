-- The chart of the rows of a plan.
--   chart_of_rows rows room == the chart of these rows, or the refusal of the first no among questions 19 and 14
-- Assumes nothing.
use Rattle.std.specs.Prelude.{ℕ, List, [], ◌∷◌, ◌++◌, leb}
use Rattle.refusal.specs.declared.Refusal.TheVariants.{NoRoom}
use Rattle.refusal.specs.Limits.{cycle}
use Rattle.refusal.specs.Questions.{Answer, ask, first_no, when_done}
use Rattle.refusal.specs.Questions.Answer.{answered}
use Rattle.load.specs.declared.Row.{Row}
use Rattle.layout.specs.Layout.{chart}
use Rattle.answers.specs.Plan.{cycle_questions}

unfoldable pub chart_of_rows : List Row → ℕ → Answer (List ℕ)
chart_of_rows rows room = when_done (first_no (cycle_questions rows ++ (ask NoRoom (leb cycle room) ∷ []))) (answered (chart rows))
