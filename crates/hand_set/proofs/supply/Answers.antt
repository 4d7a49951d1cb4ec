-- `hand_set::supply` meets its contract.
-- Assumes nothing.
use mathlib.Core.Path.{sym, ◌∙◌}
use Rattle.refusal.specs.Questions.{when_done, first_no}
use Rattle.answers.specs.Answers.{supply_answer, supplied}
use Rattle.hand_set.proofs.supply.Goals as goal

pub returns-then-is_in_range : goal.returns-then-is_in_range
unfolding supplied supply_answer when_done first_no
returns-then-is_in_range c = simp (sym c.is_in_range.ensures ∙ c.if-is_in_range.true, c.supply.ensures)

pub returns-else-is_in_range : goal.returns-else-is_in_range
unfolding supplied supply_answer when_done first_no
returns-else-is_in_range c = simp (sym c.is_in_range.ensures ∙ c.if-is_in_range.false)
