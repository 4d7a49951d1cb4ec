-- Questions 10 and 11, where the parts offer these rows.
--   choice_questions offers == questions 10 (the first part that offers no row) and 11 (0 where no choice of offered rows passes the system test)
-- Where the rows are those of the kept pairs, no choice at all passes then: `refused_iff_none_passes` of the crate planner.
-- Assumes nothing.
use Rattle.std.specs.Prelude.{not, List, [], ◌∷◌}
use Rattle.least.specs.Lists.{is_empty, every, some, first_of}
use Rattle.refusal.specs.declared.Refusal.TheVariants.{NoBudget, NoChoice}
use Rattle.refusal.specs.Questions.{Question, ask}
use Rattle.load.specs.declared.Row.{Row}
use Rattle.load.specs.Load.{passes_system}
use Rattle.selection.specs.Selection.{choices}

unfoldable pub choice_questions : List (List Row) → List Question
choice_questions offers =
    ask (NoBudget (first_of is_empty offers)) (every (λ rows. not (is_empty rows)) offers)
    ∷ ask NoChoice (some passes_system (choices offers))
    ∷ []
