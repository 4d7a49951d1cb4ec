-- In which case a refusal comes.
--   all_yes qs   == every question has the answer yes
--   FirstNo qs r == a question with the refusal r has the answer no, and those before it have yes
-- Assumes nothing.
use Rattle.std.specs.Prelude.{◌≡◌, Bool, true, false, ◌&&◌, List, [], ◌∷◌, ◌++◌}
use Rattle.refusal.specs.declared.Refusal.{Refusal}
use Rattle.refusal.specs.Questions.{Question, ask}

unfoldable pub all_yes : List Question → Bool
all_yes [] = true
all_yes (q ∷ qs) = q.yes && all_yes qs

abbrev pub FirstNo : List Question → Refusal → Type 0
FirstNo qs r = (before : List Question) × (after : List Question) × (qs ≡ before ++ (ask r false ∷ after)) × (all_yes before ≡ true)
