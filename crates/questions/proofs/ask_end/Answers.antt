-- `questions::ask_end` meets its contract.
-- Assumes nothing.
use Rattle.refusal.specs.Questions.{first_no}
use Rattle.plan_file.specs.Code.Entries.{end_entry, entry_if}
use Rattle.questions.proofs.ask_end.Goals as goal

pub returns-then-allowed : goal.returns-then-allowed
unfolding end_entry entry_if first_no
returns-then-allowed c = simp c.if-allowed.true

pub returns-else-allowed : goal.returns-else-allowed
unfolding end_entry entry_if first_no
returns-else-allowed c = simp c.if-allowed.false
