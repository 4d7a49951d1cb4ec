-- `inquiries::candidates` meets its contract: the list, or the refusal.
-- Assumes nothing.
use mathlib.Core.Path.{sym, ap}
use Rattle.least.specs.Lists.{pad}
use Rattle.candidates.specs.Candidates.{kept_answer}
use Rattle.answers.specs.Answers.{candidate_list}
use Rattle.inquiries.proofs.candidates.Goals as goal

pub returns-in-Err : goal.returns-in-Err
unfolding candidate_list kept_answer pad
returns-in-Err c = sym (ap candidate_list c.in-Err.ensures)
