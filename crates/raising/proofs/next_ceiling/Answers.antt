-- `raising::next_ceiling` meets its contract.
-- Assumes nothing.
use mathlib.Core.Path.{sym, ◌∙◌}
use borrow.Author.Tests.{le-leb, lt-leb}
use Rattle.raising.specs.Code.Raising.{next_ceiling}
use Rattle.raising.proofs.next_ceiling.Goals as goal
use Rattle.raising.proofs.next_ceiling.Goals.{then-time-le-NUMBER_LIMIT, else-time-le-NUMBER_LIMIT}

pub returns-clause-found : goal.returns-clause-found
unfolding next_ceiling
returns-clause-found c =
    let found = c.lowest_within.ensures.found in
    elim c.if-time-le-NUMBER_LIMIT.branch [
      | then-time-le-NUMBER_LIMIT w ↦ (rw w.from-is at found) ∙ sym (simp (lt-leb _ _ c.requires.3, le-leb _ _ w.if-time-le-NUMBER_LIMIT.true))
      | else-time-le-NUMBER_LIMIT w ↦ (rw w.from-is at found) ∙ sym (simp (lt-leb _ _ c.requires.3, lt-leb _ _ w.if-time-le-NUMBER_LIMIT.false))
    ]
