-- `candidates::kept_of` meets its contract. The invariant: the search has come to X − 1 of the last turn, and the pairs are those that the walk keeps from X on.
-- Assumes nothing.
use Rattle.candidates.proofs.Searching.{Searching}
use Rattle.candidates.proofs.kept_of.Given as goal

abbrev pub invariant-loop-raised : goal.invariant-loop-raised
invariant-loop-raised l = Searching l.part l.tables l.raised l.last l.kept

abbrev pub decreases-loop-raised : goal.decreases-loop-raised
decreases-loop-raised l = l.raised.holding
