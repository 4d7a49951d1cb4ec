-- `candidates::Kept::push` meets its contract. The invariant: the first pairs are left, and no other was lighter.
-- Assumes nothing.
use Rattle.candidates.proofs.Pairs.{Popped}
use Rattle.candidates.proofs.Kept.push.Given as goal

abbrev pub invariant-loop-self : goal.invariant-loop-self
invariant-loop-self l = Popped l.fn.self l.pair l.self

abbrev pub decreases-loop-self : goal.decreases-loop-self
decreases-loop-self l = l.self.count
