-- `candidates::blocks_longer` meets its contract. The invariants: no lock so far blocks a task for longer, and no task so far is blocked for longer by this one.
-- Assumes nothing.
use Rattle.candidates.specs.Code.KeptSearch.{NoLonger, NoneLonger}
use lib.ListN.{get_or}
use Rattle.candidates.proofs.blocks_longer.Given as goal

abbrev pub invariant-loop-j : goal.invariant-loop-j
invariant-loop-j l = NoneLonger l.tables.below l.blocked l.before l.ceilings l.j

abbrev pub invariant-loop-k : goal.invariant-loop-k
invariant-loop-k l = NoLonger l.tables.below l.blocked l.j (get_or l.before l.j 0) l.k
