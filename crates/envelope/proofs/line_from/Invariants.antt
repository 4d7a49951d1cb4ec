-- `envelope::line_from` meets its contract. The invariant: the line so far, with what those from the place k on ask for, is not above the whole.
-- Assumes nothing.
use Rattle.envelope.proofs.Under.{Under}
use Rattle.envelope.proofs.line_from.Given as goal

abbrev pub invariant-loop-k : goal.invariant-loop-k
invariant-loop-k l = Under l.rows.periods l.rows.costs l.rows.count l.s l.t l.line.fixed l.line.slope l.k
