-- `load::greatest_row` meets its contract. The invariant: j is the place of the first of k bounds that reaches their greatest.
-- Assumes nothing.
use Rattle.least.proofs.Fraction.{Leads}
use Rattle.load.specs.Code.Rows.{no_frac}
use Rattle.load.proofs.greatest_row.Given as goal

abbrev pub invariant-loop-k : goal.invariant-loop-k
invariant-loop-k l = Leads no_frac l.bounds l.k l.j
