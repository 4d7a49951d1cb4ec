-- `selection::select` meets its contract. The invariant: the descent has come to the places.
-- Assumes nothing.
use Rattle.selection.proofs.Descent.{places_left}
use Rattle.selection.proofs.Selecting.{Selecting}
use Rattle.selection.proofs.select.Given as goal

abbrev pub invariant-loop-blocking : goal.invariant-loop-blocking
invariant-loop-blocking l = Selecting l.offers l.places l.best l.chosen

abbrev pub decreases-loop-blocking : goal.decreases-loop-blocking
decreases-loop-blocking l = places_left l.offers.counts l.offers.count l.places
