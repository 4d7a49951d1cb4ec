-- `raising::raise` meets its contract. The invariant: the locks up to the place j have their next ceiling, the others still the old one, and
-- what the hint says is so.
-- Assumes nothing.
use Rattle.task_set.specs.Code.ByColumn.{times_of}
use Rattle.holding.specs.Code.Search.{HintIs}
use Rattle.raising.specs.Code.Raising.{ceiling_at}
use Rattle.raising.proofs.Raising.{RaisedTo}
use Rattle.raising.proofs.raise.Given as goal

abbrev pub invariant-loop-j : goal.invariant-loop-j
invariant-loop-j l =
    RaisedTo (ceiling_at (times_of l.tasks) l.locks l.ceilings l.times l.x) l.m l.ceilings l.times l.raised l.j l.j × HintIs (times_of l.tasks) l.hint
