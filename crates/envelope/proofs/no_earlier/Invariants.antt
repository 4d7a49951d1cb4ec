-- `envelope::no_earlier` meets its contract. The invariant: the demand is met at no time before `far`.
-- Assumes nothing.
use Prim.Native.Nat.{◌+◌, ◌-◌}
use Rattle.envelope.specs.Code.Envelope.{NoEarlier}
use Rattle.envelope.proofs.no_earlier.Given as goal

abbrev pub invariant-loop-far : goal.invariant-loop-far
invariant-loop-far l = NoEarlier l.rows.periods l.rows.costs l.rows.count l.s l.own l.by l.t l.next l.far

abbrev pub decreases-loop-far : goal.decreases-loop-far
decreases-loop-far l = l.limit + 1 - l.far
