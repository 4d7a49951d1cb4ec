-- `envelope::first_met` meets its contract. The invariant: the demand is met at no time from `start` on before t. A step and a jump keep it.
-- Assumes nothing.
use Prim.Native.Nat.{◌+◌, ◌-◌, ◌≤◌}
use Rattle.least.proofs.Iterate.{UnsolvedFrom}
use Rattle.envelope.proofs.Meeting.{meeting_time}
use Rattle.envelope.proofs.first_met.Given as goal

abbrev pub invariant-loop-t : goal.invariant-loop-t
invariant-loop-t l = (l.start ≤ l.t) × UnsolvedFrom l.start (meeting_time l.rows.periods l.rows.costs l.rows.count l.s l.own l.by) l.t

abbrev pub decreases-loop-t : goal.decreases-loop-t
decreases-loop-t l = l.limit + 1 - l.t
