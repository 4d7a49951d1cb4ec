-- `budget::enough_at` meets its contract. The invariant: the least budget that is enough is from `least` to `most`.
-- Assumes nothing.
use Prim.Native.Nat.{◌-◌}
use Rattle.least.proofs.Bisect.{Bracket}
use Rattle.budget.proofs.Enough.{enough}
use Rattle.budget.proofs.enough_at.Given as goal

abbrev pub invariant-loop-least : goal.invariant-loop-least
invariant-loop-least l = Bracket (enough l.period l.need l.t) l.from l.to l.least l.most

abbrev pub decreases-loop-least : goal.decreases-loop-least
decreases-loop-least l = l.most - l.least
