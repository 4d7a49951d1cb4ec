-- `envelope::crossing` meets its contract.
-- Assumes nothing.
use native.Mathlib.Nat.{one-le-mul}
use native.Mathlib.Omega.{arith}
use Rattle.envelope.proofs.Jump.{crossing_never, crossing_at}
use Rattle.envelope.proofs.crossing.Goals as goal

pub returns-then-given-taken : goal.returns-then-given-taken
returns-then-given-taken c =
    let by = c.args.by in
    crossing_never _ _ _ (omega (arith, one-le-mul {a = by.times} {b = c.args.x} (omega (arith, by.fine)) c.requires.0)) c.if-given-taken.true

pub returns : goal.returns
returns c = crossing_at _ _ _ _ (omega arith) c.scaled.ensures
