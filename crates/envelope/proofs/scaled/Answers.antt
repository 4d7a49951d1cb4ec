-- `envelope::scaled` meets its contract.
-- Assumes nothing.
use native.Mathlib.Omega.{arith}
use Rattle.envelope.proofs.Jump.{two_digits}
use Rattle.envelope.proofs.scaled.Goals as goal

pub returns : goal.returns
returns c = two_digits _ _ (omega arith)
