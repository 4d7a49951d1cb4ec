-- `listing::ceiling_length` meets its contract.
-- Assumes nothing.
use native.Mathlib.Omega.{arith}
use Rattle.listing.proofs.Lines.{ceiling_length}
use Rattle.listing.proofs.ceiling_length.Goals as goal

pub returns : goal.returns
returns c = (omega (arith, ceiling_length c.args.lock.now c.args.number, c.digit_count.ensures.0), omega arith)
