-- `listing::bound_length` meets its contract.
-- Assumes nothing.
use native.Mathlib.Omega.{arith}
use Rattle.listing.proofs.Lines.{bound_length}
use Rattle.listing.proofs.bound_length.Goals as goal

pub returns : goal.returns
returns c = let e = bound_length c.args.bound in (omega (arith, e, c.digit_count-2.ensures, c.digit_count.ensures), omega arith)
