-- `listing::ShareLines::length` meets its contract.
-- Assumes nothing.
use native.Mathlib.Omega.{arith}
use Rattle.listing.specs.Code.Shares.{printed}
use Rattle.listing.proofs.Ceilings.{share_length}
use Rattle.listing.proofs.ShareLines.length.Goals as goal

pub returns : goal.returns
returns c =
    (omega (arith, share_length (printed c.args.self.now), c.share_length.ensures.0, c.ceilings_length.ensures.0), omega (arith, c.share_length.ensures.1, c.ceilings_length.ensures.1))
