-- `listing::ShareLines::load_length` meets its contract.
-- Assumes nothing.
use native.Mathlib.Omega.{arith}
use Rattle.listing.specs.Listing.{share_under}
use Rattle.listing.specs.Code.Shares.{printed}
use Rattle.listing.proofs.Lines.{load_length}
use Rattle.listing.proofs.ShareLines.load_length.Goals as goal

pub returns : goal.returns
unfolding share_under
returns c = (omega (arith, load_length (printed c.args.self.now), c.bound_length.ensures.0), omega (arith, c.requires.name))
