-- `listing::ShareLines::share_length` meets its contract.
-- Assumes nothing.
use native.Mathlib.Omega.{arith}
use Rattle.listing.specs.Listing.{share_under}
use Rattle.listing.specs.Code.Shares.{printed}
use Rattle.listing.proofs.Lines.{share_length}
use Rattle.listing.proofs.ShareLines.share_length.Goals as goal

pub returns : goal.returns
unfolding share_under
returns c =
    (omega (arith, share_length (printed c.args.self.now), c.bound_length.ensures.0, c.digit_count-holding.ensures, c.digit_count-budget.ensures, c.digit_count-period.ensures), omega (arith, c.requires.name))
