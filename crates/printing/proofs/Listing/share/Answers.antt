-- `printing::Listing::share` meets its contract.
-- Assumes nothing.
use mathlib.Core.Path.{ap}
use lib.ListN.{length}
use native.Mathlib.Omega.{arith}
use Rattle.listing.proofs.Ceilings.{stretch_length}
use Rattle.printing.proofs.Listing.share.Goals as goal

pub returns-clause-short : goal.returns-clause-short
returns-clause-short c =
    let short = c.args.self.now.to_print.short in
    record { name = omega (arith, short, ap length c.bytes.ensures, stretch_length); file = short }
