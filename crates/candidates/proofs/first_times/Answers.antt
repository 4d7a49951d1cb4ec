-- `candidates::first_times` meets its contract.
-- Assumes nothing.
use Rattle.std.specs.Prelude.{false}
use Rattle.std.proofs.Common.{rules}
use Rattle.candidates.proofs.first_times.Goals as goal

pub returns : goal.returns
returns c j h = let m = c.map.ensures.items.at j false 0 h in search (rules, m)
