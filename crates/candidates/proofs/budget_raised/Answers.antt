-- `candidates::budget_raised` meets its contract: where no task is blocked for longer, the blockings tested before are those now.
-- Assumes nothing.
use Rattle.candidates.proofs.Raises.{budget_stays}
use Rattle.candidates.proofs.budget_raised.Goals as goal

pub returns-in-Some : goal.returns-in-Some
returns-in-Some c =
    let t = c.args.tables.now in
    let was = c.requires.by_index.1 in
    rw c.in-Some.is (budget_stays t c.args.before.now c.args.ceilings.now c.in-Some.passing (c.blocks_longer.ensures c.if-not-blocks_longer.true) (rw c.in-Some.is at was))
