-- `demand::Workload::demand_from` meets its contract: the period of each task is within the limit of numbers.
-- Assumes nothing.
use native.Mathlib.Omega.{arith}
use Rattle.demand.proofs.Workload.demand_from.Goals as goal

pub releases-requires : goal.releases-requires
releases-requires c =
    let fine = c.requires.0.fine in
    let k = c.loop-k.k in
    omega (arith, fine.some k c.loop-k-test.true, fine.most k c.loop-k-test.true)
