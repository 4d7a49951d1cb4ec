-- `demand::Workload::same_until` meets its contract. The invariant: the end is at most the next time of each task before the place k.
-- Assumes nothing.
use Rattle.demand.proofs.Stretch.{within_next, within_end}
use Rattle.demand.proofs.Workload.same_until.Goals as goal

pub loop-k-preserved : goal.loop-k-preserved
loop-k-preserved c = within_next _ _ _ _ _ _ _ _ (c.requires.0.some c.loop-k.k c.loop-k-test.true) c.loop-k.invariant c.next_time.ensures c.min-end.ensures

pub returns : goal.returns
returns c = within_end _ _ _ _ _ _ _ c.requires.0 c.loop-k-test.false c.loop-k.invariant
