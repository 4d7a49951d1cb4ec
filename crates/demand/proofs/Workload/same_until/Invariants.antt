-- `demand::Workload::same_until` meets its contract. The invariant: the end is at most the next time of each task before the place k.
-- Assumes nothing.
use Rattle.demand.proofs.Stretch.{Within}
use Rattle.demand.proofs.Workload.same_until.Given as goal

abbrev pub invariant-loop-k : goal.invariant-loop-k
invariant-loop-k l = Within l.self.periods l.s l.t l.most l.k l.end
