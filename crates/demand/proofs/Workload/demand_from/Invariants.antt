-- `demand::Workload::demand_from` meets its contract. The invariant: what is summed and what those from the place k on ask for make up the whole.
-- Assumes nothing.
use Prim.Native.Nat.{◌+◌}
use mathlib.Core.Path.{◌≡◌}
use Rattle.demand.specs.Code.Demand.{demand_from}
use Rattle.demand.proofs.Workload.demand_from.Given as goal

abbrev pub invariant-loop-k : goal.invariant-loop-k
invariant-loop-k l = let w = l.self in l.sum + demand_from w.periods w.costs w.count l.k l.t ≡ demand_from w.periods w.costs w.count l.s l.t
