-- `utilisation::share_of` meets its contract. The invariant: what is summed and the share of the tasks from the index on make up the whole.
-- Assumes nothing.
use Prim.Native.Nat.{◌+◌, ◌*◌, ◌≤◌}
use mathlib.Core.Path.{◌≡◌}
use lib.ListN.{drop}
use Rattle.envelope.specs.Code.Envelope.{slope_scale}
use Rattle.task_set.specs.Code.Tasks.{tasks_of}
use Rattle.utilisation.specs.Code.Utilisation.{share_in}
use Rattle.utilisation.proofs.share_of.Given as goal

abbrev pub invariant-loop-k : goal.invariant-loop-k
invariant-loop-k l = (l.sum + share_in (drop l.k (tasks_of l.part)) ≡ share_in (tasks_of l.part)) × (l.sum ≤ l.k * slope_scale) × (l.k ≤ 16)
