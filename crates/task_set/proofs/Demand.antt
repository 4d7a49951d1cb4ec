-- Laws of the demand: it does not fall in w, nor with more tasks.
--   Separated ts == every task's separation is at least 1
-- Assumes nothing.
use Prim.Native.Nat.{ℕ, zero, suc, ◌≤◌}
use native.Mathlib.Omega.{arith}
use mathlib.Core.List.{List, [], ◌∷◌, Memᴰ}
use lib.ListN.{drop}
use Rattle.least.specs.Lists.{sum}
use Rattle.least.proofs.Members.{drop_member}
use Rattle.demand.proofs.Demand as demand
use Rattle.task_set.specs.declared.Task.{Task}
use Rattle.task_set.specs.Tasks.{demand_in}

abbrev pub Separated : List Task → Type 0
Separated ts = (task : Task) → Memᴰ task ts → 1 ≤ task.separation

pub separated_drop : (r : ℕ) (ts : List Task) → Separated ts → Separated (drop r ts)
separated_drop r ts apart task m = apart task (drop_member r ts m)

pub demand_mono : (ts : List Task) → Separated ts → (v w : ℕ) → v ≤ w → demand_in ts v ≤ demand_in ts w
unfolding demand_in
demand_mono ts apart v w l = demand.demand_mono (λ task. task.separation) (λ task. task.cost) ts apart v w l

-- the tasks above r + 1 ask for no more than those above r
pub demand_drop : (r : ℕ) (ts : List Task) (w : ℕ) → demand_in (drop (suc r) ts) w ≤ demand_in (drop r ts) w
unfolding demand_in sum
demand_drop r [] w = omega arith
demand_drop zero (task ∷ ts) w = omega arith
demand_drop (suc r) (task ∷ ts) w = demand_drop r ts w
