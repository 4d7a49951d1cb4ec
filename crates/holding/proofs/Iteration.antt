-- The need behind a holding time, as a function of w: it does not fall, and never falls below g; and jumps by lines under it.
-- Assumes nothing.
use Prim.Native.Nat.{ℕ, ◌+◌, ◌≤◌}
use native.Mathlib.Omega.{arith}
use native.Mathlib.Nat.{le_refl, add-le-add, le-add_right}
use mathlib.Core.List.{List}
use lib.ListN.{drop}
use Rattle.least.proofs.Iterate.{Mono}
use Rattle.demand.specs.declared.Workload.{Workload}
use Rattle.envelope.specs.declared.supply.LinearSupply.{LinearSupply}
use Rattle.envelope.specs.Code.Supply.{FineSupply}
use Rattle.envelope.specs.Code.Envelope.{NoEarlier}
use Rattle.task_set.specs.declared.Task.{Task}
use Rattle.task_set.specs.Tasks.{demand_in}
use Rattle.task_set.specs.Code.ByColumn.{times_of, FineTimes}
use Rattle.task_set.proofs.Demand.{Separated, separated_drop, demand_mono}
use Rattle.task_set.proofs.Times.{times_demand, times_separated}

abbrev pub hold_need : List Task → ℕ → ℕ → ℕ → ℕ
hold_need ts g r w = g + demand_in (drop r ts) w

need_mono : (ts : List Task) → Separated ts → (g r : ℕ) → Mono (hold_need ts g r)
need_mono ts apart g r v w l = add-le-add (le_refl g) (demand_mono (drop r ts) (separated_drop r ts apart) v w l)

pub times_mono : (tasks : Workload) → FineTimes tasks → (g r : ℕ) → Mono (hold_need (times_of tasks) g r)
times_mono tasks fine = need_mono (times_of tasks) (times_separated tasks fine)

pub need_from : (ts : List Task) (g r v : ℕ) → g ≤ hold_need ts g r v
need_from ts g r v = le-add_right g _

-- a tick in every tick
abbrev whole_supply : FineSupply 1 0 1 → LinearSupply
whole_supply fine = record { times = 1; wait = 0; rate = 1; fine = fine }

-- no time from w and x on that is enough is before y
pub whole_jump : (tasks : Workload) (g r w x y : ℕ) {fine : FineSupply 1 0 1} → NoEarlier tasks.periods tasks.costs tasks.count r g (whole_supply fine) w x y → (v : ℕ) → w ≤ v → x ≤ v → hold_need (times_of tasks) g r v ≤ v → y ≤ v
whole_jump tasks g r w x y far v l k h = far.none_before v l k (omega (arith, times_demand tasks r v))
