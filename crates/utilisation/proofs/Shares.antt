-- The share of a part's tasks, place by place.
-- Assumes nothing.
use Prim.Native.Nat.{ℕ, suc, ◌+◌, ◌*◌, ◌≤◌, ◌<◌}
use native.Mathlib.Nat.{mul-le-mul_right, div-le_of_le-mul}
use mathlib.Core.Path.{◌≡◌, refl}
use lib.ListN.{drop, get_or}
use Rattle.least.specs.Lists.{sum}
use Rattle.envelope.specs.Code.Envelope.{slope_scale}
use Rattle.task_set.specs.declared.Part.{Part}
use Rattle.task_set.specs.Code.Tasks.{tasks_of}
use Rattle.task_set.specs.Code.Fine.{FinePart, blank_task}
use Rattle.task_set.proofs.Places.{tasks_at, tasks_end}
use Rattle.utilisation.specs.Code.Utilisation.{share, share_in}

-- a task asks for at most the whole processor
pub share_most : (C T : ℕ) → C ≤ T → share C T ≤ slope_scale
share_most C T l = div-le_of_le-mul T {m = C * slope_scale} {n = slope_scale} (mul-le-mul_right slope_scale l)

module _ (p : Part) (fine : FinePart p) where
  pub share_next : (k : ℕ) → k < p.count → share_in (drop k (tasks_of p)) ≡ share (get_or p.tasks k blank_task).cost (get_or p.tasks k blank_task).separation + share_in (drop (suc k) (tasks_of p))
  unfolding share_in sum
  share_next k h = rw (tasks_at p fine k h) refl

  pub share_end : (k : ℕ) → p.count ≤ k → share_in (drop k (tasks_of p)) ≡ 0
  unfolding share_in sum
  share_end k h = rw (tasks_end p fine k h) refl
