-- The table of the longest uses by lower tasks, place by place.
--   longest_at p k == what the table has at the place k
-- Assumes nothing.
use Prim.Native.Nat.{ℕ, suc, ◌+◌, ◌-◌, ◌*◌, ◌/◌, ◌%◌, max, ◌≤◌, ◌<◌}
use native.Mathlib.Omega.{arith}
use mathlib.Core.Path.{◌≡◌, refl, sym, ap, ap₂, ◌∙◌}
use mathlib.Core.List.{map}
use lib.ListN.{take, get_or, replicate, length-replicate, get_or-replicate}
use Rattle.least.specs.Lists.{greatest}
use Rattle.least.proofs.Lists.{nth_get}
use Rattle.least.proofs.Greatest.{greatest_take}
use Rattle.least.proofs.Fill.{Filled}
use Rattle.task_set.specs.declared.Part.{Part}
use Rattle.task_set.specs.Tasks.{held_for}
use Rattle.task_set.specs.Code.Fine.{blank_task}

-- the longest use of the lock at the place j by a task below the place i
abbrev longest : Part → ℕ → ℕ → ℕ
longest p i j = greatest (map (held_for (suc j)) (take i p.tasks))

abbrev pub longest_at : Part → ℕ → ℕ
longest_at p k = longest p (k / 8) (k % 8)

module _ (p : Part) where
  longest_next : (i j : ℕ) → longest p (suc i) j ≡ max (longest p i j) (get_or (get_or p.tasks i blank_task).uses j 0)
  unfolding held_for
  longest_next i j =
      greatest_take (held_for (suc j)) blank_task (nth_get 0 j blank_task.uses) i p.tasks
      ∙ ap (max (longest p i j)) (nth_get 0 j (get_or p.tasks i blank_task).uses)

  -- no task is below the lowest
  pub below_start : Filled 0 (longest_at p) 128 (replicate 128 0) 8
  unfolding greatest
  below_start = record { room = length-replicate {A = ℕ} 128 0; each = λ k h. let e : k / 8 ≡ 0 = omega arith in get_or-replicate 128 k 0 0 (omega arith) ∙ rw e refl }

  pub below_next : (i j : ℕ) → 1 ≤ i → j < 8 → longest_at p (8 * i + j) ≡ max (longest_at p (8 * i + j - 8)) (get_or (get_or p.tasks (i - 1) blank_task).uses j 0)
  below_next i j h l =
      let row : (8 * i + j) / 8 ≡ suc (i - 1) = omega arith in
      let j-is : (8 * i + j) % 8 ≡ j = omega arith in
      let row-below : (8 * i + j - 8) / 8 ≡ i - 1 = omega arith in
      let j-below : (8 * i + j - 8) % 8 ≡ j = omega arith in
      ap₂ (longest p) row j-is
      ∙ longest_next (i - 1) j
      ∙ ap (λ (x : ℕ). max x (get_or (get_or p.tasks (i - 1) blank_task).uses j 0)) (sym (ap₂ (longest p) row-below j-below))
