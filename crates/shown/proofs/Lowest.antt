-- What the code looks for, lock by lock, is the ceiling shown.
--   ceiling_or0 a == the ceiling that was found, 0 where there is none
-- Assumes nothing.
use Rattle.std.specs.Prelude.{Option, Some, None}
use Prim.Native.Nat.{ℕ, suc, ◌<◌}
use mathlib.Core.Path.{◌≡◌, refl, sym, ap, ap₂, ◌∙◌}
use mathlib.Core.Bool.{true, false}
use mathlib.Core.List.{List}
use lib.ListN.{get_or}
use Rattle.least.specs.Search.{number_or0}
use Rattle.task_set.specs.declared.Part.{Part}
use Rattle.task_set.specs.declared.Task.{Task}
use Rattle.task_set.specs.declared.Columns.{Columns}
use Rattle.task_set.specs.declared.Lock.{Lock}
use Rattle.task_set.specs.Tasks.{lowest_ceiling, greatest_held, smallest_deadline}
use Rattle.task_set.specs.Code.Tasks.{tasks_of}
use Rattle.task_set.specs.Partition.{Partition, is_shared}
use Rattle.task_set.specs.Code.Partition.{partition_of}
use Rattle.task_set.specs.Code.Fine.{FinePart}
use Rattle.task_set.specs.Code.ByColumn.{times_of, ColumnsAre}
use Rattle.task_set.specs.Code.ByLock.{lock_at, LocksAre}
use Rattle.task_set.proofs.Places.{shared_at}
use Rattle.task_set.proofs.ByColumn.{columns_length, columns_demand}
use Rattle.holding.specs.declared.Held.{Held}
use Rattle.holding.specs.Code.Search.{lowest_held}
use Rattle.candidates.specs.Candidates.{shown_ceiling}
use Rattle.candidates.proofs.Shown.{lowest_within, within_shared, shown_private, found_shown}
use Rattle.candidates.proofs.Known.{shown_at, lowest_held_same, shared_shown}

unfoldable pub ceiling_or0 : Option Held → ℕ
ceiling_or0 (Some h) = h.ceiling
ceiling_or0 None = 0

-- of a partition
shown_shared : (v : Partition) (x l : ℕ) → is_shared v l ≡ true
    → ceiling_or0 (lowest_held v.tasks (greatest_held l v.tasks) (smallest_deadline l v.tasks) x (lowest_ceiling l v.tasks)) ≡ shown_ceiling v x l
unfolding shown_ceiling ceiling_or0 number_or0
shown_shared v x l s = ap ceiling_or0 (sym (shared_shown v x l s)) ∙ go (lowest_within v x l) refl
  where
    go : (a : Option ℕ) → lowest_within v x l ≡ a → ceiling_or0 (shown_at v x l) ≡ shown_ceiling v x l
    go (Some r) e = rw e (sym (found_shown v x l r e))
    go None e = rw e (simp s (ap number_or0 (sym e ∙ within_shared v x l s)))

-- of a part by its columns
module _ (p : Part) (fine : FinePart p) (c : Columns) (are : ColumnsAre p c) (locks : List Lock) (k : LocksAre p locks) (x j : ℕ) (h : j < p.locks) where
  abbrev ts : List Task
  ts = times_of c.times

  abbrev lock : Lock
  lock = lock_at locks j

  pub by_column : lowest_held ts lock.longest lock.deadline x lock.lowest ≡ lowest_held (tasks_of p) (greatest_held (suc j) (tasks_of p)) (smallest_deadline (suc j) (tasks_of p)) x (lowest_ceiling (suc j) (tasks_of p))
  by_column =
      lowest_held_same ts (tasks_of p) (columns_demand p fine c are) (columns_length p fine c are) lock.longest lock.deadline x lock.lowest
      ∙ ap₂ (λ (g limit : ℕ). lowest_held (tasks_of p) g limit x lock.lowest) (k.longest j h) (k.deadlines j h)
      ∙ ap (lowest_held (tasks_of p) (greatest_held (suc j) (tasks_of p)) (smallest_deadline (suc j) (tasks_of p)) x) (k.lowest j h)

  pub shown_by_search : get_or p.shared j false ≡ true → ceiling_or0 (lowest_held ts lock.longest lock.deadline x lock.lowest) ≡ shown_ceiling (partition_of p) x (suc j)
  shown_by_search e = ap ceiling_or0 by_column ∙ shown_shared (partition_of p) x (suc j) (shared_at p j h ∙ e)

  pub shown_lowest : get_or p.shared j false ≡ false → lock.lowest ≡ shown_ceiling (partition_of p) x (suc j)
  shown_lowest e = k.lowest j h ∙ sym (shown_private (partition_of p) x (suc j) (shared_at p j h ∙ e))
