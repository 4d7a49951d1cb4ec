-- The ceilings of all locks at x: they make the setting that is shown for x, with its X.
--   AllShown v x ceilings times == each lock has the ceiling that is shown for it at x, and the time that counts there
--   AllKnown v y ceilings times == that of a greater x, or nothing is known yet
-- Assumes nothing.
use Rattle.std.specs.Prelude.{Some}
use Prim.Native.Nat.{ℕ, zero, suc, ◌-◌, ◌≤◌, ◌<◌}
use native.Mathlib.Omega.{arith}
use mathlib.Core.Path.{◌≡◌, sym, ap, ◌∙◌}
use mathlib.Core.List.{List, map, map-map}
use lib.ListN.{get_or}
use Rattle.least.specs.Search.{number_or0}
use Rattle.least.specs.Lists.{greatest, count_from, range}
use Rattle.least.proofs.Lists.{map_same, count_from_lem}
use Rattle.least.proofs.Count.{count_suc}
use Rattle.refusal.specs.Limits.{number_limit}
use Rattle.task_set.specs.declared.Part.{Part}
use Rattle.task_set.specs.declared.Lock.{Lock}
use Rattle.task_set.specs.Code.Tasks.{tasks_of}
use Rattle.task_set.specs.Partition.{Partition}
use Rattle.task_set.specs.Code.Partition.{partition_of}
use Rattle.task_set.specs.Code.Fine.{FinePart}
use Rattle.task_set.specs.Code.ByColumn.{times_of}
use Rattle.task_set.specs.Code.ByLock.{lock_of, lock_at, setting_of}
use Rattle.task_set.proofs.SettingsAgree.{Agree}
use Rattle.task_set.proofs.ByColumn.{columns_length, columns_demand}
use Rattle.task_set.proofs.ByLock.{same_lock, deadline_most}
use Rattle.task_set.proofs.BlockingAt.{setting_at}
use Rattle.holding.specs.Holding.{holding_time_of}
use Rattle.holding.proofs.Holding.{counted_time, holding_time_counted}
use Rattle.raising.specs.Code.Raising.{next_ceiling, ceiling_at, held_time}
use Rattle.candidates.specs.declared.Tables.{Tables}
use Rattle.candidates.specs.Candidates.{shown_ceiling}
use Rattle.candidates.specs.Statement.{Permitted}
use Rattle.candidates.specs.Code.KeptSearch.{TablesAre}
use Rattle.candidates.proofs.Shown.{lowest_within, found_shown, found_permitted, found_holding}
use Rattle.candidates.proofs.Known.{held_by, shown_at, Known, Shows, next_same, next_shown, shown_held}

abbrev pub AllShown : Partition → ℕ → List ℕ → List ℕ → Type 0
AllShown v x ceilings times = (j : ℕ) → j < v.locks → shown_at v x (suc j) ≡ held_by (get_or ceilings j 0) (get_or times j 0)

abbrev pub AllKnown : Partition → ℕ → List ℕ → List ℕ → Type 0
AllKnown v y ceilings times = (j : ℕ) → j < v.locks → Known v y (suc j) (get_or ceilings j 0) (get_or times j 0)

-- what the code asks for is the ceiling shown at x
module _ (p : Part) (fine : FinePart p) (t : Tables) (are : TablesAre p t) where
  lock_is : (j : ℕ) → j < p.locks → lock_at t.locks j ≡ lock_of (suc j) (tasks_of p)
  lock_is j l = same_lock (lock_at t.locks j) (lock_of (suc j) (tasks_of p)) (are.locks.lowest j l) (are.locks.longest j l) (are.locks.deadlines j l)

  pub next_at : (x y : ℕ) (ceilings times : List ℕ) → x ≤ y → x ≤ number_limit → AllKnown (partition_of p) y ceilings times
      → (j : ℕ) → j < p.locks → ceiling_at (times_of t.columns.times) t.locks ceilings times x j ≡ shown_at (partition_of p) x (suc j)
  next_at x y ceilings times h b known j l =
      ap (λ (lock : Lock). next_ceiling (times_of t.columns.times) lock (get_or ceilings j 0) (get_or times j 0) x) (lock_is j l)
      ∙ next_same (times_of t.columns.times) (tasks_of p) (columns_demand p fine t.columns are.columns) (columns_length p fine t.columns are.columns) (lock_of (suc j) (tasks_of p)) (get_or ceilings j 0) (get_or times j 0) x
      ∙ next_shown (partition_of p) x y (suc j) (get_or ceilings j 0) (get_or times j 0) h b (deadline_most p fine (suc j) (omega arith) (omega arith)) (known j l)

-- all locks have their ceiling
module _ (v : Partition) (x : ℕ) (ceilings times : List ℕ) (all : AllShown v x ceilings times) where
  shows : (j : ℕ) → j < v.locks → Shows v x (suc j) (get_or ceilings j 0) (get_or times j 0)
  shows j h = shown_held v x (suc j) (get_or ceilings j 0) (get_or times j 0) (all j h)

  found : (l : ℕ) → 1 ≤ l → l ≤ v.locks → (r : ℕ) × (lowest_within v x l ≡ Some r)
  found zero a b = absurd (omega arith)
  found (suc j) a b = (get_or ceilings j 0, (shows j (omega arith)).lowest)

  pub shown_permitted : Permitted v (shown_ceiling v x)
  shown_permitted = found_permitted v x found

  pub shown_most : holding_time_of v (shown_ceiling v x) ≤ x
  shown_most = found_holding v x found

  ceiling_is : (j : ℕ) → j < v.locks → shown_ceiling v x (suc j) ≡ get_or ceilings j 0
  ceiling_is j h = found_shown v x (suc j) (get_or ceilings j 0) (shows j h).lowest

  pub setting_agrees : Agree v.locks (setting_of ceilings) (shown_ceiling v x)
  setting_agrees zero a b = absurd (omega arith)
  setting_agrees (suc j) a b = setting_at ceilings j ∙ sym (ceiling_is j (omega arith))

  number_at : (j : ℕ) → j < v.locks → number_or0 (counted_time v (suc j) (shown_ceiling v x (suc j))) ≡ held_time (shown_at v x (suc j))
  unfolding number_or0
  number_at j h = ap (λ (r : ℕ). number_or0 (counted_time v (suc j) r)) (ceiling_is j h) ∙ ap number_or0 (shows j h).time ∙ sym (ap held_time (all j h))

  pub holding_greatest : holding_time_of v (shown_ceiling v x) ≡ greatest (map (λ j. held_time (shown_at v x (suc j))) (count_from 0 v.locks))
  unfolding range
  holding_greatest =
      let e : suc v.locks - 1 ≡ v.locks = omega arith in
      holding_time_counted v (shown_ceiling v x)
      ∙ ap greatest
      (ap (λ (n : ℕ). map (λ l. number_or0 (counted_time v l (shown_ceiling v x l))) (count_from 1 n)) e
      ∙ ap (map (λ l. number_or0 (counted_time v l (shown_ceiling v x l)))) (count_suc v.locks 0)
      ∙ map-map (λ l. number_or0 (counted_time v l (shown_ceiling v x l))) suc (count_from 0 v.locks)
      ∙ map_same (λ j. number_or0 (counted_time v (suc j) (shown_ceiling v x (suc j)))) (λ j. held_time (shown_at v x (suc j))) (count_from 0 v.locks) (λ j q. number_at j (omega (arith, (count_from_lem v.locks 0 j q).1))))
