-- Ceilings that are raised: where no lock blocks a task for longer that it reaches only now, every blocking stays, and so does the least budget.
-- Assumes nothing.
use Rattle.std.specs.Prelude.{Some}
use Prim.Native.Nat.{ℕ, ◌+◌, ◌*◌, ◌≤◌}
use native.Mathlib.Nat.{le_refl}
use native.Mathlib.Omega.{arith}
use native.Mathlib.Decide.{dec_le}
use mathlib.Core.Path.{◌≡◌, sym, ◌∙◌}
use mathlib.Core.List.{List, Memᴰ}
use lib.ListN.{get_or}
use borrow.Author.Tests.{eq-eqb}
use Rattle.least.specs.Lists.{count_from}
use Rattle.least.proofs.Lists.{count_from_lem}
use Rattle.least.proofs.Greatest.{greatest_each, greatest_le}
use Rattle.task_set.specs.Code.ByColumn.{times_of}
use Rattle.task_set.specs.Code.ByLock.{blocked_for, blocking_by}
use Rattle.task_set.proofs.BlockingAt.{blocked_for_is, blocked_for_not}
use Rattle.candidates.specs.declared.Tables.{Tables}
use Rattle.candidates.specs.declared.Budgeted.{Budgeted}
use Rattle.candidates.specs.Code.KeptSearch.{blocking_under, was_tested, WereTested, BudgetIs, NoLonger, NoneLonger}
use Rattle.candidates.proofs.Budgets.{down_tested}

-- what lock j blocks the task at the place i for
abbrev share : List ℕ → List ℕ → ℕ → ℕ → ℕ
share below ceilings i j = blocked_for (get_or ceilings j 0) (get_or below (8 * i + j) 0) i

module _ (below before ceilings : List ℕ) (m : ℕ) where
  -- the blockings before, in an array
  module _ (blocked : List ℕ) (none : NoneLonger below blocked before ceilings m) (i : ℕ) (is : get_or blocked i 0 ≡ blocking_by below before m i) where
    no_more : (j : ℕ) → Memᴰ j (count_from 0 m) → share below ceilings i j ≤ blocking_by below before m i
    unfolding blocking_by
    no_more j k = let h = count_from_lem m 0 j k in go (none j (omega (arith, h.1))) (dec_le (get_or before j 0) i) (dec_le (get_or ceilings j 0) i)
      where
        go : (get_or before j 0 ≤ get_or ceilings j 0) × NoLonger below blocked j (get_or before j 0) (get_or ceilings j 0) → Dec (get_or before j 0 ≤ i) → Dec (get_or ceilings j 0 ≤ i) → share below ceilings i j ≤ blocking_by below before m i
        go n b (yes c) = omega (arith, blocked_for_not (get_or ceilings j 0) (get_or below (8 * i + j) 0) i c)
        go n (yes b) (no c) = omega (arith, blocked_for_is (get_or ceilings j 0) (get_or below (8 * i + j) 0) i (omega arith), n.1 i b (omega arith), is)
        go n (no b) (no c) =
            omega (arith, blocked_for_is (get_or ceilings j 0) (get_or below (8 * i + j) 0) i (omega arith), blocked_for_is (get_or before j 0) (get_or below (8 * i + j) 0) i (omega arith), greatest_each (share below before i) (count_from 0 m) j k)

    no_less : (j : ℕ) → Memᴰ j (count_from 0 m) → share below before i j ≤ blocking_by below ceilings m i
    unfolding blocking_by
    no_less j k = let h = count_from_lem m 0 j k in go (none j (omega (arith, h.1))).0 (dec_le (get_or before j 0) i)
      where
        go : get_or before j 0 ≤ get_or ceilings j 0 → Dec (get_or before j 0 ≤ i) → share below before i j ≤ blocking_by below ceilings m i
        go n (yes b) = omega (arith, blocked_for_not (get_or before j 0) (get_or below (8 * i + j) 0) i b)
        go n (no b) =
            omega (arith, blocked_for_is (get_or before j 0) (get_or below (8 * i + j) 0) i (omega arith), blocked_for_is (get_or ceilings j 0) (get_or below (8 * i + j) 0) i (omega arith), greatest_each (share below ceilings i) (count_from 0 m) j k)

    pub blocking_stays : blocking_by below ceilings m i ≡ blocking_by below before m i
    unfolding blocking_by
    blocking_stays = omega (arith, greatest_le (share below ceilings i) _ (count_from 0 m) no_more, greatest_le (share below before i) _ (count_from 0 m) no_less)

-- where the blockings stay, every task was tested with its blocking, and all stays
pub budget_stays : (t : Tables) (before ceilings : List ℕ) (l : Budgeted) → NoneLonger t.below l.blocked before ceilings t.lock_count → WereTested t before (Some l) → BudgetIs t ceilings (Some l) (Some l)
budget_stays t before ceilings l none was = record { value = sym (down_tested (times_of t.columns.times) t.columns.times.costs t.columns.deadlines t.period (blocking_under t ceilings) (λ k. was_tested (Some l) k (blocking_under t ceilings k)) t.columns.times.count l.budget t.columns.times.count (le_refl t.columns.times.count) (λ k h. eq-eqb (get_or l.blocked k 0) (blocking_under t ceilings k) (same k h))); tested = same }
  where
    same : WereTested t ceilings (Some l)
    same k h = was k h ∙ sym (blocking_stays t.below before ceilings t.lock_count l.blocked none k (was k h))
