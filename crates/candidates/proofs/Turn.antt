-- One turn of the search for the kept list: at x, the ceilings shown for x, their X and their least budget; then on from X − 1.
--   SearchAt p t x ceilings times last == what the arrays and the last budget say when the search has come to x
-- Assumes nothing.
use Rattle.std.specs.Prelude.{Option, Some, None}
use Prim.Native.Nat.{ℕ, suc, ◌-◌, ◌≤◌, ◌<◌}
use native.Mathlib.Nat.{le_trans}
use native.Mathlib.Omega.{arith}
use mathlib.Core.Path.{◌≡◌, refl, sym, ap, ap₂, ◌∙◌}
use mathlib.Core.Bool.{Bool, true, false}
use mathlib.Core.Logic.{inl, inr}
use mathlib.Core.List.{List, [], map}
use lib.ListN.{length, get_or}
use Rattle.least.specs.Lists.{greatest, count_from}
use Rattle.least.proofs.Search.{NoneIn, least_found}
use Rattle.least.proofs.Lists.{map_same, count_from_lem}
use Rattle.refusal.specs.Limits.{number_limit, kept_limit}
use Rattle.task_set.specs.declared.Task.{Task}
use Rattle.task_set.specs.declared.Part.{Part}
use Rattle.task_set.specs.Tasks.{lowest_ceiling}
use Rattle.task_set.specs.Partition.{is_shared}
use Rattle.task_set.specs.Code.Tasks.{tasks_of}
use Rattle.task_set.specs.Code.Partition.{partition_of}
use Rattle.task_set.specs.Blocking.{Setting}
use Rattle.task_set.specs.Code.Fine.{FinePart}
use Rattle.task_set.specs.Code.ByColumn.{times_of}
use Rattle.task_set.specs.Code.ByLock.{LowestAre, setting_of}
use Rattle.task_set.proofs.Places.{tasks_length, tasks_place, shared_at}
use Rattle.holding.specs.Holding.{holding_time_of}
use Rattle.holding.proofs.Holding.{highest_most}
use Rattle.budget.specs.Budget.{passes, least_budget}
use Rattle.budget.proofs.Passing.{budget_iff}
use Rattle.budget.proofs.SettingsAgree.{passes_agree, least_budget_agree}
use Rattle.raising.specs.declared.Raised.{Raised}
use Rattle.raising.specs.Code.Raising.{ceiling_at, held_time, AllRaised, RaisedIs}
use Rattle.candidates.specs.declared.Pair.{Pair}
use Rattle.candidates.specs.declared.Tables.{Tables}
use Rattle.candidates.specs.declared.Budgeted.{Budgeted}
use Rattle.candidates.specs.Candidates.{pair, kept_list, shown_ceiling}
use Rattle.candidates.specs.Statement.{Permitted, Candidate}
use Rattle.candidates.specs.Code.KeptSearch.{first_time, FirstTimes, TablesAre, budget_before, FineBefore, BudgetIs, pushed}
use Rattle.candidates.proofs.Shown.{deadlines_holding, shown_budget}
use Rattle.candidates.proofs.Walk.{WalkedFrom, Walked, walk_start, walk_push, walk_missed, walk_no_budget}
use Rattle.candidates.proofs.Few.{walked_most}
use Rattle.candidates.proofs.Known.{held_by, shown_at, Known, shown_held, shown_missed, private_shown}
use Rattle.candidates.proofs.Settle.{AllShown, AllKnown, next_at, shown_permitted, shown_most, setting_agrees, holding_greatest}
use Rattle.candidates.proofs.Lowest.{Tested, none_tested, lowest_range, lowest_tested, lowest_found, lowest_missed}

pub record SearchAt (p : Part) (t : Tables) (x : ℕ) (ceilings times : List ℕ) (last : Option Budgeted) : Type 0 where
  pub upto : ℕ
  pub later : x ≤ upto
  pub small : x ≤ number_limit
  pub known : AllKnown (partition_of p) upto ceilings times
  pub tested : Tested t last
  pub fine : FineBefore t last
  pub low : (σ : Setting) → Permitted (partition_of p) σ → holding_time_of (partition_of p) σ ≤ x → (Q : ℕ) → 1 ≤ Q → Q < budget_before last → passes (partition_of p) σ Q ≡ false

-- no holding time of a part is greater than number_limit
module _ (p : Part) (fine : FinePart p) where
  pub holding_small : (σ : Setting) → Permitted (partition_of p) σ → holding_time_of (partition_of p) σ ≤ number_limit
  holding_small = deadlines_holding (partition_of p) number_limit (λ t m. let h = tasks_place p fine m in let f = fine.each h.0 h.1 in omega (arith, ap (λ (x : Task). x.deadline) h.2))

  pub walked_start : Walked (partition_of p) number_limit []
  walked_start = walk_start (partition_of p) number_limit holding_small

  pub candidate_small : (d : Pair) → Candidate (partition_of p) d → (d.budget ≤ p.period) × (d.holding ≤ number_limit)
  candidate_small d q =
      (((budget_iff (partition_of p) q.setting d.budget).0 q.budget).1, omega (arith, q.holding, holding_small q.setting q.allowed))

  pub walked_few : (e : ℕ) (cs : List Pair) → WalkedFrom (partition_of p) e cs → length cs ≤ kept_limit
  walked_few e cs w = omega (arith, walked_most (partition_of p) e cs w, tasks_length p fine, fine.few)

module _ {p : Part} (fine : FinePart p) {t : Tables} (are : TablesAre p t) where
  pub lowest_at : (ceilings : List ℕ) → LowestAre t.locks ceilings → (j : ℕ) → j < p.locks → get_or ceilings j 0 ≡ lowest_ceiling (suc j) (tasks_of p)
  lowest_at ceilings lowest j l = lowest j (omega (arith, fine.few_locks)) ∙ are.locks.lowest j l

  first_known : (ceilings : List ℕ) → LowestAre t.locks ceilings → (times : List ℕ) → FirstTimes p.shared times → (j : ℕ) → j < p.locks → Known (partition_of p) number_limit (suc j) (get_or ceilings j 0) (get_or times j 0)
  first_known ceilings lowest times first j l = go (is_shared (partition_of p) (suc j)) refl
    where
      time : get_or times j 0 ≡ first_time (is_shared (partition_of p) (suc j))
      time = first j (omega (arith, fine.few_locks)) ∙ ap first_time (sym (shared_at p j l))

      go : (b : Bool) → is_shared (partition_of p) (suc j) ≡ b → Known (partition_of p) number_limit (suc j) (get_or ceilings j 0) (get_or times j 0)
      go true e = inl (omega (arith, time ∙ ap first_time e), lowest_at ceilings lowest j l, e)
      go false e = inr (private_shown (partition_of p) number_limit (suc j) e ∙ ap₂ held_by (sym (lowest_at ceilings lowest j l)) (sym (time ∙ ap first_time e)))

  pub search_start : 1 ≤ p.period → (ceilings : List ℕ) → LowestAre t.locks ceilings → (times : List ℕ) → FirstTimes p.shared times → SearchAt p t number_limit ceilings times None
  search_start o ceilings lowest times first = record {
    upto = number_limit;
    later = omega arith;
    small = omega arith;
    known = first_known ceilings lowest times first;
    tested = none_tested t;
    fine = (omega arith, omega (arith, are.period));
    low = λ σ ok u Q a b. absurd (omega arith);
  }

  module _ {x : ℕ} {ceilings times : List ℕ} {last : Option Budgeted} (s : SearchAt p t x ceilings times last) where
    -- what the code looked for is shown at x
    next : (j : ℕ) → j < p.locks → ceiling_at (times_of t.columns.times) t.locks ceilings times x j ≡ shown_at (partition_of p) x (suc j)
    next = next_at p fine t are x s.upto ceilings times s.later s.small s.known

    pub raise_missed : RaisedIs (ceiling_at (times_of t.columns.times) t.locks ceilings times x) t.lock_count None → (cs : List Pair) → Walked (partition_of p) x cs → cs ≡ kept_list (partition_of p)
    raise_missed m cs w =
        let h : m.0 < p.locks = omega (arith, m.1, are.lock_count) in
        walk_missed (partition_of p) x (suc m.0) cs w (omega arith) (omega arith) (shown_missed (partition_of p) x (suc m.0) (sym (next m.0 h) ∙ m.2))

    module _ {r : Raised} (is : AllRaised (ceiling_at (times_of t.columns.times) t.locks ceilings times x) t.lock_count r) where
      shown : AllShown (partition_of p) x r.ceilings r.times
      shown j h = sym (next j h) ∙ is.each j (omega (arith, are.lock_count))

      pub raised_most : (j : ℕ) → j < p.locks → get_or r.ceilings j 0 ≤ 16
      raised_most j h =
          let f = least_found _ _ _ (get_or r.ceilings j 0) (shown_held (partition_of p) x (suc j) _ _ (shown j h)).lowest in
          omega (arith, f.from, f.below, highest_most (partition_of p) (suc j), tasks_length p fine, fine.few)

      holding_is : holding_time_of (partition_of p) (shown_ceiling (partition_of p) x) ≡ r.holding
      holding_is =
          holding_greatest (partition_of p) x r.ceilings r.times shown
          ∙ ap greatest (map_same (λ j. held_time (shown_at (partition_of p) x (suc j))) _ (count_from 0 p.locks) (λ j q. sym (ap held_time (next j (omega (arith, (count_from_lem p.locks 0 j q).1))))))
          ∙ ap (λ (m : ℕ). greatest (map (λ j. held_time (ceiling_at (times_of t.columns.times) t.locks ceilings times x j)) (count_from 0 m))) (sym are.lock_count)
          ∙ sym is.holding

      pub holding_most : r.holding ≤ x
      holding_most = omega (arith, holding_is, shown_most (partition_of p) x r.ceilings r.times shown)

      permitted_shown : Permitted (partition_of p) (shown_ceiling (partition_of p) x)
      permitted_shown = shown_permitted (partition_of p) x r.ceilings r.times shown

      none_below : NoneIn (passes (partition_of p) (setting_of r.ceilings)) 1 (budget_before last)
      none_below Q a b =
          passes_agree (partition_of p) (setting_of r.ceilings) (shown_ceiling (partition_of p) x) (setting_agrees (partition_of p) x r.ceilings r.times shown) Q
          ∙ s.low (shown_ceiling (partition_of p) x) permitted_shown (shown_most (partition_of p) x r.ceilings r.times shown) Q a b

      least_agrees : least_budget (partition_of p) (shown_ceiling (partition_of p) x) ≡ least_budget (partition_of p) (setting_of r.ceilings)
      least_agrees =
          sym (least_budget_agree (partition_of p) (setting_of r.ceilings) (shown_ceiling (partition_of p) x) (setting_agrees (partition_of p) x r.ceilings r.times shown))

      pub budget_missed : BudgetIs t r.ceilings last None → (cs : List Pair) → Walked (partition_of p) x cs → cs ≡ kept_list (partition_of p)
      budget_missed has cs w =
          walk_no_budget (partition_of p) x cs w (least_agrees ∙ lowest_missed p fine t are r.ceilings last s.fine.0 s.fine.1 s.tested none_below (sym has.value))

      module _ {b : Budgeted} (has : BudgetIs t r.ceilings last (Some b)) where
        least : least_budget (partition_of p) (shown_ceiling (partition_of p) x) ≡ Some b.budget
        least = least_agrees ∙ lowest_found p fine t are r.ceilings last s.fine.0 s.fine.1 s.tested none_below b.budget (sym has.value)

        pub budget_range : (budget_before last ≤ b.budget) × (b.budget ≤ t.period)
        budget_range = lowest_range p fine t are r.ceilings last s.fine.0 s.fine.1 s.tested none_below b.budget (sym has.value)

        pub turn_push : (cs : List Pair) → Walked (partition_of p) x cs → WalkedFrom (partition_of p) r.holding (pushed (pair b.budget r.holding) cs)
        turn_push cs w = walk_push (partition_of p) x b.budget r.holding cs w permitted_shown holding_is holding_most least

        low_next : (y : ℕ) → y ≤ x → (σ : Setting) → Permitted (partition_of p) σ → holding_time_of (partition_of p) σ ≤ y → (Q : ℕ) → 1 ≤ Q → Q < b.budget → passes (partition_of p) σ Q ≡ false
        low_next y h σ allowed u Q a l = go (passes (partition_of p) σ Q) refl
          where
            go : (v : Bool) → passes (partition_of p) σ Q ≡ v → passes (partition_of p) σ Q ≡ false
            go false e = e
            go true e =
                let f = shown_budget (partition_of p) x σ allowed (le_trans u h) Q e a (omega (arith, budget_range.1, are.period)) in
                let same : f.0 ≡ b.budget = cc (f.1, least) in
                absurd (omega (arith, f.2))

        pub search_next : SearchAt p t (r.holding - 1) r.ceilings r.times (Some b)
        search_next = record {
          upto = x;
          later = omega (arith, holding_most);
          small = omega (arith, holding_most, s.small);
          known = λ j l. inr (shown j l);
          tested = lowest_tested p fine t are r.ceilings last s.fine.0 s.fine.1 s.tested none_below b has.value has.tested;
          fine = (omega (arith, budget_range.0, s.fine.0), budget_range.1);
          low = low_next (r.holding - 1) (omega (arith, holding_most));
        }
