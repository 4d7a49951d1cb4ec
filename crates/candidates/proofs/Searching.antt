-- The search for the kept list, as its loop has it: what was raised and what passed in the last turn, and the list so far.
--   Prepared p t             == the part is in range, and the tables are its own
--   Searching p t r last k   == the search goes on from X − 1 of the last turn, and the list has what the walk keeps from X on
-- Assumes nothing.
use Rattle.std.specs.Prelude.{Option, Some, None}
use Prim.Native.Nat.{ℕ, zero, suc, ◌+◌, ◌-◌, ◌≤◌, ◌<◌}
use native.Mathlib.Nat.{le_refl, eq-or-lt_of_le}
use native.Mathlib.Omega.{arith}
use mathlib.Core.Path.{◌≡◌, sym, ap, ◌∙◌, subst}
use mathlib.Core.Logic.{◌⊎◌, inl, inr}
use mathlib.Core.List.{List, []}
use lib.ListN.{length, get_or}
use lib.Seq.{length-take-le, get_or-take}
use Rattle.least.proofs.Members.{get_d_member}
use Rattle.least.proofs.Pairwise.{Pairwise}
use Rattle.refusal.specs.Limits.{number_limit, kept_limit}
use Rattle.demand.specs.Code.Demand.{cost_limit}
use Rattle.task_set.specs.declared.Part.{Part}
use Rattle.task_set.specs.Code.Partition.{partition_of}
use Rattle.task_set.specs.Code.Fine.{FinePart}
use Rattle.task_set.specs.Code.ByColumn.{times_of}
use Rattle.task_set.specs.Code.ByLock.{LowestAre, blocking_by}
use Rattle.task_set.proofs.ByColumn.{columns_fine}
use Rattle.task_set.proofs.ByLock.{lowest_most, longest_most, deadline_most}
use Rattle.task_set.proofs.BlockingAt.{blocking_small}
use Rattle.raising.specs.declared.Raised.{Raised}
use Rattle.raising.specs.Code.Raising.{ceiling_at, FineLocks, AllRaised, RaisedIs}
use Rattle.candidates.specs.declared.Kept.{Kept}
use Rattle.candidates.specs.declared.Tables.{Tables}
use Rattle.candidates.specs.declared.Budgeted.{Budgeted}
use Rattle.candidates.specs.Candidates.{pair, kept_list, kept_answer}
use Rattle.candidates.specs.Code.Candidates.{kept_of}
use Rattle.candidates.specs.Code.KeptSearch.{FirstTimes, TablesAre, FineTables, WereTested, BudgetIs, sum_of, pairs_of, pushed, FinePush}
use Rattle.candidates.proofs.Walk.{WalkedFrom, Walked, walk_zero}
use Rattle.candidates.proofs.Pairs.{kept_count, kept_room, pairs_answer}
use Rattle.candidates.proofs.Turn.{SearchAt, lowest_at, search_start, walked_start, walked_few, candidate_small, raise_missed, raised_most, holding_most, budget_missed, budget_range, turn_push, search_next}

pub record Prepared (p : Part) (t : Tables) : Type 0 where
  pub fine : FinePart p
  pub period_some : 1 ≤ p.period
  pub period_most : p.period ≤ number_limit
  pub are : TablesAre p t

pub record Searching (p : Part) (t : Tables) (r : Raised) (last : Option Budgeted) (k : Kept) : Type 0 where
  pub search : SearchAt p t (r.holding - 1) r.ceilings r.times last
  pub walked : WalkedFrom (partition_of p) r.holding (pairs_of k)
  pub answer : k ≡ kept_answer (pairs_of k)
  pub few : k.count ≤ kept_limit
  pub ceilings_most : (j : ℕ) → j < t.lock_count → get_or r.ceilings j 0 ≤ 16
  pub were_tested : WereTested t r.ceilings last

pub prepared : {p : Part} {t : Tables} → FinePart p × (1 ≤ p.period) × (p.period ≤ number_limit) → TablesAre p t → Prepared p t
prepared fine are = record { fine = fine.0; period_some = fine.1; period_most = fine.2; are = are }

-- of two elements the first is related to the second
pairwise_at : {A : Type 0} {R : A → A → Type 0} {xs : List A} (d : A) → Pairwise R xs → (i j : ℕ) → i < j → j < length xs → R (get_or xs i d) (get_or xs j d)
pairwise_at d Pairwise.none i j l h = absurd (omega arith)
pairwise_at d (Pairwise.more h p) i zero l u = absurd (omega arith)
pairwise_at d (Pairwise.more h p) zero (suc j) l u = h _ (get_d_member _ j d (omega arith))
pairwise_at d (Pairwise.more h p) (suc i) (suc j) l u = pairwise_at d p i j (omega arith) (omega arith)

module _ {p : Part} {t : Tables} (ready : Prepared p t) where
  pub tables_fine : FineTables t
  tables_fine = record {
    times = columns_fine p ready.fine t.columns ready.are.columns;
    deadlines_most = λ i h. let f = ready.fine.each i (omega (arith, ready.are.columns.count)) in omega (arith, ready.are.columns.deadlines i (omega (arith, ready.fine.few, ready.are.columns.count)));
    period_most = omega (arith, ready.are.period, ready.period_most);
    few_locks = omega (arith, ready.are.lock_count, ready.fine.few_locks);
    blockings_most = λ ceilings i h. omega (arith, ap (λ (m : ℕ). blocking_by t.below ceilings m i) ready.are.lock_count, blocking_small p ready.fine i (omega (arith, ready.are.columns.count)) t.below ceilings ready.are.below);
  }

  pub locks_fine : (ceilings : List ℕ) → ((j : ℕ) → j < t.lock_count → get_or ceilings j 0 ≤ 16) → FineLocks t.locks ceilings t.lock_count
  locks_fine ceilings most = record {
    few = omega (arith, ready.are.lock_count, ready.fine.few_locks);
    each = λ j h.
        let l : j < p.locks = omega (arith, ready.are.lock_count) in
        record {
          longest_some = omega (arith, ready.are.locks.longest j l, ready.fine.used _ (omega arith) l);
          longest_most = omega (arith, ready.are.locks.longest j l, longest_most p ready.fine _ (omega arith) l);
          deadline_most = omega (arith, ready.are.locks.deadlines j l, deadline_most p ready.fine _ (omega arith) l);
        };
    ceilings_most = most;
  }

  pub searching_start : {ceilings times : List ℕ} → LowestAre t.locks ceilings → FirstTimes p.shared times → {k : Kept} → k ≡ kept_answer [] → Searching p t (record { ceilings = ceilings; times = times; holding = number_limit + 1 }) None k
  searching_start {ceilings} {times} lowest first {k} e = rw e (record {
    search = search_start ready.fine ready.are ready.period_some ceilings lowest times first;
    walked = rw (pairs_answer [] (omega arith)) (walked_start p ready.fine);
    answer = ap kept_answer (sym (pairs_answer [] (omega arith)));
    few = omega (arith, kept_count []);
    ceilings_most = λ j h.
        let l : j < p.locks = omega (arith, ready.are.lock_count) in
        omega (arith, lowest_at ready.fine ready.are ceilings lowest j l, lowest_most p ready.fine _ (omega arith) l, ready.fine.few);
    were_tested = _;
  })

  module _ {r : Raised} {last : Option Budgeted} {k : Kept} (s : Searching p t r last k) where
    -- what is on the list, by places
    at_place : (i : ℕ) → i < k.count → get_or (pairs_of k) i (pair 0 0) ≡ get_or k.pairs i (pair 0 0)
    at_place i h = get_or-take k.count k.pairs i (pair 0 0) h

    list_length : length (pairs_of k) ≡ k.count
    list_length = length-take-le k.count k.pairs (omega (arith, s.few, ap (λ (x : Kept). length x.pairs) s.answer, kept_room (pairs_of k)))

    sums_small : (i : ℕ) → i < k.count → sum_of (get_or k.pairs i (pair 0 0)) ≤ cost_limit
    sums_small i h =
        let d = candidate_small p ready.fine _ (s.walked.candidates _ (get_d_member (pairs_of k) i (pair 0 0) (omega (arith, list_length)))) in
        omega (arith, d.0, d.1, ap sum_of (at_place i h), ready.period_most)

    sums_rise : (i j : ℕ) → i ≤ j → j < k.count → sum_of (get_or k.pairs i (pair 0 0)) ≤ sum_of (get_or k.pairs j (pair 0 0))
    sums_rise i j l h = go (eq-or-lt_of_le l)
      where
        go : (i ≡ j) ⊎ (i < j) → sum_of (get_or k.pairs i (pair 0 0)) ≤ sum_of (get_or k.pairs j (pair 0 0))
        go (inl e) = rw e (le_refl _)
        go (inr u) =
            let b = pairwise_at (pair 0 0) s.walked.ordered i j u (omega (arith, list_length)) in
            omega (arith, b.sum, ap sum_of (at_place i (omega arith)), ap sum_of (at_place j h))

    -- the list is complete
    complete : pairs_of k ≡ kept_list (partition_of p) → k ≡ kept_of (partition_of p)
    complete e = s.answer ∙ ap kept_answer e

    pub end_reached : r.holding ≤ 0 → k ≡ kept_of (partition_of p)
    end_reached h = let e : r.holding ≡ 0 = omega arith in complete (walk_zero (partition_of p) _ (subst (λ (x : ℕ). WalkedFrom (partition_of p) x (pairs_of k)) e s.walked))

    module _ (left : 0 < r.holding) where
      walked : Walked (partition_of p) (r.holding - 1) (pairs_of k)
      walked = let e : r.holding ≡ suc (r.holding - 1) = omega arith in subst (λ (x : ℕ). WalkedFrom (partition_of p) x (pairs_of k)) e s.walked

      pub none_raised : RaisedIs (ceiling_at (times_of t.columns.times) t.locks r.ceilings r.times (r.holding - 1)) t.lock_count None → k ≡ kept_of (partition_of p)
      none_raised m = complete (raise_missed ready.fine ready.are s.search m _ walked)

      module _ {n : Raised} (is : AllRaised (ceiling_at (times_of t.columns.times) t.locks r.ceilings r.times (r.holding - 1)) t.lock_count n) where
        pub ceilings_raised : (j : ℕ) → j < t.lock_count → get_or n.ceilings j 0 ≤ 16
        ceilings_raised j h = raised_most ready.fine ready.are s.search is j (omega (arith, ready.are.lock_count))

        pub none_passes : BudgetIs t n.ceilings last None → k ≡ kept_of (partition_of p)
        none_passes has = complete (budget_missed ready.fine ready.are s.search is has _ walked)

        pub holding_falls : n.holding < r.holding
        holding_falls = omega (arith, holding_most ready.fine ready.are s.search is)

        module _ {b : Budgeted} (has : BudgetIs t n.ceilings last (Some b)) where
          pushed_walked : WalkedFrom (partition_of p) n.holding (pushed (pair b.budget n.holding) (pairs_of k))
          pushed_walked = turn_push ready.fine ready.are s.search is has _ walked

          room : length (pushed (pair b.budget n.holding) (pairs_of k)) ≤ kept_limit
          room = walked_few p ready.fine n.holding _ pushed_walked

          pub push_fine : FinePush k (pair b.budget n.holding)
          push_fine = record {
            answer = s.answer;
            few = s.few;
            most = sums_small;
            rising = sums_rise;
            sum_most = omega (arith, holding_falls, s.search.small, ready.period_most, ready.are.period, (budget_range ready.fine ready.are s.search is has).1);
            room = room;
          }

          pub searching_next : {l : Kept} → l ≡ kept_answer (pushed (pair b.budget n.holding) (pairs_of k)) → Searching p t n (Some b) l
          searching_next e = rw e (record {
            search = search_next ready.fine ready.are s.search is has;
            walked = rw (pairs_answer (pushed (pair b.budget n.holding) (pairs_of k)) room) pushed_walked;
            answer = ap kept_answer (sym (pairs_answer (pushed (pair b.budget n.holding) (pairs_of k)) room));
            few = omega (arith, kept_count (pushed (pair b.budget n.holding) (pairs_of k)), room);
            ceilings_most = ceilings_raised;
            were_tested = has.tested;
          })
