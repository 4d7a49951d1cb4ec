-- The least budget from q on, task by task: a step stays in range, and what holds along all steps.
--   Blocked blocking n i blocked == the places from i on hold the blockings
--   Lowered t ceilings last i b  == the steps from the place i on are done: they took the budget to that of b
-- Assumes nothing.
use Rattle.std.specs.Prelude.{Option, Some, None}
use Prim.Native.Nat.{ℕ, zero, suc, ◌-◌, ◌≤◌, ◌<◌}
use native.Mathlib.Omega.{arith}
use native.Mathlib.Decide.{ℕ_discrete, dec_le}
use mathlib.Core.Path.{◌≡◌, refl, sym, ap, ◌∙◌, subst}
use mathlib.Core.Bool.{Bool, true, false, false≢true}
use mathlib.Core.List.{List}
use lib.ListN.{length, get_or, drop, set, length-set}
use lib.Seq.{get_or-set_same, get_or-set_other}
use borrow.Author.Tests.{eq-eqb, ne_eqb}
use Rattle.least.proofs.Search.{least_found, least_missed}
use Rattle.task_set.specs.declared.Task.{Task}
use Rattle.budget.specs.Budget.{task_passes}
use Rattle.budget.specs.Code.Passing.{due_task, above, budget_from}
use Rattle.budget.proofs.Passing.{task_mono-Q}
use Rattle.candidates.specs.declared.Tables.{Tables}
use Rattle.candidates.specs.declared.Budgeted.{Budgeted}
use Rattle.candidates.specs.Code.KeptSearch.{due_at, blocking_under, was_tested, budget_before, FineBefore, budget_again, budget_down, budget_step, step_under, budget_under, BudgetIs}

module _ (P b : ℕ) (task : Task) (higher : List Task) where
  -- the least budget from q on
  pub budget_range : (q r : ℕ) → budget_from P q b task higher ≡ Some r → (q ≤ r) × (r ≤ P)
  unfolding budget_from
  budget_range q r e = let l = least_found _ (suc P - q) q r e in (l.from, omega (arith, l.from, l.below))

  pub budget_passes : (q r : ℕ) → budget_from P q b task higher ≡ Some r → task_passes P r b task higher ≡ true
  unfolding budget_from
  budget_passes q r e = (least_found _ (suc P - q) q r e).passes

  pub budget_first : (q r Q : ℕ) → budget_from P q b task higher ≡ Some r → q ≤ Q → task_passes P Q b task higher ≡ true → r ≤ Q
  unfolding budget_from
  budget_first q r Q e l t = go (dec_le r Q)
    where
      go : Dec (r ≤ Q) → r ≤ Q
      go (yes h) = h
      go (no h) = absurd (false≢true (sym ((least_found _ (suc P - q) q r e).before Q l (omega arith)) ∙ t))

  pub budget_missed : (q Q : ℕ) → budget_from P q b task higher ≡ None → q ≤ Q → Q ≤ P → task_passes P Q b task higher ≡ false
  unfolding budget_from
  budget_missed q Q e l u = least_missed _ (suc P - q) q e Q l (omega arith)

  -- the same, where the blocking may have been tested before
  pub again_range : (tested : Bool) (q r : ℕ) → q ≤ P → budget_again P b tested task higher q ≡ Some r → (q ≤ r) × (r ≤ P)
  unfolding budget_again
  again_range true q r h e = let same : q ≡ r = cc e in (omega arith, omega arith)
  again_range false q r h e = budget_range q r e

  -- it passes, if it did with q where the blocking was tested
  pub again_passes : (tested : Bool) (q r : ℕ) → (tested ≡ true → task_passes P q b task higher ≡ true) → budget_again P b tested task higher q ≡ Some r → task_passes P r b task higher ≡ true
  unfolding budget_again
  again_passes true q r t e = let same : q ≡ r = cc e in subst (λ (Q : ℕ). task_passes P Q b task higher ≡ true) same (t refl)
  again_passes false q r t e = budget_passes q r e

  pub again_first : (tested : Bool) (q r Q : ℕ) → budget_again P b tested task higher q ≡ Some r → q ≤ Q → task_passes P Q b task higher ≡ true → r ≤ Q
  unfolding budget_again
  again_first true q r Q e l t = let same : q ≡ r = cc e in omega arith
  again_first false q r Q e l t = budget_first q r Q e l t

  pub again_missed : (tested : Bool) (q Q : ℕ) → budget_again P b tested task higher q ≡ None → q ≤ Q → Q ≤ P → task_passes P Q b task higher ≡ false
  unfolding budget_again
  again_missed true q Q e l u = cc e
  again_missed false q Q e l u = budget_missed q Q e l u

  -- what was tested, and what was not
  module _ (last : Option Budgeted) (k q : ℕ) where
    pub again_same : (l : Budgeted) → last ≡ Some l → get_or l.blocked k 0 ≡ b → budget_again P b (was_tested last k b) task higher q ≡ Some q
    unfolding budget_again
    again_same l e is = rw (e, eq-eqb (get_or l.blocked k 0) b is) refl

    pub again_other : ((l : Budgeted) → last ≡ Some l → get_or l.blocked k 0 ≡ b → ⊥) → budget_again P b (was_tested last k b) task higher q ≡ budget_from P q b task higher
    unfolding budget_again
    again_other other = go last refl
      where
        go : (o : Option Budgeted) → last ≡ o → budget_again P b (was_tested o k b) task higher q ≡ budget_from P q b task higher
        go None e = refl
        go (Some l) e = rw (ne_eqb (get_or l.blocked k 0) b (other l e)) refl

module _ (step : ℕ → ℕ → Option ℕ) where
  pub down_end : (q : ℕ) → budget_down step 0 q ≡ Some q
  unfolding budget_down
  down_end q = refl

  pub down_next : (k q r : ℕ) → step k q ≡ Some r → budget_down step (suc k) q ≡ budget_down step k r
  unfolding budget_down
  down_next k q r e = rw (e, budget_down) refl

  pub down_none : (k q : ℕ) → step k q ≡ None → budget_down step (suc k) q ≡ None
  unfolding budget_down
  down_none k q e = rw (e, budget_down) refl

  -- `Low` holds of each budget on the way
  module _ (Low : ℕ → Type 0) (n : ℕ) (low_step : (k q r : ℕ) → k < n → Low q → step k q ≡ Some r → Low r) where
    low_from : (i q r : ℕ) → i ≤ n → Low q → budget_down step i q ≡ Some r → Low r
    low_from zero q r h l e = let same : q ≡ r = cc (down_end q, e) in subst Low same l
    low_from (suc i) q r h l e = go (λ s. low_from i s r (omega arith)) (step i q) refl
      where
        go : ((s : ℕ) → Low s → budget_down step i s ≡ Some r → Low r) → (a : Option ℕ) → step i q ≡ a → Low r
        go ih (Some s) f = ih s (low_step i q s (omega arith) l f) (sym (down_next i q s f) ∙ e)
        go ih None f = let z : ◌≡◌ {A = ℕ} 0 1 = cc (down_none i q f, e) in absurd (omega arith)

    pub down_low : (q r : ℕ) → Low q → budget_down step n q ≡ Some r → Low r
    down_low q r l e = low_from n q r (omega arith) l e

    -- where there is no budget, some step on the way has none
    abbrev pub Missed : Type 0
    Missed = (k : ℕ) × (q : ℕ) × (k < n) × Low q × (step k q ≡ None)

    missed_from : (i q : ℕ) → i ≤ n → Low q → budget_down step i q ≡ None → Missed
    missed_from zero q h l e = let z : ◌≡◌ {A = ℕ} 0 1 = cc (down_end q, e) in absurd (omega arith)
    missed_from (suc i) q h l e = go (λ s. missed_from i s (omega arith)) (step i q) refl
      where
        go : ((s : ℕ) → Low s → budget_down step i s ≡ None → Missed) → (a : Option ℕ) → step i q ≡ a → Missed
        go ih (Some s) f = ih s (low_step i q s (omega arith) l f) (sym (down_next i q s f) ∙ e)
        go ih None f = (i, q, omega arith, l, f)

    pub down_missed : (q : ℕ) → Low q → budget_down step n q ≡ None → Missed
    down_missed q l e = missed_from n q (omega arith) l e

    -- `Good k` holds of the budget that step k gives, and the steps after it keep it
    module _ (Good : ℕ → ℕ → Type 0) (good-here : (k q r : ℕ) → k < n → Low q → step k q ≡ Some r → Good k r) (good-after : (j k q r : ℕ) → j < k → k < n → Low q → step j q ≡ Some r → Good k q → Good k r) where
      good_from : (i q r : ℕ) → i ≤ n → Low q → budget_down step i q ≡ Some r → ((k : ℕ) → i ≤ k → k < n → Good k q) → (k : ℕ) → k < n → Good k r
      good_from zero q r h l e g k u = let same : q ≡ r = cc (down_end q, e) in subst (Good k) same (g k (omega arith) u)
      good_from (suc i) q r h l e g k u = go (λ s o f w. good_from i s r (omega arith) o f w k u) (step i q) refl
        where
          here : (s : ℕ) → step i q ≡ Some s → (j : ℕ) → i ≤ j → j < n → Dec (i ≡ j) → Good j s
          here s f j o v (yes w) = subst (λ (x : ℕ). Good x s) w (good-here i q s (omega arith) l f)
          here s f j o v (no w) = good-after i j q s (omega arith) v l f (g j (omega arith) v)

          go : ((s : ℕ) → Low s → budget_down step i s ≡ Some r → ((j : ℕ) → i ≤ j → j < n → Good j s) → Good k r) → (a : Option ℕ) → step i q ≡ a → Good k r
          go ih (Some s) f = ih s (low_step i q s (omega arith) l f) (sym (down_next i q s f) ∙ e) (λ j o v. here s f j o v (ℕ_discrete i j))
          go ih None f = let z : ◌≡◌ {A = ℕ} 0 1 = cc (down_none i q f, e) in absurd (omega arith)

      pub down_good : (q r : ℕ) → Low q → budget_down step n q ≡ Some r → (k : ℕ) → k < n → Good k r
      down_good q r l e = good_from n q r (omega arith) l e (λ k o u. absurd (omega arith))

-- an array that takes the blockings, from the last place on
abbrev pub Blocked : (ℕ → ℕ) → ℕ → ℕ → List ℕ → Type 0
Blocked blocking n i blocked = (k : ℕ) → i ≤ k → k < n → get_or blocked k 0 ≡ blocking k

blocked_step : (blocking : ℕ → ℕ) (n k : ℕ) (blocked : List ℕ) (b : ℕ) → k < length blocked → Blocked blocking n (suc k) blocked → b ≡ blocking k → Blocked blocking n k (set blocked k b)
blocked_step blocking n k blocked b h f e j o u = go (ℕ_discrete j k)
  where
    go : Dec (j ≡ k) → get_or (set blocked k b) j 0 ≡ blocking j
    go (yes q) = rw q (get_or-set_same blocked k b 0 h ∙ e)
    go (no q) = get_or-set_other blocked k j b 0 q ∙ f j (omega arith) u

-- the steps of `budget_step` by falling places
module _ (ts : List Task) (costs deadlines : List ℕ) (P : ℕ) (blocking : ℕ → ℕ) (tested : ℕ → Bool) (n q : ℕ) where
  abbrev step : ℕ → ℕ → Option ℕ
  step = budget_step ts costs deadlines P blocking tested

  -- the task at the place k, and that it passes with Q
  abbrev task : ℕ → Task
  task k = due_task costs k (get_or deadlines k 0)

  abbrev passes : ℕ → ℕ → Bool
  passes k Q = task_passes P Q (blocking k) (task k) (drop (suc k) ts)

  abbrev Between : ℕ → ℕ → Type 0
  Between Q x = (q ≤ x) × (x ≤ Q)

  step_range : (k x y : ℕ) → x ≤ P → step k x ≡ Some y → (x ≤ y) × (y ≤ P)
  step_range k = again_range P (blocking k) (task k) (drop (suc k) ts) (tested k)

  between_most : (k x y : ℕ) → k < n → Between P x → step k x ≡ Some y → Between P y
  between_most k x y u l f = let range = step_range k x y l.1 f in (omega (arith, range.0, l.0), range.1)

  -- the answer is in range
  pub down_range : (r : ℕ) → q ≤ P → budget_down step n q ≡ Some r → (q ≤ r) × (r ≤ P)
  down_range r h e = down_low step (Between P) n between_most q r (omega arith, h) e

  -- all tasks pass with it, if those whose blocking was tested pass with q
  pub down_passes : (r : ℕ) → 1 ≤ q → q ≤ P → ((k : ℕ) → k < n → tested k ≡ true → passes k q ≡ true) → budget_down step n q ≡ Some r → (k : ℕ) → k < n → passes k r ≡ true
  down_passes r o h before e = down_good step (Between P) n between_most (λ k x. passes k x ≡ true) here after q r (omega arith, h) e
    where
      up : (k x y : ℕ) → q ≤ x → x ≤ y → y ≤ P → passes k x ≡ true → passes k y ≡ true
      up k x y a b u t = task_mono-Q P x y (blocking k) (task k) (drop (suc k) ts) (omega arith) b u t

      here : (k x y : ℕ) → k < n → Between P x → step k x ≡ Some y → passes k y ≡ true
      here k x y u l f = again_passes P (blocking k) (task k) (drop (suc k) ts) (tested k) x y (λ s. up k q x (omega arith) l.0 l.1 (before k u s)) f

      after : (j k x y : ℕ) → j < k → k < n → Between P x → step j x ≡ Some y → passes k x ≡ true → passes k y ≡ true
      after j k x y d u l f t = let range = step_range j x y l.1 f in up k x y l.0 range.0 range.1 t

  -- no budget Q from q on, with which all pass, is smaller or left out
  module _ (Q : ℕ) (from : q ≤ Q) (all : (k : ℕ) → k < n → passes k Q ≡ true) where
    between : (k x y : ℕ) → k < n → x ≤ Q → step k x ≡ Some y → y ≤ Q
    between k x y u l f = again_first P (blocking k) (task k) (drop (suc k) ts) (tested k) x y Q f l (all k u)

    pub down_first : (r : ℕ) → budget_down step n q ≡ Some r → r ≤ Q
    down_first r e = down_low step (λ x. x ≤ Q) n between q r from e

    pub down_some : Q ≤ P → budget_down step n q ≡ None → ⊥
    down_some h e =
        let m = down_missed step (λ x. x ≤ Q) n between q from e in
        false≢true (sym (again_missed P (blocking m.0) (task m.0) (drop (suc m.0) ts) (tested m.0) m.1 Q m.4 m.3 h) ∙ all m.0 m.2)

  -- every task was tested with its blocking: the budget stays
  pub down_tested : (i : ℕ) → i ≤ n → ((k : ℕ) → k < n → tested k ≡ true) → budget_down step i q ≡ Some q
  unfolding budget_again
  down_tested zero h same = down_end step q
  down_tested (suc i) h same = down_next step i q q (again (tested i) (same i h)) ∙ down_tested i (omega arith) same
    where
      again : (t : Bool) → t ≡ true → budget_again P (blocking i) t (task i) (drop (suc i) ts) q ≡ Some q
      again true e = refl
      again false e = absurd (false≢true e)

-- the search under the ceilings of an array: the places from i on are done, they took the budget to that of b, which has their blockings
module _ (t : Tables) (ceilings : List ℕ) (last : Option Budgeted) where
  pub record Lowered (i : ℕ) (b : Budgeted) : Type 0 where
    pub few : i ≤ t.columns.times.count
    pub some : 1 ≤ b.budget
    pub most : b.budget ≤ t.period
    pub room : length b.blocked ≡ 16
    pub blocked : Blocked (blocking_under t ceilings) t.columns.times.count i b.blocked
    pub same : budget_down (step_under t ceilings last) i b.budget ≡ budget_under t ceilings last

  pub lowered_start : FineBefore t last → (b : Budgeted) → length b.blocked ≡ 16 → b.budget ≡ budget_before last → Lowered t.columns.times.count b
  lowered_start before b room e = record {
    few = omega arith;
    some = omega (arith, before.0);
    most = omega (arith, before.1);
    room = room;
    blocked = λ k o u. absurd (omega arith);
    same = ap (budget_down (step_under t ceilings last) t.columns.times.count) e;
  }

  -- the step of the task at the place k, with its blocking c
  module _ {i k : ℕ} (next : i ≡ suc k) {b : Budgeted} (l : Lowered i b) {c : ℕ} (here : c ≡ blocking_under t ceilings k)
      {r : Option ℕ} (is : r ≡ budget_again t.period c (was_tested last k c) (due_at t k) (above t.columns.times k) b.budget) where
    stepped : step_under t ceilings last k b.budget ≡ r
    stepped = sym (is ∙ ap (λ (x : ℕ). budget_again t.period x (was_tested last k x) (due_at t k) (above t.columns.times k) b.budget) here)

    whole : budget_down (step_under t ceilings last) (suc k) b.budget ≡ budget_under t ceilings last
    whole = ap (λ (j : ℕ). budget_down (step_under t ceilings last) j b.budget) (sym next) ∙ l.same

    pub lowered_step : t.columns.times.count ≤ 16 → (Q : ℕ) → r ≡ Some Q → Lowered k (record { blocked = set b.blocked k c; budget = Q })
    lowered_step few Q e =
        let range = again_range t.period (blocking_under t ceilings k) (due_at t k) (above t.columns.times k) (was_tested last k (blocking_under t ceilings k)) b.budget Q l.most (stepped ∙ e) in
        record {
          few = omega (arith, l.few);
          some = omega (arith, l.some, range.0);
          most = range.1;
          room = length-set b.blocked k c ∙ l.room;
          blocked = blocked_step (blocking_under t ceilings) t.columns.times.count k b.blocked c (omega (arith, l.few, l.room)) (λ j o. l.blocked j (omega arith)) here;
          same = sym (down_next (step_under t ceilings last) k b.budget Q (stepped ∙ e)) ∙ whole;
        }

    pub lowered_none : r ≡ None → BudgetIs t ceilings last None
    lowered_none e = record { value = sym (down_none (step_under t ceilings last) k b.budget (stepped ∙ e)) ∙ whole; tested = _ }

  pub lowered_end : (b : Budgeted) → Lowered 0 b → BudgetIs t ceilings last (Some b)
  lowered_end b l = record { value = sym (down_end (step_under t ceilings last) b.budget) ∙ l.same; tested = λ k h. l.blocked k (omega arith) h }
