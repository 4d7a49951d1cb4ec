-- The local test of one task by iteration: its need is met at t just if the inverse of the supply takes the need at t to at most t.
--   ticks P Q b task higher t == the ticks in which the need at t is supplied
--   line_of P Q fine          == a linear supply that is never below the supply of (P,Q)
-- Assumes nothing.
use Rattle.std.specs.Prelude.{Some, None}
use Prim.Native.Nat.{ℕ, ◌+◌, ◌-◌, ◌*◌, ◌≤◌, ◌<◌}
use native.Mathlib.Nat.{le_refl, add-le-add, mul-le-mul_left}
use native.Mathlib.Omega.{arith}
use mathlib.Core.Path.{◌≡◌, refl, sym, ap, ◌∙◌, fun_ext}
use mathlib.Core.Bool.{Bool, true, false}
use mathlib.Core.List.{List}
use lib.ListN.{drop}
use borrow.Author.Tests.{lt-leb, leb-false}
use Rattle.least.specs.Search.{least_from, least_up_to}
use Rattle.least.proofs.Search.{same_tests, least_iff, none_iff, any_true, any_false}
use Rattle.least.proofs.Iterate.{Mono, settles, Unsolved, step_unsolved, past_limit, at_rest}
use Rattle.supply.specs.Supply.{supply_of}
use Rattle.supply.specs.Code.Supply.{ReachIs}
use Rattle.supply.proofs.SupplyLaws.{reach, reach_iff, reach_mono, reach_over, reach_line, supply_mono-Q}
use Rattle.demand.specs.declared.Workload.{Workload}
use Rattle.demand.specs.Code.Demand.{demand_from}
use Rattle.envelope.specs.declared.supply.LinearSupply.{LinearSupply}
use Rattle.envelope.specs.Code.Supply.{FineSupply}
use Rattle.envelope.specs.Code.Envelope.{NoEarlier}
use Rattle.task_set.specs.declared.Task.{Task}
use Rattle.task_set.specs.Blocking.{need_of}
use Rattle.task_set.specs.Code.ByColumn.{times_of}
use Rattle.task_set.proofs.Demand.{Separated, demand_mono}
use Rattle.task_set.proofs.Times.{times_demand}
use Rattle.budget.specs.Budget.{is_met, task_passes}
use Rattle.budget.specs.Code.Passing.{passing_time, NoneMet}

abbrev pub ticks : ℕ → ℕ → ℕ → Task → List Task → ℕ → ℕ
ticks P Q b task higher t = reach P Q (need_of b task higher t)

-- the inverse of the supply is one number
pub reach_unique : (P Q x r : ℕ) → 1 ≤ Q → Q ≤ P → 1 ≤ x → ReachIs P Q x r → r ≡ reach P Q x
reach_unique P Q x r o u s is =
    let low = (reach_iff P Q r x o u s).0 ((is.least r).1 (le_refl r)) in
    let high = (is.least (reach P Q x)).0 ((reach_iff P Q (reach P Q x) x o u s).1 (le_refl _)) in
    omega arith

-- what a greater budget does not meet, a smaller one does not meet
pub none_met_less : (P Q R b : ℕ) (task : Task) (higher : List Task) (s : ℕ) → 1 ≤ Q → Q ≤ R → R ≤ P → NoneMet P R b task higher s → NoneMet P Q b task higher s
none_met_less P Q R b task higher s o l u none t p h =
    lt-leb (need_of b task higher t) (supply_of P Q t) (omega (arith, supply_mono-Q P Q R t o l u, leb-false (need_of b task higher t) (supply_of P R t) (none t p h)))

module _ (P Q b : ℕ) (task : Task) (higher : List Task) where
  -- a passing time tells whether the task passes
  pub time_passes : (t : ℕ) → passing_time P Q b task higher ≡ Some t → task_passes P Q b task higher ≡ true
  unfolding passing_time task_passes
  time_passes t e = let l = (least_iff (is_met P Q b task higher) task.deadline t).0 e in any_true _ task.deadline 1 t l.0.positive (omega (arith, l.1)) l.0.passes

  pub no_time_fails : passing_time P Q b task higher ≡ None → task_passes P Q b task higher ≡ false
  unfolding passing_time task_passes
  no_time_fails e = any_false _ task.deadline 1 (λ v p h. (none_iff (is_met P Q b task higher) task.deadline).0 e v p (omega arith))

  -- nothing is met before the passing time
  pub time_first : (t : ℕ) → passing_time P Q b task higher ≡ Some t → NoneMet P Q b task higher t
  unfolding passing_time
  time_first t e v p h = go (is_met P Q b task higher v) refl
    where
      go : (m : Bool) → is_met P Q b task higher v ≡ m → is_met P Q b task higher v ≡ false
      go true q = absurd (omega (arith, ((least_iff (is_met P Q b task higher) task.deadline t).0 e).0.first v p q))
      go false q = q

  module _ (apart : Separated higher) (some : 1 ≤ task.cost) (o : 1 ≤ Q) (u : Q ≤ P) where
    need_mono : Mono (need_of b task higher)
    unfolding need_of
    need_mono v w l = add-le-add (add-le-add (le_refl task.cost) (demand_mono higher apart v w l)) (le_refl b)

    pub need_some : (t : ℕ) → 1 ≤ need_of b task higher t
    unfolding need_of
    need_some t = omega arith

    pub ticks_mono : Mono (ticks P Q b task higher)
    ticks_mono v w l = reach_mono P Q _ _ o (need_mono v w l)

    met_settles : (t : ℕ) → is_met P Q b task higher t ≡ settles (ticks P Q b task higher) t
    met_settles t =
        same_tests (need_of b task higher t) (supply_of P Q t) (ticks P Q b task higher t) t (reach_iff P Q t (need_of b task higher t) o u (need_some t)).0 (reach_iff P Q t (need_of b task higher t) o u (need_some t)).1

    time_settles : passing_time P Q b task higher ≡ least_from (settles (ticks P Q b task higher)) 1 task.deadline
    unfolding passing_time
    time_settles = ap (λ test. least_up_to test task.deadline) (fun_ext met_settles)

    pub start_unmet : (s : ℕ) → NoneMet P Q b task higher s → Unsolved (ticks P Q b task higher) s
    start_unmet s none v p h = leb-false (ticks P Q b task higher v) v (sym (met_settles v) ∙ none v p h)

    -- the ways out of the search: past the deadline, a need past the deadline, and a need that is met
    pub time_past : (t : ℕ) → Unsolved (ticks P Q b task higher) t → task.deadline < t → passing_time P Q b task higher ≡ None
    time_past t uns l = time_settles ∙ past_limit _ t task.deadline uns l

    pub time_over : (t : ℕ) → Unsolved (ticks P Q b task higher) t → task.deadline < need_of b task higher t → passing_time P Q b task higher ≡ None
    time_over t uns l =
        time_past (need_of b task higher t) (step_unsolved _ t (need_of b task higher t) ticks_mono uns (reach_over P Q (need_of b task higher t))) l

    pub time_met : (t : ℕ) → Unsolved (ticks P Q b task higher) t → 1 ≤ t → t ≤ task.deadline → ticks P Q b task higher t ≤ t → passing_time P Q b task higher ≡ Some t
    time_met t uns s l m = time_settles ∙ at_rest _ t task.deadline uns s l m

-- a line above the supply
abbrev pub line_of : (P Q : ℕ) → FineSupply P (Q * (P - Q)) Q → LinearSupply
line_of P Q fine = record { times = P; wait = Q * (P - Q); rate = Q; fine = fine }

-- no time from t and x on at which the need is met is before y
pub line_jump : (tasks : Workload) (s P Q b : ℕ) (task : Task) (t x y : ℕ) {fine : FineSupply P (Q * (P - Q)) Q} → 1 ≤ Q → Q ≤ P → NoEarlier tasks.periods tasks.costs tasks.count s (task.cost + b) (line_of P Q fine) t x y
    → (v : ℕ) → t ≤ v → x ≤ v → ticks P Q b task (drop s (times_of tasks)) v ≤ v → y ≤ v
unfolding need_of
line_jump tasks s P Q b task t x y o u far v l k m =
    let need : need_of b task (drop s (times_of tasks)) v ≡ task.cost + b + demand_from tasks.periods tasks.costs tasks.count s v = omega (arith, times_demand tasks s v) in
    far.none_before v l k (omega (arith, reach_line P Q (need_of b task (drop s (times_of tasks)) v) o u, mul-le-mul_left Q m, ap (λ (z : ℕ). P * z) need))
