-- The least budget of one task from q on, from both ends: no budget from q up to `low` passes, `high` does, or is past the whole period, and with no budget
-- between them is the need met before `start`. What is known to pass is `high`, if anything does, with a time before which the need is not met with it.
-- Assumes nothing.
use Rattle.std.specs.Prelude.{Option, Some, None, MatchOption}
use Rattle.std.specs.Option.{option_map, unwrap_or}
use Prim.Native.Nat.{ℕ, suc, ◌+◌, ◌≤◌, ◌<◌}
use native.Mathlib.Nat.{eq-or-lt_of_le}
use native.Mathlib.Omega.{arith}
use native.Mathlib.Decide.{dec_lt}
use mathlib.Core.Path.{◌≡◌, refl, sym, ap, ◌∙◌}
use mathlib.Core.Bool.{Bool, true, false}
use mathlib.Core.Logic.{◌⊎◌, inl, inr}
use mathlib.Core.List.{List}
use borrow.Author.Tests.{lt-leb}
use Rattle.least.proofs.Search.{least_iff}
use Rattle.least.proofs.Bisect.{Rising, Bracket, bracket_start, bracket_down, bracket_up, bracket_end, bracket_none, first_passes}
use Rattle.supply.specs.Supply.{supply_of}
use Rattle.supply.proofs.SupplyLaws.{supply_mono_t, supply_le_t}
use Rattle.task_set.specs.declared.Task.{Task}
use Rattle.task_set.specs.Tasks.{demand_in}
use Rattle.task_set.specs.Blocking.{need_of}
use Rattle.task_set.proofs.Demand.{Separated, demand_mono}
use Rattle.budget.specs.declared.Passed.{Passed}
use Rattle.budget.specs.Budget.{is_met, task_passes}
use Rattle.budget.specs.Code.Passing.{passing_time, NoneMet, enough_from, budget_from, PassedIs}
use Rattle.budget.proofs.Passing.{task_passes_iff, task_mono-Q}
use Rattle.budget.proofs.Iteration.{time_passes, no_time_fails, time_first, none_met_less}
use Rattle.budget.proofs.Enough.{EnoughIs, enough_is, enough_most}

abbrev pub passed : ℕ → ℕ → Passed
passed Q t = record { budget = Q; time = t }

-- the budget is Q, with which the need is not met before t
pub passed_at : (P b : ℕ) (task : Task) (higher : List Task) (least : Option ℕ) (Q t : ℕ) → least ≡ Some Q → 1 ≤ t → NoneMet P Q b task higher t → PassedIs P b task higher least (Some (passed Q t))
passed_at P b task higher least Q t e o none = record { value = sym e; early = (o, none) }

module _ (P q b : ℕ) (task : Task) (higher : List Task) where
  abbrev test : ℕ → Bool
  test Q = task_passes P Q b task higher

  pub record Narrowed (least : Option Passed) (start low high : ℕ) : Type 0 where
    pub bracket : Bracket (λ Q. task_passes P Q b task higher) q (suc P) low high
    pub some : 1 ≤ start
    pub early : (m : ℕ) → low ≤ m → m < high → NoneMet P m b task higher start
    pub found : MatchOption least (high ≡ suc P) (λ r. (r.budget ≡ high) × (high ≤ P) × (1 ≤ r.time) × NoneMet P r.budget b task higher r.time)

  test_rises : (m : ℕ) → m ≤ P → Rising test m
  test_rises m u Q R o l h t = task_mono-Q P Q R b task higher o l (omega arith) t

  -- when the need is met
  pub time_within : (Q t : ℕ) → passing_time P Q b task higher ≡ Some t → (1 ≤ t) × (t ≤ task.deadline)
  unfolding passing_time
  time_within Q t e = let l = (least_iff (is_met P Q b task higher) task.deadline t).0 e in (l.0.positive, l.1)

  abbrev Answered : Option Passed → Type 0
  Answered r = PassedIs P b task higher (budget_from P q b task higher) r

  answered : (Q t : ℕ) → budget_from P q b task higher ≡ Some Q → 1 ≤ t → NoneMet P Q b task higher t → Answered (Some (passed Q t))
  answered = passed_at P b task higher (budget_from P q b task higher)

  -- q passes
  pub narrow_here : (t : ℕ) → q ≤ P → passing_time P q b task higher ≡ Some t → Answered (Some (passed q t))
  unfolding budget_from
  narrow_here t u e =
      answered q t (first_passes test q (suc P) (omega arith) (time_passes P q b task higher t e)) (time_within q t e).0 (time_first P q b task higher t e)

  -- the end of the search
  pub narrow_end : (least : Option Passed) (start low high : ℕ) → Narrowed least start low high → high ≤ low → Answered least
  unfolding budget_from
  narrow_end None start low high k l = record { value = sym (bracket_none test q (suc P) low high k.bracket l (omega (arith, k.found))); early = _ }
  narrow_end (Some r) start low high k l =
      let f = k.found in
      record { value = ap Some f.0 ∙ sym (bracket_end test q (suc P) low high k.bracket l (omega (arith, f.1))); early = (f.2, f.3) }

  -- the budget m fails
  pub narrow_up : (least : Option Passed) (start low high m : ℕ) → Narrowed least start low high → low ≤ m → m < high → passing_time P m b task higher ≡ None → Narrowed least start (m + 1) high
  narrow_up least start low high m k l h e = record {
    bracket = bracket_up test q (suc P) low high m (test_rises m (omega (arith, k.bracket.top))) k.bracket l h (no_time_fails P m b task higher e);
    some = k.some;
    early = λ v p. k.early v (omega arith);
    found = k.found;
  }

  module _ (costs : 1 ≤ task.cost) where
    -- what is met by the deadline passes
    met_passes : (Q t : ℕ) → 1 ≤ Q → Q ≤ P → t ≤ task.deadline → need_of b task higher t ≤ supply_of P Q t → task_passes P Q b task higher ≡ true
    unfolding need_of
    met_passes Q t o u l m = (task_passes_iff P Q b task higher).1 (t, omega (arith, supply_le_t P Q t o u), l, m)

    -- q fails, and r is the least budget behind it that is enough by the deadline, if there is one
    pub narrow_start : (r : Option ℕ) → 1 ≤ q → q ≤ P → passing_time P q b task higher ≡ None → r ≡ enough_from P (need_of b task higher task.deadline) task.deadline (q + 1) (P + 1)
        → Narrowed (option_map (λ budget. passed budget 1) r) 1 (q + 1) (unwrap_or r (P + 1))
    narrow_start r o u f eq =
        let is = enough_is P (need_of b task higher task.deadline) task.deadline (q + 1) (P + 1) (omega arith) r eq in
        record {
          bracket = bracket_down test q (suc P) (q + 1) (suc P) _
              (bracket_up test q (suc P) q (suc P) q (test_rises q u) (bracket_start test q (suc P) o (omega arith)) (omega arith) (omega arith) (no_time_fails P q b task higher f))
              is.low (omega (arith, is.high))
              (λ h. met_passes _ task.deadline (omega (arith, is.low)) (omega arith) (omega arith) (is.enough (omega arith)));
          some = omega arith;
          early = λ m p h t s e. absurd (omega arith);
          found = known r eq;
        }
      where
        known : (r : Option ℕ) → r ≡ enough_from P (need_of b task higher task.deadline) task.deadline (q + 1) (P + 1)
            → MatchOption (option_map (λ budget. passed budget 1) r) (unwrap_or r (P + 1) ≡ suc P) (λ p. (p.budget ≡ unwrap_or r (P + 1)) × (unwrap_or r (P + 1) ≤ P) × (1 ≤ p.time) × NoneMet P p.budget b task higher p.time)
        known None eq = omega arith
        known (Some Q) eq =
            (refl, omega (arith, enough_most P (need_of b task higher task.deadline) task.deadline (q + 1) (P + 1) Q eq), omega arith, λ t s e. absurd (omega arith))

    -- the budget m passes, first at t; up to e the need stays the same, and the least budget that is enough by then is found, or none below m is
    module _ (least : Option Passed) (start low high m t e : ℕ) (found : Option ℕ) (k : Narrowed least start low high) (l : low ≤ m) (h : m < high)
        (at : passing_time P m b task higher ≡ Some t) (apart : Separated higher) (from : t ≤ e) (within : e ≤ task.deadline) (same : demand_in higher e ≡ demand_in higher t)
        (eq : found ≡ enough_from P (need_of b task higher e) e low m) where
      abbrev r : ℕ
      r = unwrap_or found m

      is : EnoughIs P (need_of b task higher e) e low m r
      is = enough_is P (need_of b task higher e) e low m l found eq

      passes : (r ≡ m) ⊎ (r < m) → task_passes P r b task higher ≡ true
      passes (inl s) = ap test s ∙ time_passes P m b task higher t at
      passes (inr s) = met_passes r e (omega (arith, k.bracket.some, k.bracket.from, is.low)) (omega (arith, k.bracket.top)) within (is.enough s)

      -- no budget up to m meets it before t
      sooner : (Q : ℕ) → low ≤ Q → Q ≤ m → NoneMet P Q b task higher t
      sooner Q p s =
          none_met_less P Q m b task higher t (omega (arith, k.bracket.some, k.bracket.from)) s (omega (arith, k.bracket.top)) (time_first P m b task higher t at)

      -- a smaller budget is met neither before t nor up to e
      unmet : (Q v : ℕ) → low ≤ Q → Q < r → 1 ≤ v → v ≤ e → Dec (v < t) → is_met P Q b task higher v ≡ false
      unfolding need_of
      unmet Q v p s o w (yes d) = sooner Q p (omega (arith, is.high)) v o d
      unmet Q v p s o w (no d) =
          lt-leb (need_of b task higher v) (supply_of P Q v)
          (omega (arith, same, is.least Q p s, demand_mono higher apart t v (omega arith), supply_mono_t P Q v e (omega (arith, k.bracket.some, k.bracket.from)) (omega (arith, k.bracket.top, is.high)) w))

      pub narrow_down : Narrowed (Some (passed r t)) (e + 1) low r
      narrow_down = record {
        bracket = bracket_down test q (suc P) low high r k.bracket is.low (omega (arith, is.high)) (λ s. passes (eq-or-lt_of_le is.high));
        some = omega arith;
        early = λ Q p s v o w. unmet Q v p s o (omega arith) (dec_lt v t);
        found = (refl, omega (arith, is.high, k.bracket.top), (time_within m t at).0, sooner r is.low is.high);
      }
