-- The theorem of request M-108.
-- Assumes nothing.
use Prim.Native.Nat.{ℕ, ◌≤◌}
use native.Mathlib.Nat.{le_trans}
use native.Mathlib.Omega.{arith}
use mathlib.Core.Path.{◌≡◌}
use mathlib.Core.Bool.{true}
use mathlib.Core.Logic.{◌↔◌}
use Rattle.refusal.specs.declared.Outcome.TheVariants.{Done}
use Rattle.delivery.proofs.Given.{given_periods, periods_delivered}
use Rattle.supply.specs.Supply.{supply_of}
use Rattle.task_set.specs.Partition.{Partition}
use Rattle.task_set.specs.Blocking.{Setting}
use Rattle.budget.specs.Budget.{passes}
use Rattle.answers.specs.Answers.{supply_answer, supplied}
use Rattle.planner.proofs.Refusals.{supply_done, supply_fits}
use Rattle.planner.proofs.LocalTest.{local_test}
use Rattle.first_principles.specs.FirstPrinciples.{LeastGiven, early_then_late, PassesDelivered, FirstPrinciples}
use Rattle.first_principles.proofs.Windows.{supply_le_given, supply_le_delivered}
use Rattle.first_principles.proofs.EarlyThenLate.{early_delivers, early_is_supply}

supply_least : (P Q t : ℕ) → 1 ≤ Q → Q ≤ P → LeastGiven P Q t (supply_of P Q t)
supply_least P Q t h b = record {
  never_fewer = λ A d s. supply_le_delivered P Q t h b A d _;
  reached = (early_then_late P Q, early_delivers P Q h b, Q, early_is_supply P Q t h b);
}

-- the window that reaches one has no fewer than the other
least_le : (P Q t x y : ℕ) → LeastGiven P Q t x → LeastGiven P Q t y → x ≤ y
least_le P Q t x y a b =
    let w = b.reached in
    omega (arith, w.3, a.never_fewer w.0 w.1 w.2)

least_settled : (P Q t x y : ℕ) → LeastGiven P Q t x → LeastGiven P Q t y → x ≡ y
least_settled P Q t x y a b = omega (arith, least_le P Q t x y a b, least_le P Q t y x b a)

supply_answers_the_least : (P Q t : ℕ) → (supplied (supply_answer P Q t)).outcome ≡ Done → LeastGiven P Q t (supplied (supply_answer P Q t)).ticks
supply_answers_the_least P Q t e =
    let f = supply_done P Q t e in
    rw (supply_fits P Q t f) (supply_least P Q t f.budget_some f.budget_most)

module _ (v : Partition) (σ : Setting) (Q : ℕ) (h : 1 ≤ Q) (b : Q ≤ v.period) where
  -- at the same t; and by the worst delivery
  passes_delivered : (passes v σ Q ≡ true) ↔ PassesDelivered v σ Q
  passes_delivered = (to, from)
    where
      to : passes v σ Q ≡ true → PassesDelivered v σ Q
      to p A d s lower task higher e =
          let w = (local_test.budget v σ Q).0 p lower task higher e in
          (w.0, w.1, w.2, le_trans w.3 (supply_le_delivered v.period Q w.0 h b A d _))

      from : PassesDelivered v σ Q → passes v σ Q ≡ true
      from f =
          (local_test.budget v σ Q).1 (λ lower task higher e.
          let w = f (early_then_late v.period Q) (early_delivers v.period Q h b) Q lower task higher e in
          (w.0, w.1, w.2, omega (arith, w.3, early_is_supply v.period Q w.0 h b)))

pub first_principles : FirstPrinciples
first_principles = record {
  exactly = λ P Q A. (given_periods P Q A, periods_delivered P Q A);
  least = supply_least;
  one = least_settled;
  early_delivers = early_delivers;
  early_is_supply = early_is_supply;
  beyond = supply_le_given;
  supply_answers = supply_answers_the_least;
  passing = passes_delivered;
}
