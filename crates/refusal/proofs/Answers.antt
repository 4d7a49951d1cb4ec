-- An answer is a value or a refusal, and an outcome is done or a refusal: never both, and each tells what it holds.
-- Assumes nothing.
use Prim.Native.Nat.{ℕ}
use native.Mathlib.Omega.{arith}
use mathlib.Core.Path.{◌≡◌, ap}
use mathlib.Core.Logic.{◌↔◌}
use Rattle.refusal.specs.declared.Refusal.{Refusal}
use Rattle.refusal.specs.declared.Outcome.TheVariants.{Done, Refused}
use Rattle.refusal.specs.Questions.{Answer, outcome_of}
use Rattle.refusal.specs.Questions.Answer.{answered, refused}

pub done_not_refused : {r : Refusal} → Done ≡ Refused r → ⊥
done_not_refused e = let z : ◌≡◌ {A = ℕ} 0 1 = cc in omega arith

pub outcome_same_refusal : {r s : Refusal} → Refused r ≡ Refused s → r ≡ s
outcome_same_refusal e = cc

module _ {A : Type 0} where
  pub answered_not_refused : {a : A} {r : Refusal} → answered a ≡ refused r → ⊥
  answered_not_refused e = let z : ◌≡◌ {A = ℕ} 0 1 = cc in omega arith

  pub answer_same_value : {a b : A} → answered a ≡ answered b → a ≡ b
  answer_same_value e = cc

  pub outcome_refused_iff : (a : Answer A) (r : Refusal) → (outcome_of a ≡ Refused r) ↔ (a ≡ refused r)
  unfolding outcome_of
  outcome_refused_iff (answered a) r = ((λ e. absurd (done_not_refused e)), λ e. absurd (answered_not_refused e))
  outcome_refused_iff (refused q) r = ((λ e. ap refused (outcome_same_refusal e)), λ e. ap outcome_of e)

  pub answer_same_refusal : {r s : Refusal} → ◌≡◌ {A = Answer A} (refused r) (refused s) → r ≡ s
  answer_same_refusal e = cc
