-- An operation that reads a file, asks about its parts and then answers: it is refused by questions 1 to 9, or by the first no of those about the parts.
-- Assumes nothing.
use Prim.Native.Nat.{ℕ}
use mathlib.Core.Path.{◌≡◌, refl, sym, ap, ◌∙◌}
use mathlib.Core.Bool.{true, false, false≢true}
use mathlib.Core.Logic.{inl, inr, ◌↔◌}
use mathlib.Core.List.{List}
use Rattle.refusal.specs.declared.Refusal.{Refusal}
use Rattle.refusal.specs.Number.{is_of_the_file}
use Rattle.refusal.specs.Questions.{Question, Answer, first_no, when_answered, when_done}
use Rattle.refusal.specs.Questions.Answer.{answered, refused}
use Rattle.refusal.proofs.Answers.{answer_same_refusal}
use Rattle.refusal.proofs.Questions.{asked_iff}
use Rattle.plan_file.specs.Numbers.{PlanPart, parts_of}
use Rattle.plan_file.proofs.Reading.{read_refused_iff, parts_refused_iff, parts_answered_iff}
use Rattle.plan_file.proofs.Refusals.{read_refused_of_file}
use Rattle.planner.specs.Refusals.{RefusedBehind}

-- a file is refused by the questions about it only
pub unread_of_file : (s : List ℕ) (r : Refusal) → parts_of s ≡ refused r → is_of_the_file r ≡ true
unread_of_file s r e = read_refused_of_file s r ((read_refused_iff s r).1 ((parts_refused_iff s r).0 e))

pub unread_by_no_other : (s : List ℕ) (r x : Refusal) → parts_of s ≡ refused r → is_of_the_file x ≡ false → r ≡ x → ⊥
unread_by_no_other s r x e l q = false≢true (sym l ∙ sym (ap is_of_the_file q) ∙ unread_of_file s r e)

module _ {A : Type 0} (s : List ℕ) (questions : List PlanPart → List Question) (value : List PlanPart → A) (r : Refusal) where
  abbrev answer : Answer (List PlanPart) → Answer A
  answer x = when_answered x (λ parts. when_done (first_no (questions parts)) (answered (value parts)))

  behind : (x : Answer (List PlanPart)) → parts_of s ≡ x → answer x ≡ refused r → RefusedBehind s questions r
  unfolding when_answered
  behind (answered parts) e h = inr (parts, (parts_answered_iff s parts).0 e, (asked_iff (questions parts) (value parts) r).0 h)
  behind (refused x) e h = inl ((parts_refused_iff s r).0 (e ∙ ap refused (answer_same_refusal h)))

  back : RefusedBehind s questions r → answer (parts_of s) ≡ refused r
  unfolding when_answered
  back (inl d) = ap answer ((parts_refused_iff s r).1 d)
  back (inr d) = ap answer ((parts_answered_iff s d.0).1 d.1) ∙ (asked_iff (questions d.0) (value d.0) r).1 d.2

  pub refused_behind_iff : (answer (parts_of s) ≡ refused r) ↔ RefusedBehind s questions r
  refused_behind_iff = (behind (parts_of s) refl, back)
