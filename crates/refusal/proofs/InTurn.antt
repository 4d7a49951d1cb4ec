-- Questions asked one behind another.
-- Assumes nothing.
use mathlib.Core.Path.{◌≡◌, refl, sym, ◌∙◌}
use mathlib.Core.Bool.{Bool, true, false}
use mathlib.Core.List.{List, [], ◌∷◌, ◌++◌}
use Rattle.refusal.specs.declared.Outcome.{Outcome}
use Rattle.refusal.specs.declared.Outcome.TheVariants.{Done, Refused}
use Rattle.refusal.specs.Questions.{Question, Answer, first_no, when_answered, when_done}
use Rattle.refusal.specs.Questions.Answer.{answered, refused}
use Rattle.refusal.proofs.Answers.{answered_not_refused, answer_same_value, done_not_refused}
use Rattle.refusal.proofs.Questions.{refused_before, yes_next, no_answers}

-- questions with the answer yes are passed over
done_before : (qs more : List Question) → first_no qs ≡ Done → first_no (qs ++ more) ≡ first_no more
unfolding first_no
done_before [] more e = refl
done_before (q ∷ qs) more e = go q.yes refl (done_before qs more)
  where
    go : (b : Bool) → q.yes ≡ b → (first_no qs ≡ Done → first_no (qs ++ more) ≡ first_no more) → first_no (q ∷ (qs ++ more)) ≡ first_no more
    go true f ih = yes_next q (qs ++ more) f ∙ ih (sym (yes_next q qs f) ∙ e)
    go false f ih = absurd (done_not_refused (sym e ∙ no_answers q qs f))

module _ {A : Type 0} where
  -- two lists of questions are one
  pub asked_in_turn : (qs more : List Question) (a : Answer A) → when_done (first_no qs) (when_done (first_no more) a) ≡ when_done (first_no (qs ++ more)) a
  unfolding when_done
  asked_in_turn qs more a = go (first_no qs) refl
    where
      go : (o : Outcome) → first_no qs ≡ o → when_done (first_no qs) (when_done (first_no more) a) ≡ when_done (first_no (qs ++ more)) a
      go Done e = rw (e, done_before qs more e) refl
      go (Refused r) e = rw (e, refused_before qs more r e) refl

  -- what follows an answer behind questions is behind them
  pub followed : {B : Type 0} (o : Outcome) (a : Answer A) (next : A → Answer B) → when_answered (when_done o a) next ≡ when_done o (when_answered a next)
  unfolding when_answered when_done
  followed Done a next = refl
  followed (Refused r) a next = refl

  -- what is answered behind questions is the answer there
  pub asked_value : (o : Outcome) {a b : A} → when_done o (answered a) ≡ answered b → b ≡ a
  unfolding when_done
  asked_value Done e = sym (answer_same_value e)
  asked_value (Refused r) e = absurd (answered_not_refused (sym e))

-- what is answered was answered at each step
pub when_answered_lem : {A B : Type 0} (a : Answer A) (next : A → Answer B) (b : B) → when_answered a next ≡ answered b → (x : A) × (a ≡ answered x) × (next x ≡ answered b)
unfolding when_answered
when_answered_lem (answered x) next b e = (x, refl, e)
when_answered_lem (refused r) next b e = absurd (answered_not_refused (sym e))
