-- The first "no" ends the work: `first_no` gives the refusal of a question exactly if that question has the answer no and those before it have yes,
-- and is done exactly if every answer is yes.
-- Assumes nothing.
use mathlib.Core.Path.{◌≡◌, refl, sym, ap, ◌∙◌}
use mathlib.Core.Bool.{Bool, true, false, ◌&&◌, false≢true}
use mathlib.Core.Logic.{◌⊎◌, inl, inr, ⊎_elim, ◌↔◌}
use mathlib.Core.List.{List, [], ◌∷◌, ◌++◌}
use Rattle.refusal.specs.declared.Refusal.{Refusal}
use Rattle.refusal.specs.declared.Outcome.{Outcome}
use Rattle.refusal.specs.declared.Outcome.TheVariants.{Done, Refused}
use Rattle.refusal.specs.Questions.{Question, Answer, ask, first_no, when_done}
use Rattle.refusal.specs.Questions.Answer.{answered, refused}
use Rattle.refusal.specs.FirstNo.{all_yes, FirstNo}
use Rattle.refusal.proofs.Answers.{done_not_refused, outcome_same_refusal, answered_not_refused, answer_same_refusal}

-- a yes is passed over, a no is answered
pub yes_next : (q : Question) (qs : List Question) → q.yes ≡ true → first_no (q ∷ qs) ≡ first_no qs
unfolding first_no
yes_next q qs e = simp e

pub no_answers : (q : Question) (qs : List Question) → q.yes ≡ false → first_no (q ∷ qs) ≡ Refused q.refusal
unfolding first_no
no_answers q qs e = simp e

done_none : Done ≡ first_no []
unfolding first_no
done_none = refl

refused_first_no : (qs : List Question) (r : Refusal) → first_no qs ≡ Refused r → FirstNo qs r
unfolding all_yes
refused_first_no [] r e = absurd (done_not_refused (done_none ∙ e))
refused_first_no (q ∷ qs) r e = go q.yes refl (refused_first_no qs r)
  where
    go : (t : Bool) → q.yes ≡ t → (first_no qs ≡ Refused r → FirstNo qs r) → FirstNo (q ∷ qs) r
    go true p ih = let f = ih (sym (yes_next q qs p) ∙ e) in (q ∷ f.0, f.1, ap (λ (l : List Question). q ∷ l) f.2, simp (p, f.3))
    go false p ih =
        let s : q.refusal ≡ r = outcome_same_refusal (sym (no_answers q qs p) ∙ e) in
        ([], qs, (λ i. record { refusal = s i; yes = p i } ∷ qs), refl)

first_no_refused : (before : List Question) (r : Refusal) (after : List Question) → all_yes before ≡ true → first_no (before ++ (ask r false ∷ after)) ≡ Refused r
unfolding all_yes
first_no_refused [] r after h = no_answers (ask r false) after refl
first_no_refused (q ∷ qs) r after h = go q.yes refl (first_no_refused qs r after)
  where
    go : (t : Bool) → q.yes ≡ t → (all_yes qs ≡ true → first_no (qs ++ (ask r false ∷ after)) ≡ Refused r) → first_no (q ∷ (qs ++ (ask r false ∷ after))) ≡ Refused r
    go true p ih = yes_next q (qs ++ (ask r false ∷ after)) p ∙ ih (simp p at h)
    go false p ih = let z : false ≡ true = simp p at h in absurd (false≢true z)

-- each refusal comes if its question has the answer no and those before it have yes, and in no other case
pub refused_iff : (qs : List Question) (r : Refusal) → (first_no qs ≡ Refused r) ↔ FirstNo qs r
refused_iff qs r = (refused_first_no qs r, λ f. ap first_no f.2 ∙ first_no_refused f.0 r f.1 f.3)

-- further questions do not change a refusal
pub refused_before : (qs more : List Question) (r : Refusal) → first_no qs ≡ Refused r → first_no (qs ++ more) ≡ Refused r
refused_before [] more r e = absurd (done_not_refused (done_none ∙ e))
refused_before (q ∷ qs) more r e = go q.yes refl (refused_before qs more r)
  where
    go : (t : Bool) → q.yes ≡ t → (first_no qs ≡ Refused r → first_no (qs ++ more) ≡ Refused r) → first_no (q ∷ (qs ++ more)) ≡ Refused r
    go true p ih = yes_next q (qs ++ more) p ∙ ih (sym (yes_next q qs p) ∙ e)
    go false p ih = no_answers q (qs ++ more) p ∙ sym (no_answers q qs p) ∙ e

all_done : (qs : List Question) → all_yes qs ≡ true → first_no qs ≡ Done
unfolding all_yes
all_done [] h = sym done_none
all_done (q ∷ qs) h = go q.yes refl (all_done qs)
  where
    go : (t : Bool) → q.yes ≡ t → (all_yes qs ≡ true → first_no qs ≡ Done) → first_no (q ∷ qs) ≡ Done
    go true p ih = yes_next q qs p ∙ ih (simp p at h)
    go false p ih = let z : false ≡ true = simp p at h in absurd (false≢true z)

done_all : (qs : List Question) → first_no qs ≡ Done → all_yes qs ≡ true
unfolding all_yes
done_all [] h = refl
done_all (q ∷ qs) h = go q.yes refl (done_all qs)
  where
    go : (t : Bool) → q.yes ≡ t → (first_no qs ≡ Done → all_yes qs ≡ true) → q.yes && all_yes qs ≡ true
    go true p ih = simp p (ih (sym (yes_next q qs p) ∙ h))
    go false p ih = absurd (done_not_refused (sym h ∙ no_answers q qs p))

pub done_iff : (qs : List Question) → (first_no qs ≡ Done) ↔ (all_yes qs ≡ true)
done_iff qs = (done_all qs, all_done qs)

-- the first no is that of the first question, or of one behind it
pub first_or_later : (q : Question) (qs : List Question) (r : Refusal) → FirstNo (q ∷ qs) r → (r ≡ q.refusal) ⊎ FirstNo qs r
first_or_later q qs r f = go q.yes refl
  where
    e : first_no (q ∷ qs) ≡ Refused r
    e = (refused_iff (q ∷ qs) r).1 f

    go : (t : Bool) → q.yes ≡ t → (r ≡ q.refusal) ⊎ FirstNo qs r
    go true p = inr ((refused_iff qs r).0 (sym (yes_next q qs p) ∙ e))
    go false p = inl (outcome_same_refusal (sym e ∙ no_answers q qs p))

pub only_first : (q : Question) (r : Refusal) → FirstNo (q ∷ []) r → r ≡ q.refusal
only_first q r f = go (first_or_later q [] r f)
  where
    go : (r ≡ q.refusal) ⊎ FirstNo [] r → r ≡ q.refusal
    go (inl e) = e
    go (inr g) = absurd (done_not_refused (done_none ∙ (refused_iff [] r).1 g))

pub first_of_two : (q p : Question) (r : Refusal) → FirstNo (q ∷ p ∷ []) r → (r ≡ q.refusal) ⊎ (r ≡ p.refusal)
first_of_two q p r f = go (first_or_later q (p ∷ []) r f)
  where
    go : (r ≡ q.refusal) ⊎ FirstNo (p ∷ []) r → (r ≡ q.refusal) ⊎ (r ≡ p.refusal)
    go (inl e) = inl e
    go (inr g) = inr (only_first p r g)

pub first_of_three : (q p o : Question) (r : Refusal) → FirstNo (q ∷ p ∷ o ∷ []) r → (r ≡ q.refusal) ⊎ ((r ≡ p.refusal) ⊎ (r ≡ o.refusal))
first_of_three q p o r f = go (first_or_later q (p ∷ o ∷ []) r f)
  where
    go : (r ≡ q.refusal) ⊎ FirstNo (p ∷ o ∷ []) r → (r ≡ q.refusal) ⊎ ((r ≡ p.refusal) ⊎ (r ≡ o.refusal))
    go (inl e) = inl e
    go (inr g) = inr (first_of_two p o r g)

pub first_of_four : (q p o n : Question) (r : Refusal) → FirstNo (q ∷ p ∷ o ∷ n ∷ []) r → (r ≡ q.refusal) ⊎ ((r ≡ p.refusal) ⊎ ((r ≡ o.refusal) ⊎ (r ≡ n.refusal)))
first_of_four q p o n r f = ⊎_elim inl (λ g. inr (first_of_three p o n r g)) (first_or_later q (p ∷ o ∷ n ∷ []) r f)

-- an answer behind questions is refused by them
pub asked_iff : {A : Type 0} (qs : List Question) (a : A) (r : Refusal) → (when_done (first_no qs) (answered a) ≡ refused r) ↔ FirstNo qs r
unfolding when_done
asked_iff {A} qs a r = ((λ e. (refused_iff qs r).0 (go (first_no qs) e)), λ f. ap (λ (o : Outcome). when_done o (answered a)) ((refused_iff qs r).1 f) ∙ refused_is)
  where
    refused_is : ◌≡◌ {A = Answer A} (when_done (Refused r) (answered a)) (refused r)
    refused_is = refl

    go : (o : Outcome) → when_done o (answered a) ≡ refused r → o ≡ Refused r
    go Done e = absurd (answered_not_refused e)
    go (Refused x) e = ap Refused (answer_same_refusal e)
