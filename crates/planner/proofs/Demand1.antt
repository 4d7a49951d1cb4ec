-- Demand 1 is met.
-- Assumes nothing.
use Prim.Native.Nat.{ℕ, ◌≤◌}
use mathlib.Core.Path.{◌≡◌, refl, sym, ap, subst, ◌∙◌}
use mathlib.Core.Logic.{◌⊎◌, inl, inr, ⊎_elim}
use mathlib.Core.List.{List}
use lib.ListN.{length, drop}
use lib.Seq.{drop-append_seam}
use Rattle.refusal.specs.declared.Refusal.{Refusal}
use Rattle.refusal.specs.declared.Refusal.TheVariants.{NoBudget, NoChoice, BadHandSet, NoTime, NoRoom, OutOfCycle}
use Rattle.refusal.specs.declared.Outcome.TheVariants.{Refused}
use Rattle.refusal.specs.Questions.{Question, Answer}
use Rattle.refusal.specs.Questions.Answer.{answered, refused}
use Rattle.refusal.specs.FirstNo.{FirstNo}
use Rattle.refusal.proofs.Answers.{done_not_refused}
use Rattle.refusal.proofs.Questions.{first_or_later, only_first, first_of_two, first_of_three, first_of_four}
use Rattle.load.specs.Weigh.{weigh_questions, struct_questions}
use Rattle.selection.specs.Questions.{choice_questions}
use Rattle.plan_file.specs.Numbers.{PlanPart, parts_of}
use Rattle.plan_file.proofs.Reading.{parts_refused_iff}
use Rattle.answers.specs.declared.Planned.{Planned}
use Rattle.answers.specs.Answers.{plan_of, chart_of, planned, buffer_after, HandedOver, PlanAnswered}
use Rattle.answers.proofs.PlanRows.{plan_unread, plan_fits}
use Rattle.answers.proofs.ChartRows.{chart_unread, chart_fits}
use Rattle.planner.specs.Demand1.{OfTheFile, OfThePlan, OfTheChart, LentBytes, Demand1}
use Rattle.planner.specs.Refusals.{RefusedBehind}
use Rattle.planner.proofs.Behind.{unread_of_file}
use Rattle.planner.proofs.Refusals.{every_refusal}

-- the refusal of a file, or one about its parts
module _ {s : List ℕ} {questions : List PlanPart → List Question} {r : Refusal} {P : Type 0} where
  numbered : ((parts : List PlanPart) → FirstNo (questions parts) r → P) → RefusedBehind s questions r → OfTheFile r ⊎ P
  numbered f (inl d) = inl (unread_of_file s r ((parts_refused_iff s r).1 d))
  numbered f (inr d) = inr (f d.0 d.2)

some_budget : {r : Refusal} {j : ℕ} {P : Type 0} → (r ≡ NoBudget j) ⊎ P → ((i : ℕ) × (r ≡ NoBudget i)) ⊎ P
some_budget {j = j} (inl e) = inl (j, e)
some_budget (inr p) = inr p

some_row : {r : Refusal} {i j : ℕ} → (r ≡ BadHandSet 0) ⊎ ((r ≡ BadHandSet i) ⊎ (r ≡ NoTime j)) → ((k : ℕ) × (r ≡ BadHandSet k)) ⊎ ((k : ℕ) × (r ≡ NoTime k))
some_row (inl e) = inl (0, e)
some_row {i = i} (inr (inl e)) = inl (i, e)
some_row {j = j} (inr (inr e)) = inr (j, e)

some_part : {r : Refusal} {j k : ℕ} → (r ≡ NoBudget j) ⊎ ((r ≡ NoChoice) ⊎ ((r ≡ OutOfCycle k) ⊎ (r ≡ NoRoom))) →
    ((i : ℕ) × (r ≡ NoBudget i)) ⊎ ((r ≡ NoChoice) ⊎ (((i : ℕ) × (r ≡ OutOfCycle i)) ⊎ (r ≡ NoRoom)))
some_part {j = j} (inl e) = inl (j, e)
some_part (inr (inl e)) = inr (inl e)
some_part {k = k} (inr (inr (inl e))) = inr (inr (inl (k, e)))
some_part (inr (inr (inr e))) = inr (inr (inr e))

plan_refusal : (s : List ℕ) (room : ℕ) (r : Refusal) → plan_of s room ≡ refused r → OfThePlan r
unfolding choice_questions
plan_refusal s room r e = numbered (λ parts f. some_budget (first_of_three _ _ _ r f)) ((every_refusal.plan s room r).0 e)

chart_refusal : (s : List ℕ) (room : ℕ) (r : Refusal) → chart_of s room ≡ refused r → OfTheChart r
unfolding choice_questions
chart_refusal s room r e = numbered (λ parts f. some_part (first_of_four _ _ _ _ r f)) ((every_refusal.chart s room r).0 e)

-- what is handed over
module _ {before : List ℕ} {r : Planned} {after : List ℕ} where
  refused_untouched : (a : Answer (List ℕ)) (x : Refusal) → HandedOver a before r after → r.outcome ≡ Refused x → after ≡ before
  unfolding planned buffer_after
  refused_untouched (answered text) x h e = absurd (done_not_refused (sym (ap (λ (p : Planned). p.outcome) h.result) ∙ e))
  refused_untouched (refused y) x h e = h.bytes

  others_untouched : (a : Answer (List ℕ)) → HandedOver a before r after → drop r.written after ≡ drop r.written before
  unfolding planned buffer_after
  others_untouched (answered text) h = rw (h.result, h.bytes) (drop-append_seam text (drop (length text) before))
  others_untouched (refused x) h = ap (drop r.written) h.bytes

-- an operation that hands over its answer for the file and the room
module _ (answer : List ℕ → ℕ → Answer (List ℕ)) (Of : Refusal → Type 0) where
  abbrev Promised : List ℕ → List ℕ → Planned → List ℕ → Type 0
  Promised s before r after = HandedOver (answer s (length before)) before r after

  module _ (answer-fits : (s : List ℕ) (room : ℕ) (text : List ℕ) → answer s room ≡ answered text → length text ≤ room)
      (of : (s : List ℕ) (room : ℕ) (x : Refusal) → answer s room ≡ refused x → Of x)
      (unread : (s : List ℕ) (x : Refusal) → parts_of s ≡ refused x → (room : ℕ) → answer s room ≡ refused x) where
    complete_or_refused : (s before : List ℕ) (r : Planned) (after : List ℕ) (a : Answer (List ℕ)) → answer s (length before) ≡ a → HandedOver a before r after →
        ((text : List ℕ) × (length text ≤ length before) × HandedOver (answered text) before r after) ⊎ ((x : Refusal) × Of x × HandedOver (refused x) before r after)
    complete_or_refused s before r after (answered text) e h = inl (text, answer-fits s (length before) text e, h)
    complete_or_refused s before r after (refused x) e h = inr (x, of s (length before) x e, h)

    lent_bytes : LentBytes Promised Of
    lent_bytes = record {
      complete = λ s before r after h. complete_or_refused s before r after (answer s (length before)) refl h;
      unread = λ s before r after x h d. subst (λ (a : Answer (List ℕ)). HandedOver a before r after) (unread s x ((parts_refused_iff s x).1 d) (length before)) h;
      untouched = λ s before r after x h e. refused_untouched (answer s (length before)) x h e;
      others = λ s before r after h. others_untouched (answer s (length before)) h;
    }

pub demand_1 : Demand1 PlanAnswered
unfolding weigh_questions struct_questions
demand_1 = record {
  plan = lent_bytes plan_of OfThePlan plan_fits plan_refusal plan_unread;
  chart = lent_bytes chart_of OfTheChart chart_fits chart_refusal chart_unread;
  candidates = λ s k r e. numbered (λ parts f. first_of_two _ _ r f) ((every_refusal.candidates s k r).0 e);
  name = λ s k r e. numbered (λ parts f. only_first _ r f) ((every_refusal.name s k r).0 e);
  weigh = λ rows r e. some_row (first_of_three _ _ _ r ((every_refusal.weigh rows r).0 e));
  weigh_struct = λ rows r e. ⊎_elim (λ h. inl (0, h)) (λ f. some_row (first_of_three _ _ _ r f)) (first_or_later _ _ r ((every_refusal.weigh_struct rows r).0 e));
  supply = λ P Q t r e. only_first _ r ((every_refusal.supply P Q t r).0 e);
}
