-- What `Demand3` says of an operation, sentence by sentence: refused with 10 or 11 exactly when no choice passes; if one passes, planned exactly when its listing fits;
-- and no choice has a smaller load.
-- Assumes nothing.
use Prim.Native.Nat.{ℕ, zero, suc, ◌≤◌}
use native.Mathlib.Omega.{arith}
use mathlib.Core.Path.{◌≡◌, sym, ap, subst, ◌∙◌}
use mathlib.Core.Logic.{inl, inr, ◌↔◌}
use mathlib.Core.List.{List}
use lib.ListN.{length, take, drop, length-map}
use lib.Seq.{take-append_seam}
use Rattle.least.specs.Lists.{nth_or}
use Rattle.least.specs.Each.{Each}
use Rattle.least.specs.Each.Each.{none, more}
use Rattle.least.specs.Fraction.{◌⊑◌}
use Rattle.least.proofs.Lists.{nth_of_map}
use Rattle.refusal.specs.declared.Refusal.{Refusal}
use Rattle.refusal.specs.declared.Refusal.TheVariants.{NoRoom}
use Rattle.refusal.specs.declared.Outcome.TheVariants.{Done, Refused}
use Rattle.refusal.specs.Number.{refusal_number}
use Rattle.refusal.specs.Questions.{Answer, outcome_of}
use Rattle.refusal.specs.Questions.Answer.{answered, refused}
use Rattle.refusal.proofs.Answers.{done_not_refused, outcome_same_refusal}
use Rattle.task_set.specs.Partition.{Partition}
use Rattle.load.specs.declared.Row.{Row}
use Rattle.load.specs.Load.{row, load_of}
use Rattle.plan_file.specs.Numbers.{PlanPart, no_plan_part}
use Rattle.listing.specs.Listing.{Share}
use Rattle.answers.specs.declared.Planned.{Planned}
use Rattle.answers.specs.Answers.{planned, buffer_after, HandedOver, PlanAnswered}
use Rattle.answers.specs.Choice.{Choice, PassingChoice, Chosen}
use Rattle.planner.specs.Demand3.{printed_rows, PrintedShare, Printed, NoneToPlan, Demanded, Demand3, RefusedToPlan, Demand3InWords}
use Rattle.planner.specs.Demand3.NoneToPlan.{ten, eleven}
use Rattle.planner.specs.Demand3.Demanded.{none_passes, fits, too_long}
use Rattle.planner.proofs.Demand3.{demand_3}

each_at : {A B : Type 0} {R : A → B → Type 0} {xs : List A} {ys : List B} (d : A) (e : B) (k : ℕ) → Each R xs ys → 1 ≤ k → k ≤ length xs → R (nth_or d k xs) (nth_or e k ys)
unfolding nth_or
each_at d e k none a b = absurd (omega arith)
each_at d e zero (more h hs) a b = absurd (omega arith)
each_at d e (suc zero) (more h hs) a b = h
each_at d e (suc (suc k)) (more h hs) a b = each_at d e (suc k) hs (omega arith) (omega arith)

-- no choice passes where there is none to plan
pub none_to_plan : {ps : List PlanPart} {r : Refusal} → NoneToPlan ps r → (rs : List Row) → PassingChoice ps rs → ⊥
none_to_plan {ps} (ten {j} n) rs c =
    let at = each_at no_plan_part.numbers (row 0 0 0) j c.choice n.from (omega (arith, n.to, length-map ps (λ p. p.numbers))) in
    let k = subst (λ (v : Partition). Chosen v (nth_or (row 0 0 0) j rs)) (nth_of_map (λ (p : PlanPart). p.numbers) no_plan_part j ps) at in
    n.none k.setting k.budget k.local
none_to_plan (eleven each never) rs c = never rs c

-- what is printed is a choice that passes
printed_choice : {ps : List PlanPart} {ss : List Share} → Each PrintedShare ps ss → Choice ps (printed_rows ss)
printed_choice none = none
printed_choice (more h hs) = more (record { setting = _; budget = _; local = h.local; is = h.is }) (printed_choice hs)

pub printed_passes : {ps : List PlanPart} {text : List ℕ} (p : Printed ps text) → PassingChoice ps (printed_rows p.shares)
printed_passes p = record { choice = printed_choice p.choice; system = p.system }

none_refused : {ps : List PlanPart} {x : Refusal} (r : Planned) → NoneToPlan ps x → r.outcome ≡ Refused x → RefusedToPlan r
none_refused r (ten {j} n) e = inl (j, e)
none_refused r (eleven each never) e = inr e

-- what is handed over has the outcome of the answer
pub handed_outcome : {a : Answer (List ℕ)} {before after : List ℕ} {r : Planned} → HandedOver a before r after → r.outcome ≡ outcome_of a
unfolding planned outcome_of
handed_outcome {a = answered text} h = ap (λ (x : Planned). x.outcome) h.result
handed_outcome {a = refused x} h = ap (λ (x : Planned). x.outcome) h.result

-- a plan that is done, or refused with 14, is not refused with 10 or 11
done_not_refused_to_plan : (r : Planned) → r.outcome ≡ Done → RefusedToPlan r → ⊥
done_not_refused_to_plan r e (inl h) = done_not_refused (sym e ∙ h.1)
done_not_refused_to_plan r e (inr h) = done_not_refused (sym e ∙ h)

no_room_not_refused_to_plan : (r : Planned) → r.outcome ≡ Refused NoRoom → RefusedToPlan r → ⊥
no_room_not_refused_to_plan r e (inl h) = omega (arith, ap refusal_number (outcome_same_refusal (sym e ∙ h.1)))
no_room_not_refused_to_plan r e (inr h) = omega (arith, ap refusal_number (outcome_same_refusal (sym e ∙ h)))

-- the listing that is handed over is in the first bytes, as many as are counted
handed_text : {text before after : List ℕ} {r : Planned} → HandedOver (answered text) before r after → text ≡ take r.written after
unfolding planned buffer_after
handed_text {text} {before} h = rw (h.result, h.bytes) (sym (take-append_seam text (drop (length text) before)))

-- of what is handed over
module _ {ps : List PlanPart} {before : List ℕ} {r : Planned} {after : List ℕ} where
  refused_iff_none_passes : {a : Answer (List ℕ)} → Demanded ps (length before) a → HandedOver a before r after → RefusedToPlan r ↔ ((rs : List Row) → PassingChoice ps rs → ⊥)
  unfolding outcome_of
  refused_iff_none_passes (none_passes n) h = ((λ x. none_to_plan n), λ x. none_refused r n (handed_outcome h))
  refused_iff_none_passes (fits p f) h = ((λ x. absurd (done_not_refused_to_plan r (handed_outcome h) x)), λ x. absurd (x _ (printed_passes p)))
  refused_iff_none_passes (too_long p f) h = ((λ x. absurd (no_room_not_refused_to_plan r (handed_outcome h) x)), λ x. absurd (x _ (printed_passes p)))

  planned_iff_fits : {a : Answer (List ℕ)} → Demanded ps (length before) a → HandedOver a before r after →
      (rs : List Row) → PassingChoice ps rs → (text : List ℕ) × Printed ps text × (HandedOver (answered text) before r after ↔ (length text ≤ length before))
  unfolding outcome_of
  planned_iff_fits (none_passes n) h rs c = absurd (none_to_plan n rs c)
  planned_iff_fits (fits {text} p f) h rs c = (text, p, ((λ x. f), λ x. h))
  planned_iff_fits (too_long {text} p f) h rs c = (text, p, ((λ x. absurd (done_not_refused (sym (handed_outcome x) ∙ handed_outcome h))), λ l. absurd (omega (arith, f, l))))

  least_of_all : {a : Answer (List ℕ)} → Demanded ps (length before) a → HandedOver a before r after →
      (text : List ℕ) → HandedOver (answered text) before r after → (p : Printed ps text) × ((rs : List Row) → PassingChoice ps rs → load_of (printed_rows p.shares) ⊑ load_of rs)
  unfolding outcome_of
  least_of_all (none_passes n) h text x = absurd (done_not_refused (sym (handed_outcome x) ∙ handed_outcome h))
  least_of_all (fits p f) h text x = let q : Printed ps text = subst (Printed ps) (handed_text h ∙ sym (handed_text x)) p in (q, q.least)
  least_of_all (too_long p f) h text x = absurd (done_not_refused (sym (handed_outcome x) ∙ handed_outcome h))

pub in_words : (Promise : List ℕ → List ℕ → Planned → List ℕ → Type 0) → Demand3 Promise → Demand3InWords Promise
in_words Promise met s before r after ps kept readable =
    let m = met s before r after ps kept readable in
    record { refused_iff = refused_iff_none_passes m.1 m.2; planned_iff = planned_iff_fits m.1 m.2; least = least_of_all m.1 m.2 }

pub demand_3_in_words : Demand3InWords PlanAnswered
demand_3_in_words = in_words PlanAnswered demand_3
