-- The refusals of a chart: 1 to 11 are the plan's, 19 comes at the first part with a period that does not divide 720, then 14 if fewer than 720 bytes are lent.
--   least_chart ps  == the chart of the parts with the rows of least load
--   at_once room ps == this chart, or the refusal of the first no among 10, 11, 19 and 14
--   OfNoPlan r      == a refusal by questions 1 to 11
--   first_out plan  == the first part with a period that does not divide 720
-- Assumes nothing.
use Prim.Native.Nat.{ℕ, suc, ◌/◌, ◌%◌, ◌<◌}
use native.Mathlib.Nat.{div-add-mod', mul-mod_left}
use native.Mathlib.Omega.{arith}
use mathlib.Core.Path.{◌≡◌, refl, sym, ap, subst, ◌∙◌}
use mathlib.Core.Bool.{Bool, true, false, not, false≢true}
use mathlib.Core.Logic.{◌⊎◌, inl, inr, ◌↔◌}
use mathlib.Core.List.{List, [], ◌∷◌}
use borrow.Author.Tests.{eq-eqb, eqb-true, leb-false, lt-leb}
use lib.Dec.{leb}
use lib.ListN.{length, get_or}
use Rattle.least.specs.Lists.{every, first_of}
use Rattle.least.proofs.Lists.{every_member, every_all, nth_get, nth_member}
use Rattle.least.proofs.Members.{each_place}
use Rattle.refusal.specs.declared.Refusal.{Refusal}
use Rattle.refusal.specs.declared.Refusal.TheVariants.{NoBudget, NoChoice, NoRoom, OutOfCycle}
use Rattle.refusal.specs.Limits.{cycle}
use Rattle.refusal.specs.Questions.{ask, Answer, first_no, when_answered, when_done}
use Rattle.refusal.specs.Questions.Answer.{answered, refused}
use Rattle.refusal.proofs.Answers.{answered_not_refused, answer_same_refusal}
use Rattle.refusal.proofs.Questions.{asked_iff, first_of_two}
use Rattle.load.specs.declared.Row.{Row}
use Rattle.load.specs.Load.{row}
use Rattle.layout.specs.Layout.{chart, in_cycle}
use Rattle.selection.specs.Questions.{choice_questions}
use Rattle.plan_file.specs.Numbers.{PlanPart, parts_of}
use Rattle.answers.specs.Plan.{Plan, partitions, least_rows, plan_file}
use Rattle.answers.specs.Answers.{plan_of, chart_of}
use Rattle.refusal.proofs.InTurn.{asked_in_turn, followed}
use Rattle.answers.proofs.PlanRows.{least_plan, chosen_asked}
use Rattle.answers.proofs.ChartRows.{charted_behind, chart_of_plan, chart_unplanned, chart_planned}
use Rattle.planner.specs.SystemTest.{row_at}
use Rattle.planner.specs.Demand1.{OfTheFile}
use Rattle.planner.specs.Refusals.{RefusedBehind, chart_questions, Divides, InCycle, OutOfCycleAt}
use Rattle.planner.proofs.Weighing.{FailsAt, fails_at, at_fails, not_iff}
use Rattle.planner.proofs.Behind.{refused_behind_iff, unread_of_file}

-- the questions of a chart, asked at once
abbrev least_chart : List PlanPart → List ℕ
least_chart ps = chart (least_rows (partitions ps))

abbrev at_once : ℕ → List PlanPart → Answer (List ℕ)
at_once room ps = when_done (first_no (chart_questions room ps)) (answered (least_chart ps))

chart_at_once : (s : List ℕ) (room : ℕ) → chart_of s room ≡ when_answered (parts_of s) (at_once room)
unfolding plan_file when_answered
chart_at_once s room = chart_of_plan room s ∙ go (parts_of s) refl
  where
    go : (x : Answer (List PlanPart)) → parts_of s ≡ x → when_answered (plan_file s) (charted_behind room) ≡ when_answered (parts_of s) (at_once room)
    go (answered ps) e =
        rw e
        (ap (λ (a : Answer Plan). when_answered a (charted_behind room)) (chosen_asked ps) ∙ followed _ (answered (least_plan ps)) (charted_behind room) ∙ asked_in_turn _ _ _)
    go (refused r) e = rw e refl

pub chart_iff : (s : List ℕ) (room : ℕ) (r : Refusal) → (chart_of s room ≡ refused r) ↔ RefusedBehind s (chart_questions room) r
chart_iff s room r = let iff = refused_behind_iff s (chart_questions room) least_chart r in ((λ e. iff.0 (sym (chart_at_once s room) ∙ e)), λ d. chart_at_once s room ∙ iff.1 d)

-- 1 to 11
pub unplanned_alike : (s : List ℕ) (room : ℕ) (r : Refusal) → plan_file s ≡ refused r → (plan_of s room ≡ refused r) × (chart_of s room ≡ refused r)
unfolding plan_of when_answered
unplanned_alike s room r e = (rw e refl, chart_unplanned room s r e)

abbrev OfNoPlan : Refusal → Type 0
OfNoPlan r = OfTheFile r ⊎ (((j : ℕ) × (r ≡ NoBudget j)) ⊎ (r ≡ NoChoice))

unplanned_by : (s : List ℕ) (r : Refusal) → plan_file s ≡ refused r → OfNoPlan r
unfolding plan_file choice_questions when_answered
unplanned_by s r e = go (parts_of s) refl
  where
    either : {j : ℕ} → (r ≡ NoBudget j) ⊎ (r ≡ NoChoice) → OfNoPlan r
    either {j} (inl h) = inr (inl (j, h))
    either (inr h) = inr (inr h)

    go : (y : Answer (List PlanPart)) → parts_of s ≡ y → OfNoPlan r
    go (answered ps) f = either (first_of_two _ _ r ((asked_iff _ (least_plan ps) r).0 (sym (chosen_asked ps) ∙ (rw f at e))))
    go (refused y) f = inl (unread_of_file s r (f ∙ ap refused (answer_same_refusal (rw f at e))))

not_19 : (k : ℕ) → OfNoPlan (OutOfCycle k) → ⊥
not_19 k (inl e) = false≢true e
not_19 k (inr (inl (j, e))) = let z : ◌≡◌ {A = ℕ} 0 1 = cc e in omega arith
not_19 k (inr (inr e)) = let z : ◌≡◌ {A = ℕ} 0 1 = cc e in omega arith

not_14 : OfNoPlan NoRoom → ⊥
not_14 (inl e) = false≢true e
not_14 (inr (inl (j, e))) = let z : ◌≡◌ {A = ℕ} 0 1 = cc e in omega arith
not_14 (inr (inr e)) = let z : ◌≡◌ {A = ℕ} 0 1 = cc e in omega arith

-- a period divides 720
pub in_cycle_iff : (r : Row) → (in_cycle r ≡ true) ↔ Divides r.period cycle
unfolding in_cycle
in_cycle_iff r = (to, from)
  where
    to : in_cycle r ≡ true → Divides r.period cycle
    to e = (cycle / r.period, omega (arith, div-add-mod' cycle r.period, eqb-true (cycle % r.period) 0 e))

    from : Divides r.period cycle → in_cycle r ≡ true
    from (m, e) = eq-eqb (cycle % r.period) 0 (ap (λ (n : ℕ). n % r.period) (sym e) ∙ mul-mod_left m r.period)

pub all_in_cycle_iff : (rows : List Row) → (every in_cycle rows ≡ true) ↔ InCycle rows
all_in_cycle_iff rows = (
  (λ e i a b. (in_cycle_iff _).0 (every_member in_cycle rows e (nth_member (row 0 0 0) i rows a b))),
  (λ f. every_all in_cycle rows (each_place (row 0 0 0) (λ r. in_cycle r ≡ true) rows (at f))),
)
  where
    at : InCycle rows → (k : ℕ) → k < length rows → in_cycle (get_or rows k (row 0 0 0)) ≡ true
    at f k h = (in_cycle_iff _).1 (subst (λ (r : Row). Divides r.period cycle) (nth_get (row 0 0 0) k rows) (f (suc k) (omega arith) (omega (arith, h))))

abbrev first_out : Plan → ℕ
first_out plan = first_of (λ r. not (in_cycle r)) plan.rows

out_of_cycle_at : (plan : Plan) (k : ℕ) → ((every in_cycle plan.rows ≡ false) × (first_out plan ≡ k)) ↔ OutOfCycleAt plan k
out_of_cycle_at plan k = (to, from)
  where
    to : (every in_cycle plan.rows ≡ false) × (first_out plan ≡ k) → OutOfCycleAt plan k
    to (e, q) =
        let f = subst (FailsAt (row 0 0 0) in_cycle plan.rows) q (fails_at (row 0 0 0) in_cycle plan.rows e) in
        record { from = f.from; to = f.to; out = (not_iff _ (in_cycle_iff (row_at plan.rows k))).0 f.fails; before = λ i a b. (in_cycle_iff _).0 (f.before i a b) }

    from : OutOfCycleAt plan k → (every in_cycle plan.rows ≡ false) × (first_out plan ≡ k)
    from o =
        at_fails (row 0 0 0) in_cycle plan.rows k
        (record { from = o.from; to = o.to; fails = (not_iff _ (in_cycle_iff (row_at plan.rows k))).1 o.out; before = λ i a b. (in_cycle_iff _).1 (o.before i a b) })

-- a question with the refusal 19, then one with 14
module _ {A : Type 0} (j : ℕ) (v : A) where
  abbrev asked : Bool → Bool → Answer A
  asked a b = when_done (first_no (ask (OutOfCycle j) a ∷ ask NoRoom b ∷ [])) (answered v)

  asked_19 : (a b : Bool) (k : ℕ) → (asked a b ≡ refused (OutOfCycle k)) ↔ ((a ≡ false) × (j ≡ k))
  unfolding when_done first_no
  asked_19 true true k = ((λ e. absurd (answered_not_refused e)), λ h. absurd (false≢true (sym h.0)))
  asked_19 true false k = ((λ e. let z : ◌≡◌ {A = ℕ} 0 1 = cc e in absurd (omega arith)), λ h. absurd (false≢true (sym h.0)))
  asked_19 false b k = ((λ e. (refl, cc e)), λ h. ap (λ (n : ℕ). refused (OutOfCycle n)) h.1)

  asked_14 : (a b : Bool) → (asked a b ≡ refused NoRoom) ↔ ((a ≡ true) × (b ≡ false))
  unfolding when_done first_no
  asked_14 true true = ((λ e. absurd (answered_not_refused e)), λ h. absurd (false≢true (sym h.1)))
  asked_14 true false = ((λ e. (refl, refl)), λ h. refl)
  asked_14 false b = ((λ e. let z : ◌≡◌ {A = ℕ} 0 1 = cc e in absurd (omega arith)), λ h. absurd (false≢true h.0))

-- a refusal of the chart that is none of the plan's: of a file that is planned
module _ (s : List ℕ) (room : ℕ) where
  behind_plan : (x : Refusal) (P : Plan → Type 0) → (OfNoPlan x → ⊥) → ((plan : Plan) → plan_file s ≡ answered plan → (chart_of s room ≡ refused x) ↔ P plan) →
      (chart_of s room ≡ refused x) ↔ ((plan : Plan) × (plan_file s ≡ answered plan) × P plan)
  behind_plan x P other iff = (λ h. to (plan_file s) refl h, λ (plan, e, p). (iff plan e).1 p)
    where
      to : (y : Answer Plan) → plan_file s ≡ y → chart_of s room ≡ refused x → (plan : Plan) × (plan_file s ≡ answered plan) × P plan
      to (answered plan) e h = (plan, e, (iff plan e).0 h)
      to (refused r) e h = absurd (other (subst OfNoPlan (answer_same_refusal (sym (chart_unplanned room s r e) ∙ h)) (unplanned_by s r e)))

  -- 19
  pub out_of_cycle_iff : (k : ℕ) → (chart_of s room ≡ refused (OutOfCycle k)) ↔ ((plan : Plan) × (plan_file s ≡ answered plan) × OutOfCycleAt plan k)
  out_of_cycle_iff k = behind_plan (OutOfCycle k) (λ plan. OutOfCycleAt plan k) (not_19 k) go
    where
      go : (plan : Plan) → plan_file s ≡ answered plan → (chart_of s room ≡ refused (OutOfCycle k)) ↔ OutOfCycleAt plan k
      go plan e =
          let iff = asked_19 (first_out plan) (chart plan.rows) (every in_cycle plan.rows) (leb cycle room) k in
          let is = chart_planned room s plan e in
          ((λ h. (out_of_cycle_at plan k).0 (iff.0 (sym is ∙ h))), λ o. is ∙ iff.1 ((out_of_cycle_at plan k).1 o))

  -- 14
  pub no_room_for_chart_iff : (chart_of s room ≡ refused NoRoom) ↔ ((plan : Plan) × (plan_file s ≡ answered plan) × InCycle plan.rows × (room < cycle))
  no_room_for_chart_iff =
      let iff = behind_plan NoRoom (λ plan. InCycle plan.rows × (room < cycle)) not_14 go in
      ((λ h. let d = iff.0 h in (d.0, d.1, d.2.0, d.2.1)), λ (plan, e, c, l). iff.1 (plan, e, (c, l)))
    where
      go : (plan : Plan) → plan_file s ≡ answered plan → (chart_of s room ≡ refused NoRoom) ↔ (InCycle plan.rows × (room < cycle))
      go plan e =
          let iff = asked_14 (first_out plan) (chart plan.rows) (every in_cycle plan.rows) (leb cycle room) in
          let is = chart_planned room s plan e in (
            (λ h. let b = iff.0 (sym is ∙ h) in ((all_in_cycle_iff plan.rows).0 b.0, leb-false cycle room b.1)),
            (λ (c, l). is ∙ iff.1 ((all_in_cycle_iff plan.rows).1 c, lt-leb cycle room l)),
          )
