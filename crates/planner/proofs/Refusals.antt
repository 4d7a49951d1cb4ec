-- Demand 2 is met: its half about refusals.
-- Assumes nothing.
use Prim.Native.Nat.{ℕ, ◌≤◌, ◌<◌}
use native.Mathlib.Omega.{arith}
use mathlib.Core.Path.{◌≡◌, refl, sym, ap, ◌∙◌, subst}
use mathlib.Core.Bool.{Bool, true, false, not, cond, ◌&&◌, false≢true}
use mathlib.Core.Logic.{◌↔◌}
use mathlib.Core.List.{List, [], ◌∷◌}
use borrow.Author.Tests.{leb-true, leb-false, le-leb}
use lib.Dec.{leb}
use lib.ListN.{length}
use Rattle.least.specs.Lists.{is_empty, some}
use Rattle.least.proofs.Lists.{and_iff}
use Rattle.refusal.specs.declared.Refusal.{Refusal}
use Rattle.refusal.specs.declared.Refusal.TheVariants.{NoBudget, BadHandSet, NoRoom}
use Rattle.refusal.specs.declared.Outcome.TheVariants.{Done, Refused}
use Rattle.refusal.specs.Limits.{number_limit, row_limit}
use Rattle.refusal.specs.Number.{is_of_the_file}
use Rattle.refusal.specs.Questions.{Question, ask, Answer, first_no, when_answered, when_done}
use Rattle.refusal.specs.Questions.Answer.{answered, refused}
use Rattle.refusal.specs.FirstNo.{FirstNo}
use Rattle.refusal.proofs.Answers.{answered_not_refused, answer_same_value, answer_same_refusal, done_not_refused}
use Rattle.refusal.proofs.Questions.{refused_iff, asked_iff}
use Rattle.supply.specs.Supply.{supply_of}
use Rattle.load.specs.declared.Row.{Row}
use Rattle.load.specs.declared.Rows.{Rows}
use Rattle.load.specs.declared.Weighed.{Weighed}
use Rattle.load.specs.Load.{passes_system}
use Rattle.load.specs.Weigh.{weigh_questions, weighed, weigh_of, rows_of, struct_questions, weigh_rows}
use Rattle.load.proofs.Weighing.{weigh_few, weigh_many}
use Rattle.plan_file.specs.Numbers.{PlanPart, part_at, parts_of}
use Rattle.plan_file.proofs.Reading.{parts_answered_iff}
use Rattle.answers.specs.Answers.{plan_of, is_part_number, candidates_of, name_of, supply_answer, supplied, in_room, listed_in, kept_at}
use Rattle.answers.specs.Choice.{WithoutBudget}
use Rattle.answers.specs.Plan.{Plan, partitions, plan_file}
use Rattle.refusal.proofs.InTurn.{asked_in_turn, followed}
use Rattle.answers.proofs.PlanRows.{every_kept, kept_choices, least_plan, chosen_asked, text, plan_unread, refused_10, refused_11, planned_or_14}
use Rattle.planner.specs.Refusals.{RefusedBehind, PartOf, NotAPart, SupplyFits, EveryRefusal, plan_questions}
use Rattle.planner.proofs.Weighing.{weighed_outcome, not_iff, wrong_count_iff, bad_row_iff, no_time_iff}
use Rattle.planner.proofs.KeptList.{no_budget_iff}
use Rattle.planner.proofs.Behind.{refused_behind_iff, unread_by_no_other}
use Rattle.planner.proofs.ChartRefusals.{chart_iff, unplanned_alike, out_of_cycle_iff, no_room_for_chart_iff}

weighed_iff : (qs : List Question) (rows : List Row) (r : Refusal) → ((weighed (first_no qs) rows).outcome ≡ Refused r) ↔ FirstNo qs r
weighed_iff qs rows r = let o = weighed_outcome (first_no qs) rows in ((λ e. (refused_iff qs r).0 (sym o ∙ e)), λ f. o ∙ (refused_iff qs r).1 f)

unread : {A : Type 0} (s : List ℕ) (r x : Refusal) → parts_of s ≡ refused r → ◌≡◌ {A = Answer A} (refused r) (refused x) → is_of_the_file x ≡ false → ⊥
unread s r x e h l = unread_by_no_other s r x e l (answer_same_refusal h)

-- a question about the part number, then one about the part, with its number
module _ {A : Type 0} (k : ℕ) (v : A) where
  abbrev asked : Bool → Bool → Answer A
  asked a b = when_done (first_no (ask (BadHandSet 0) a ∷ ask (NoBudget k) b ∷ [])) (answered v)

  asked_10 : (a b : Bool) (j : ℕ) → (asked a b ≡ refused (NoBudget j)) ↔ ((j ≡ k) × (a ≡ true) × (b ≡ false))
  unfolding when_done first_no
  asked_10 true true j = ((λ e. absurd (answered_not_refused e)), λ h. absurd (false≢true (sym h.2)))
  asked_10 true false j = ((λ e. (cc e, refl, refl)), λ h. ap (λ (n : ℕ). refused (NoBudget n)) (sym h.0))
  asked_10 false b j = ((λ e. let z : ◌≡◌ {A = ℕ} 0 1 = cc e in absurd (omega arith)), λ h. absurd (false≢true h.1))

  asked_12 : (a b : Bool) (j : ℕ) → (asked a b ≡ refused (BadHandSet j)) ↔ ((j ≡ 0) × (a ≡ false))
  unfolding when_done first_no
  asked_12 true true j = ((λ e. absurd (answered_not_refused e)), λ h. absurd (false≢true (sym h.1)))
  asked_12 true false j = ((λ e. let z : ◌≡◌ {A = ℕ} 0 1 = cc e in absurd (omega arith)), λ h. absurd (false≢true (sym h.1)))
  asked_12 false b j = ((λ e. (cc e, refl)), λ h. ap (λ (n : ℕ). refused (BadHandSet n)) (sym h.0))

-- one question
only_12 : {A : Type 0} (v : A) (a : Bool) (j : ℕ) → (when_done (first_no (ask (BadHandSet 0) a ∷ [])) (answered v) ≡ refused (BadHandSet j)) ↔ ((j ≡ 0) × (a ≡ false))
unfolding when_done first_no
only_12 v true j = ((λ e. absurd (answered_not_refused e)), λ h. absurd (false≢true (sym h.1)))
only_12 v false j = ((λ e. (cc e, refl)), λ h. ap (λ (n : ℕ). refused (BadHandSet n)) (sym h.0))

pub number_iff : (k : ℕ) (parts : List PlanPart) → (is_part_number k parts ≡ true) ↔ ((1 ≤ k) × (k ≤ length parts))
number_iff k parts = (
  (λ e. let h = (and_iff (leb 1 k) (leb k (length parts))).0 e in (leb-true 1 k h.0, leb-true k (length parts) h.1)),
  (λ h. (and_iff (leb 1 k) (leb k (length parts))).1 (le-leb 1 k h.0, le-leb k (length parts) h.1)),
)

module _ (s : List ℕ) (k : ℕ) where
  not_a_part : (parts : List PlanPart) → parts_of s ≡ answered parts → is_part_number k parts ≡ false → NotAPart s k
  not_a_part parts e f = record { parts = parts; readable = (parts_answered_iff s parts).0 e; none = λ a b. false≢true (sym f ∙ (number_iff k parts).1 (a, b)) }

  no_number : (n : NotAPart s k) → is_part_number k n.parts ≡ false
  no_number n = go (is_part_number k n.parts) refl
    where
      go : (b : Bool) → is_part_number k n.parts ≡ b → is_part_number k n.parts ≡ false
      go true e = let h = (number_iff k n.parts).0 e in absurd (n.none h.0 h.1)
      go false e = e

  pub candidates_read : (parts : List PlanPart) → parts_of s ≡ answered parts → candidates_of s k ≡ asked k (kept_at parts k) (is_part_number k parts) (not (is_empty (kept_at parts k)))
  unfolding candidates_of when_answered
  candidates_read parts e = rw e refl

  pub candidates_unread : (r : Refusal) → parts_of s ≡ refused r → candidates_of s k ≡ refused r
  unfolding candidates_of when_answered
  candidates_unread r e = rw e refl

  pub name_read : (parts : List PlanPart) → parts_of s ≡ answered parts → name_of s k ≡ when_done (first_no (ask (BadHandSet 0) (is_part_number k parts) ∷ [])) (answered (part_at parts k).name)
  unfolding name_of when_answered
  name_read parts e = rw e refl

  name_unread : (r : Refusal) → parts_of s ≡ refused r → name_of s k ≡ refused r
  unfolding name_of when_answered
  name_unread r e = rw e refl

  pub no_budget_10 : (j : ℕ) → (candidates_of s k ≡ refused (NoBudget j)) ↔ ((j ≡ k) × (p : PlanPart) × PartOf s k p × WithoutBudget p.numbers)
  no_budget_10 j = (λ h. to (parts_of s) refl h, from)
    where
      to : (x : Answer (List PlanPart)) → parts_of s ≡ x → candidates_of s k ≡ refused (NoBudget j) → (j ≡ k) × (p : PlanPart) × PartOf s k p × WithoutBudget p.numbers
      to (answered parts) e h =
          let p = part_at parts k in
          let a = (asked_10 k (kept_at parts k) (is_part_number k parts) (not (is_empty (kept_at parts k))) j).0 (sym (candidates_read parts e) ∙ h) in
          let n = (number_iff k parts).0 a.1 in
          (a.0, p, record { parts = parts; readable = (parts_answered_iff s parts).0 e; from = n.0; to = n.1; is = refl }, (no_budget_iff p.numbers).0 a.2)
      to (refused r) e h = absurd (unread s r (NoBudget j) e (sym (candidates_unread r e) ∙ h) refl)

      from : (j ≡ k) × (p : PlanPart) × PartOf s k p × WithoutBudget p.numbers → candidates_of s k ≡ refused (NoBudget j)
      from (i, p, d, n) =
          let v = (part_at d.parts k).numbers in
          candidates_read d.parts ((parts_answered_iff s d.parts).1 d.readable)
          ∙ (asked_10 k (kept_at d.parts k) _ _ j).1 (i, (number_iff k d.parts).1 (d.from, d.to), (no_budget_iff v).1 (subst (λ (p : PlanPart). WithoutBudget p.numbers) (sym d.is) n))

  not_a_part_12 : (j : ℕ) → (candidates_of s k ≡ refused (BadHandSet j)) ↔ ((j ≡ 0) × NotAPart s k)
  not_a_part_12 j = (λ h. to (parts_of s) refl h, from)
    where
      to : (x : Answer (List PlanPart)) → parts_of s ≡ x → candidates_of s k ≡ refused (BadHandSet j) → (j ≡ 0) × NotAPart s k
      to (answered parts) e h = let a = (asked_12 k (kept_at parts k) _ _ j).0 (sym (candidates_read parts e) ∙ h) in (a.0, not_a_part parts e a.1)
      to (refused r) e h = absurd (unread s r (BadHandSet j) e (sym (candidates_unread r e) ∙ h) refl)

      from : (j ≡ 0) × NotAPart s k → candidates_of s k ≡ refused (BadHandSet j)
      from (i, n) =
          candidates_read n.parts ((parts_answered_iff s n.parts).1 n.readable) ∙ (asked_12 k (kept_at n.parts k) _ (not (is_empty (kept_at n.parts k))) j).1 (i, no_number n)

  no_name_12 : (j : ℕ) → (name_of s k ≡ refused (BadHandSet j)) ↔ ((j ≡ 0) × NotAPart s k)
  no_name_12 j = (λ h. to (parts_of s) refl h, from)
    where
      to : (x : Answer (List PlanPart)) → parts_of s ≡ x → name_of s k ≡ refused (BadHandSet j) → (j ≡ 0) × NotAPart s k
      to (answered parts) e h = let a = (only_12 (part_at parts k).name _ j).0 (sym (name_read parts e) ∙ h) in (a.0, not_a_part parts e a.1)
      to (refused r) e h = absurd (unread s r (BadHandSet j) e (sym (name_unread r e) ∙ h) refl)

      from : (j ≡ 0) × NotAPart s k → name_of s k ≡ refused (BadHandSet j)
      from (i, n) = name_read n.parts ((parts_answered_iff s n.parts).1 n.readable) ∙ (only_12 (part_at n.parts k).name _ j).1 (i, no_number n)

-- supply
module _ (P Q t : ℕ) where
  abbrev in_range : Bool
  in_range = (leb 1 Q && leb Q P) && (leb P number_limit && leb t number_limit)

  supply_fits_iff : (in_range ≡ true) ↔ SupplyFits P Q t
  supply_fits_iff = (to, from)
    where
      to : in_range ≡ true → SupplyFits P Q t
      to e =
          let h = (and_iff _ _).0 e in
          let q = (and_iff _ _).0 h.0 in
          let p = (and_iff _ _).0 h.1 in
          record { budget_some = leb-true _ _ q.0; budget_most = leb-true _ _ q.1; period_most = leb-true _ _ p.0; time_most = leb-true _ _ p.1 }

      from : SupplyFits P Q t → in_range ≡ true
      from f = simp (le-leb _ _ f.budget_some, le-leb _ _ f.budget_most, le-leb _ _ f.period_most, le-leb _ _ f.time_most)

  pub supply_done : (supplied (supply_answer P Q t)).outcome ≡ Done → SupplyFits P Q t
  unfolding supplied supply_answer when_done first_no
  supply_done = go in_range refl
    where
      go : (b : Bool) → in_range ≡ b → (supplied (supply_answer P Q t)).outcome ≡ Done → SupplyFits P Q t
      go true r e = supply_fits_iff.0 r
      go false r e = absurd (done_not_refused (sym (rw r at e)))

  pub supply_fits : SupplyFits P Q t → supplied (supply_answer P Q t) ≡ record { outcome = Done; ticks = supply_of P Q t }
  unfolding supplied supply_answer when_done first_no
  supply_fits f = rw (supply_fits_iff.1 f) refl

  supply_12_iff : (j : ℕ) → (supply_answer P Q t ≡ refused (BadHandSet j)) ↔ ((j ≡ 0) × (SupplyFits P Q t → ⊥))
  unfolding supply_answer
  supply_12_iff j =
      let iff = only_12 (supply_of P Q t) in_range j in
      let no = not_iff in_range supply_fits_iff in
      ((λ e. let h = iff.0 e in (h.0, no.0 h.1)), λ h. iff.1 (h.0, no.1 h.1))

-- question 14
refused_14_iff : (text : List ℕ) (room : ℕ) (b : Bool) → leb (length text) room ≡ b → (cond b (answered text) (refused NoRoom) ≡ refused NoRoom) ↔ (room < length text)
refused_14_iff text room true e = ((λ h. absurd (answered_not_refused h)), λ l. absurd (omega (arith, leb-true (length text) room e)))
refused_14_iff text room false e = ((λ h. omega (arith, leb-false (length text) room e)), λ l. refl)

module _ (s : List ℕ) (room : ℕ) where
  abbrev NoRoomFor : Type 0
  NoRoomFor = (u : List ℕ) × (plan_of s (length u) ≡ answered u) × (room < length u)

  no_room_iff : (plan_of s room ≡ refused NoRoom) ↔ NoRoomFor
  no_room_iff = go (parts_of s) refl
    where
      unplanned : (r : Refusal) → ((n : ℕ) → plan_of s n ≡ refused r) → (r ≡ NoRoom → ⊥) → (plan_of s room ≡ refused NoRoom) ↔ NoRoomFor
      unplanned r are other = ((λ e. absurd (other (answer_same_refusal (sym (are room) ∙ e)))), λ h. absurd (answered_not_refused (sym h.1 ∙ are _)))

      planned : (u : List ℕ) → ((n : ℕ) → plan_of s n ≡ cond (leb (length u) n) (answered u) (refused NoRoom)) → (plan_of s room ≡ refused NoRoom) ↔ NoRoomFor
      planned u are = (
        (λ e. (u, are (length u) ∙ rw (le-leb (length u) (length u) (omega arith)) refl, (refused_14_iff u room _ refl).0 (sym (are room) ∙ e))),
        (λ h. are room ∙ (refused_14_iff u room _ refl).1 (omega (arith, h.2, ap length (same h.0 h.1)))),
      )
        where
          same : (x : List ℕ) → plan_of s (length x) ≡ answered x → x ≡ u
          same x e = go (leb (length u) (length x)) refl
            where
              go : (b : Bool) → leb (length u) (length x) ≡ b → x ≡ u
              go true f = answer_same_value (sym e ∙ are (length x) ∙ rw f refl)
              go false f = absurd (answered_not_refused {r = NoRoom} (sym e ∙ are (length x) ∙ rw f refl))

      read : (ps : List PlanPart) → parts_of s ≡ answered ps → (b : Bool) → every_kept (partitions ps) ≡ b → (c : Bool) → some passes_system (kept_choices (partitions ps)) ≡ c → (plan_of s room ≡ refused NoRoom) ↔ NoRoomFor
      read ps e false p c q = unplanned _ (λ n. refused_10 s ps n e p) (λ h. let z : ◌≡◌ {A = ℕ} 0 1 = cc h in omega arith)
      read ps e true p false q = unplanned _ (λ n. refused_11 s ps n e p q) (λ h. let z : ◌≡◌ {A = ℕ} 0 1 = cc h in omega arith)
      read ps e true p true q = planned (text ps) (λ n. planned_or_14 s ps n e p q)

      go : (x : Answer (List PlanPart)) → parts_of s ≡ x → (plan_of s room ≡ refused NoRoom) ↔ NoRoomFor
      go (answered ps) e = read ps e (every_kept (partitions ps)) refl (some passes_system (kept_choices (partitions ps))) refl
      go (refused r) e = unplanned r (plan_unread s r e) (unread_by_no_other s r NoRoom e refl)

many_refused : (rows : Rows) → row_limit < rows.count → (weigh_rows rows).outcome ≡ Refused (BadHandSet 0)
unfolding weighed
many_refused rows h = ap (λ (w : Weighed). w.outcome) (weigh_many rows h)

-- a plan asks its questions at once
plan_at_once : (s : List ℕ) (room : ℕ) → plan_of s room ≡ when_answered (parts_of s) (λ ps. when_done (first_no (plan_questions room ps)) (answered (text ps)))
unfolding plan_of plan_file in_room when_answered
plan_at_once s room = go (parts_of s) refl
  where
    go : (x : Answer (List PlanPart)) → parts_of s ≡ x → plan_of s room ≡ when_answered (parts_of s) (λ ps. when_done (first_no (plan_questions room ps)) (answered (text ps)))
    go (answered ps) e = rw e (ap (λ (a : Answer Plan). when_answered a (listed_in room)) (chosen_asked ps) ∙ followed _ (answered (least_plan ps)) (listed_in room) ∙ asked_in_turn _ _ _)
    go (refused r) e = rw e refl

plan_iff : (s : List ℕ) (room : ℕ) (r : Refusal) → (plan_of s room ≡ refused r) ↔ RefusedBehind s (plan_questions room) r
plan_iff s room r = let iff = refused_behind_iff s (plan_questions room) text r in ((λ e. iff.0 (sym (plan_at_once s room) ∙ e)), λ d. plan_at_once s room ∙ iff.1 d)

pub every_refusal : EveryRefusal
unfolding candidates_of name_of weigh_of weigh_rows supply_answer
every_refusal = record {
  plan = plan_iff;
  chart = chart_iff;
  candidates = λ s k r. refused_behind_iff s _ _ r;
  name = λ s k r. refused_behind_iff s _ _ r;
  weigh = λ rows r. weighed_iff (weigh_questions rows) rows r;
  weigh_struct = λ rows r. weighed_iff (struct_questions rows) (rows_of rows) r;
  supply = λ P Q t r. asked_iff _ _ r;
  candidates_10 = no_budget_10;
  candidates_12 = not_a_part_12;
  name_12 = no_name_12;
  supply_12 = supply_12_iff;
  weigh_12_count = wrong_count_iff;
  weigh_12_row = bad_row_iff;
  weigh_13 = no_time_iff;
  weigh_struct_12 = many_refused;
  weigh_struct_rows = weigh_few;
  plan_14 = no_room_iff;
  chart_11 = unplanned_alike;
  chart_19 = out_of_cycle_iff;
  chart_14 = no_room_for_chart_iff;
}
