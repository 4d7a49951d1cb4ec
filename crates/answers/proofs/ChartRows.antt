-- The chart of a plan: questions 19 and 14, asked behind those of the plan.
--   charted_behind room plan == the chart of the plan, or the refusal of the first no among 19 and 14
-- Assumes nothing.
use Prim.Native.Nat.{ℕ, ◌≤◌}
use mathlib.Core.Path.{◌≡◌, refl, sym, ◌∙◌}
use mathlib.Core.List.{List, [], ◌∷◌, ◌++◌}
use lib.Dec.{leb}
use lib.ListN.{length}
use Rattle.refusal.specs.declared.Refusal.{Refusal}
use Rattle.refusal.specs.declared.Refusal.TheVariants.{NoRoom}
use Rattle.refusal.specs.Limits.{cycle}
use Rattle.refusal.specs.Questions.{Answer, ask, first_no, when_answered, when_done}
use Rattle.refusal.specs.Questions.Answer.{answered, refused}
use Rattle.refusal.proofs.Answers.{answered_not_refused}
use Rattle.layout.specs.Layout.{chart}
use Rattle.layout.proofs.Chart.{chart_length}
use Rattle.plan_file.specs.Numbers.{parts_of}
use Rattle.answers.specs.Plan.{Plan, plan_file, cycle_questions, in_cycle_plan, cycle_plan}
use Rattle.answers.specs.Answers.{in_room, charted_in, chart_of}
use Rattle.refusal.proofs.InTurn.{asked_in_turn, followed, asked_value}
use Rattle.answers.proofs.PlanRows.{answered_in_room}

-- questions 19 and 14 of a plan
module _ (room : ℕ) where
  abbrev pub charted_behind : Plan → Answer (List ℕ)
  charted_behind plan = when_done (first_no (cycle_questions plan.rows ++ (ask NoRoom (leb cycle room) ∷ []))) (answered (chart plan.rows))

  chart_asked : (plan : Plan) → when_answered (in_cycle_plan plan) (charted_in room) ≡ charted_behind plan
  unfolding in_cycle_plan in_room when_answered
  chart_asked plan =
      followed (first_no (cycle_questions plan.rows)) (answered plan) (charted_in room)
      ∙ asked_in_turn (cycle_questions plan.rows) (ask NoRoom (leb (length (chart plan.rows)) room) ∷ []) (answered (chart plan.rows))
      ∙ rw (chart_length plan.rows) refl

  module _ (s : List ℕ) where
    pub chart_of_plan : chart_of s room ≡ when_answered (plan_file s) charted_behind
    unfolding chart_of cycle_plan when_answered
    chart_of_plan = go (plan_file s) refl
      where
        go : (x : Answer Plan) → plan_file s ≡ x → chart_of s room ≡ when_answered (plan_file s) charted_behind
        go (answered plan) e = rw e (chart_asked plan)
        go (refused r) e = rw e refl

    pub chart_unplanned : (r : Refusal) → plan_file s ≡ refused r → chart_of s room ≡ refused r
    unfolding when_answered
    chart_unplanned r e = chart_of_plan ∙ rw e refl

    pub chart_planned : (plan : Plan) → plan_file s ≡ answered plan → chart_of s room ≡ charted_behind plan
    unfolding when_answered
    chart_planned plan e = chart_of_plan ∙ rw e refl

    -- the bytes of a chart
    pub chart_is : (bytes : List ℕ) → chart_of s room ≡ answered bytes → (plan : Plan) × (plan_file s ≡ answered plan) × (bytes ≡ chart plan.rows)
    chart_is bytes e = go (plan_file s) refl
      where
        go : (x : Answer Plan) → plan_file s ≡ x → (plan : Plan) × (plan_file s ≡ answered plan) × (bytes ≡ chart plan.rows)
        go (answered plan) f = (plan, f, asked_value _ (sym (chart_planned plan f) ∙ e))
        go (refused r) f = absurd (answered_not_refused (sym e ∙ chart_unplanned r f))

-- questions 1 to 9
pub chart_unread : (s : List ℕ) (r : Refusal) → parts_of s ≡ refused r → (room : ℕ) → chart_of s room ≡ refused r
unfolding plan_file when_answered
chart_unread s r e room = chart_unplanned room s r (rw e refl)

-- the lent bytes
pub chart_fits : (s : List ℕ) (room : ℕ) (bytes : List ℕ) → chart_of s room ≡ answered bytes → length bytes ≤ room
unfolding chart_of
chart_fits s room bytes e = answered_in_room (cycle_plan s) (λ plan. chart plan.rows) room bytes e
