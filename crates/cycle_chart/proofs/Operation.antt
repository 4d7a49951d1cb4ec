-- The operation: in which case a file is charted, and what stands in the lent bytes then.
-- Assumes nothing.
use Prim.Native.Nat.{ℕ, zero, suc, ◌%◌, ◌≤◌, ◌<◌}
use native.Mathlib.Nat.{mod-lt}
use native.Mathlib.Omega.{arith}
use mathlib.Core.Path.{◌≡◌, refl, sym, ap, ◌∙◌, subst}
use mathlib.Core.Bool.{Bool, true, false}
use mathlib.Core.Logic.{◌↔◌}
use mathlib.Core.List.{List, [], ◌∷◌, ◌++◌}
use lib.Dec.{leb, eqb}
use borrow.Author.Tests.{leb-true, le-leb}
use lib.ListN.{length, length-map, length-append, length-drop, drop, get_or, get_or-append}
use lib.Seq.{drop_at}
use Rattle.least.specs.Lists.{every}
use Rattle.least.specs.Each.{Each}
use Rattle.least.proofs.Lists.{nth_get, nth_of_map}
use Rattle.least.proofs.Each.{length_equal, each_get}
use Rattle.refusal.specs.declared.Refusal.{Refusal}
use Rattle.refusal.specs.declared.Refusal.TheVariants.{NoRoom, OutOfCycle}
use Rattle.refusal.specs.declared.Outcome.TheVariants.{Done, Refused}
use Rattle.refusal.specs.Limits.{cycle}
use Rattle.refusal.specs.Questions.{Answer, ask, first_no, when_answered, when_done}
use Rattle.refusal.specs.Questions.Answer.{answered, refused}
use Rattle.refusal.proofs.Answers.{answered_not_refused, answer_same_value, done_not_refused, outcome_refused_iff}
use Rattle.refusal.proofs.InTurn.{when_answered_lem}
use Rattle.task_set.specs.Partition.{Partition}
use Rattle.load.specs.declared.Row.{Row}
use Rattle.load.specs.Load.{row, passes_system}
use Rattle.layout.specs.Layout.{holder_at, chart, in_cycle}
use Rattle.layout.proofs.Served.{delivers_same}
use Rattle.layout.proofs.Chart.{chart_length, chart_at, chart_delivers, holder_most}
use Rattle.plan_file.specs.Numbers.{PlanPart, parts_of, no_plan_part, part_at}
use Rattle.plan_file.proofs.PlanParts.{parts_few}
use Rattle.answers.specs.declared.Planned.{Planned}
use Rattle.answers.specs.Plan.{Plan, partitions, least_rows, chosen_rows, chosen_plan, plan_file, in_cycle_plan, cycle_plan}
use Rattle.answers.specs.Answers.{in_room, charted_in, chart_of, planned, buffer_after, ChartAnswered}
use Rattle.answers.specs.Choice.{FromKept}
use Rattle.answers.proofs.PlanRows.{rows_answered, least_rows_kept, least_rows_passes}
use Rattle.planner.specs.SystemTest.{row_at}
use Rattle.planner.specs.Refusals.{InCycle, OutOfCycleAt}
use Rattle.planner.proofs.ChartRefusals.{all_in_cycle_iff}
use Rattle.planner.proofs.Refusals.{every_refusal}
use Rattle.planner.proofs.Exactly.{handed_outcome}
use Rattle.cycle_chart.specs.CycleChart.{Charted}

one_asked : {A : Type 0} (x : Refusal) (t : Bool) (a b : A) → when_done (first_no (ask x t ∷ [])) (answered a) ≡ answered b → (t ≡ true) × (a ≡ b)
unfolding when_done first_no
one_asked x true a b e = (refl, answer_same_value e)
one_asked x false a b e = absurd (answered_not_refused (sym e))

one_yes : {A : Type 0} (x : Refusal) (t : Bool) (a : A) → t ≡ true → when_done (first_no (ask x t ∷ [])) (answered a) ≡ answered a
unfolding when_done first_no
one_yes x t a e = rw e refl

-- the rows of a plan
module _ (s : List ℕ) (plan : Plan) (e : plan_file s ≡ answered plan) where
  record PlanRows : Type 0 where
    read : parts_of s ≡ answered plan.parts
    kept : Each FromKept (partitions plan.parts) plan.rows
    accepted : passes_system plan.rows ≡ true

  plan_rows : PlanRows
  unfolding plan_file chosen_plan
  plan_rows =
      let f = when_answered_lem (parts_of s) chosen_plan plan e in
      let g = when_answered_lem (chosen_rows (partitions f.0)) _ plan f.2 in
      let is : record { parts = f.0; rows = g.0 } ≡ plan = answer_same_value g.2 in
      let c = rows_answered (partitions f.0) g.0 g.1 in
      let ps : f.0 ≡ plan.parts = ap (λ (p : Plan). p.parts) is in
      let rs : least_rows (partitions f.0) ≡ plan.rows = sym c.are ∙ ap (λ (p : Plan). p.rows) is in
      let k = subst (Each FromKept (partitions f.0)) rs (least_rows_kept (partitions f.0) c.passing) in
      record {
        read = f.1 ∙ ap answered ps;
        kept = subst (λ (qs : List PlanPart). Each FromKept (partitions qs) plan.rows) ps k;
        accepted = subst (λ (rows : List Row). passes_system rows ≡ true) rs (least_rows_passes (partitions f.0) c.passing);
      }

  one_each : length plan.rows ≡ length plan.parts
  one_each = sym (length_equal plan_rows.kept) ∙ length-map plan.parts (λ p. p.numbers)

  same_period : (k : ℕ) → 1 ≤ k → k ≤ length plan.rows → (row_at plan.rows k).period ≡ (part_at plan.parts k).numbers.period
  same_period zero l h = absurd (omega arith)
  same_period (suc k) l h =
      let v = nth_of_map (λ (p : PlanPart). p.numbers) no_plan_part (suc k) plan.parts in
      let f = each_get no_plan_part.numbers (row 0 0 0) k plan_rows.kept (omega (arith, length_equal plan_rows.kept)) in
      ap (λ (r : Row). r.period) (nth_get (row 0 0 0) k plan.rows)
      ∙ f.period
      ∙ ap (λ (w : Partition). w.period) (sym (nth_get _ k (partitions plan.parts)) ∙ v)

-- in which case there is a chart
record ChartMade (s : List ℕ) (room : ℕ) (bytes : List ℕ) : Type 0 where
  plan : Plan
  is_plan : plan_file s ≡ answered plan
  cycles : every in_cycle plan.rows ≡ true
  room_for : cycle ≤ room
  is_chart : bytes ≡ chart plan.rows

chart_made : (s : List ℕ) (room : ℕ) (bytes : List ℕ) → chart_of s room ≡ answered bytes → ChartMade s room bytes
unfolding chart_of cycle_plan in_cycle_plan in_room
chart_made s room bytes e =
    let f = when_answered_lem (cycle_plan s) (charted_in room) bytes e in
    let g = when_answered_lem (plan_file s) in_cycle_plan f.0 f.1 in
    let q = one_asked _ (every in_cycle g.0.rows) g.0 f.0 g.2 in
    let w = one_asked NoRoom (leb (length (chart f.0.rows)) room) (chart f.0.rows) bytes f.2 in
    let same : chart f.0.rows ≡ chart g.0.rows = ap (λ (p : Plan). chart p.rows) (sym q.1) in
    record {
      plan = g.0;
      is_plan = g.1;
      cycles = q.0;
      room_for = omega (arith, leb-true _ room w.0, chart_length f.0.rows);
      is_chart = sym w.1 ∙ same;
    }

made_chart : (s : List ℕ) (room : ℕ) (plan : Plan) → plan_file s ≡ answered plan → InCycle plan.rows → cycle ≤ room
    → chart_of s room ≡ answered (chart plan.rows)
unfolding chart_of cycle_plan in_cycle_plan in_room when_answered
made_chart s room plan e c h =
    ap (λ (a : Answer Plan). when_answered (when_answered a in_cycle_plan) (charted_in room)) e
    ∙ ap (λ (a : Answer Plan). when_answered a (charted_in room)) (one_yes _ (every in_cycle plan.rows) plan ((all_in_cycle_iff plan.rows).1 c))
    ∙ one_yes NoRoom _ (chart plan.rows) (le-leb _ room (omega (arith, chart_length plan.rows)))

done_answered : (a : Answer (List ℕ)) → (planned a).outcome ≡ Done → (text : List ℕ) × (a ≡ answered text)
unfolding planned
done_answered (answered text) e = (text, refl)
done_answered (refused r) e = absurd (done_not_refused (sym e))

answered_done : (text : List ℕ) → (planned (answered text)).outcome ≡ Done
unfolding planned
answered_done text = refl

answered_written : (text : List ℕ) → (planned (answered text)).written ≡ length text
unfolding planned
answered_written text = refl

-- what stands in lent bytes with a chart in front
module _ (rows : List Row) (before after : List ℕ) (e : after ≡ buffer_after (answered (chart rows)) before) where
  lent : after ≡ chart rows ++ drop (length (chart rows)) before
  unfolding buffer_after
  lent = e

  lent_bytes : (y : ℕ) → y < cycle → get_or after y 0 ≡ get_or (chart rows) y 0
  lent_bytes y h = ap (λ (l : List ℕ). get_or l y 0) lent ∙ get_or-append (chart rows) _ 0 y (omega (arith, chart_length rows))

  lent_again : (y : ℕ) → get_or after (y % cycle) 0 ≡ get_or (chart rows) (y % cycle) 0
  lent_again y = lent_bytes (y % cycle) (mod-lt y (omega arith))

  lent_others : drop cycle after ≡ drop cycle before
  lent_others = ap (drop cycle) lent ∙ drop_at (chart rows) _ cycle (chart_length rows) ∙ ap (λ (n : ℕ). drop n before) (chart_length rows)

  lent_many : cycle ≤ length before → length after ≡ length before
  lent_many h =
      let n = chart_length rows in
      omega (arith, ap length lent, length-append (chart rows) (drop (length (chart rows)) before), length-drop (length (chart rows)) before)

module _ (s before : List ℕ) (r : Planned) (after : List ℕ) (a : ChartAnswered s before r after) where
  made : r.outcome ≡ Done → (text : List ℕ) × (chart_of s (length before) ≡ answered text)
  made d = done_answered (chart_of s (length before)) (ap (λ (p : Planned). p.outcome) (sym a.result) ∙ d)

  abbrev Chartable : Type 0
  Chartable = (plan : Plan) × (plan_file s ≡ answered plan) × InCycle plan.rows × (cycle ≤ length before)

  pub charted_if : r.outcome ≡ Done → Chartable
  charted_if d =
      let m = chart_made s (length before) (made d).0 (made d).1 in
      (m.plan, m.is_plan, (all_in_cycle_iff m.plan.rows).0 m.cycles, m.room_for)

  pub if_charted : Chartable → r.outcome ≡ Done
  if_charted c =
      ap (λ (p : Planned). p.outcome) a.result
      ∙ ap (λ (x : Answer (List ℕ)). (planned x).outcome) (made_chart s (length before) c.0 c.1 c.2 c.3)
      ∙ answered_done (chart c.0.rows)

  pub charted : r.outcome ≡ Done → Charted s before r after
  charted d = go (chart_made s (length before) (made d).0 (made d).1)
    where
      go : ChartMade s (length before) (made d).0 → Charted s before r after
      go m =
          let rows : List Row = m.plan.rows in
          let is : chart_of s (length before) ≡ answered (chart rows) = (made d).1 ∙ ap answered m.is_chart in
          let lies : after ≡ buffer_after (answered (chart rows)) before = a.bytes ∙ ap (λ (x : Answer (List ℕ)). buffer_after x before) is in
          let p = plan_rows s m.plan m.is_plan in
          let n = ap (λ (x : Answer (List ℕ)). (planned x).written) is ∙ answered_written (chart rows) ∙ chart_length rows in
          let at : (y : ℕ) → y < cycle → get_or after y 0 ≡ holder_at rows y = λ y h. lent_bytes rows before after lies y h ∙ chart_at rows y h in
          record {
            plan = m.plan;
            planned = m.is_plan;
            one_each = one_each s m.plan m.is_plan;
            periods = same_period s m.plan m.is_plan;
            accepted = p.accepted;
            in_cycle = (all_in_cycle_iff rows).0 m.cycles;
            counted = ap (λ (q : Planned). q.written) a.result ∙ n;
            bytes = at;
            numbers = λ y h. omega (arith, at y h, holder_most rows y, one_each s m.plan m.is_plan);
            few = parts_few s m.plan.parts p.read;
            served = λ k l h. delivers_same _ _ _ _ (λ y. ap (λ (b : ℕ). eqb b k) (lent_again rows before after lies y)) (chart_delivers rows m.cycles p.accepted k l h);
            as_many = lent_many rows before after lies m.room_for;
            others = lent_others rows before after lies;
          }

  -- the refusals are those of demand 2
  refused_iff : (x : Refusal) → (r.outcome ≡ Refused x) ↔ (chart_of s (length before) ≡ refused x)
  refused_iff x = let o = handed_outcome a in let iff = outcome_refused_iff (chart_of s (length before)) x in ((λ e. iff.0 (sym o ∙ e)), λ e. o ∙ iff.1 e)

  pub unplanned : (x : Refusal) → plan_file s ≡ refused x → r.outcome ≡ Refused x
  unplanned x e = (refused_iff x).1 (every_refusal.chart_11 s (length before) x e).1

  pub out_of_cycle : (k : ℕ) → (r.outcome ≡ Refused (OutOfCycle k)) ↔ ((plan : Plan) × (plan_file s ≡ answered plan) × OutOfCycleAt plan k)
  out_of_cycle k = let iff = every_refusal.chart_19 s (length before) k in ((λ e. iff.0 ((refused_iff _).0 e)), λ h. (refused_iff _).1 (iff.1 h))

  pub no_room : (r.outcome ≡ Refused NoRoom) ↔ ((plan : Plan) × (plan_file s ≡ answered plan) × InCycle plan.rows × (length before < cycle))
  no_room = let iff = every_refusal.chart_14 s (length before) in ((λ e. iff.0 ((refused_iff _).0 e)), λ h. (refused_iff _).1 (iff.1 h))
