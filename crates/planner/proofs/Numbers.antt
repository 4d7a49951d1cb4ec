-- Demand 2 is met: its half about numbers.
-- Assumes nothing.
use Prim.Native.Nat.{ℕ}
use mathlib.Core.Path.{◌≡◌, refl, sym, ap, ◌∙◌, subst}
use mathlib.Core.Bool.{Bool, true, false, not}
use mathlib.Core.Logic.{◌↔◌}
use mathlib.Core.List.{List, [], ◌∷◌, Memᴰ}
use lib.IntN.{pos}
use lib.ListN.{length}
use Rattle.least.specs.Lists.{is_empty, some}
use Rattle.least.specs.Each.{Each}
use Rattle.least.specs.Fraction.{frac}
use Rattle.least.proofs.Lists.{nth_member}
use Rattle.least.proofs.Each.{each_map}
use Rattle.least.proofs.Pad.{pad_none}
use Rattle.refusal.specs.declared.Refusal.{Refusal}
use Rattle.refusal.specs.declared.Refusal.TheVariants.{NoBudget, BadHandSet}
use Rattle.refusal.specs.declared.Outcome.{Outcome}
use Rattle.refusal.specs.declared.Outcome.TheVariants.{Done, Refused}
use Rattle.refusal.specs.Limits.{row_limit, kept_limit, cycle}
use Rattle.refusal.specs.Questions.{ask, Answer, first_no, when_answered, when_done}
use Rattle.refusal.specs.Questions.Answer.{answered, refused}
use Rattle.refusal.proofs.Answers.{answered_not_refused, done_not_refused}
use Rattle.supply.specs.Supply.{supply_of}
use Rattle.supply.specs.Signed.{signed_supply}
use Rattle.supply.proofs.SupplySigned.{supply_signed}
use Rattle.task_set.specs.Blocking.{Setting}
use Rattle.task_set.specs.Partition.{Partition}
use Rattle.load.specs.declared.Row.{Row}
use Rattle.load.specs.Load.{passes_system}
use Rattle.load.specs.Weigh.{weigh_questions, weighed, weigh_of, rows_of, struct_questions, weigh_rows}
use Rattle.layout.proofs.Chart.{chart_length}
use Rattle.candidates.specs.declared.Pair.{Pair}
use Rattle.candidates.specs.Candidates.{pair, kept_answer, kept_list}
use Rattle.candidates.proofs.Few.{kept_few}
use Rattle.plan_file.specs.Numbers.{PlanPart, parts_of, no_plan_part, part_at}
use Rattle.plan_file.specs.PartLines.{lines_of_part}
use Rattle.plan_file.proofs.PlanParts.{FinePlanPart, parts_fine}
use Rattle.plan_file.proofs.Reading.{parts_answered_iff}
use Rattle.answers.specs.Answers.{chart_of, planned, is_part_number, candidates_of, candidate_list, name_of, name_bytes, supply_answer, supplied, kept_at}
use Rattle.answers.specs.Plan.{Plan, partitions, plan_file}
use Rattle.answers.specs.Choice.{Budgeted, BuiltFromKept}
use Rattle.answers.proofs.KeptRows.{each_of_map}
use Rattle.answers.proofs.PlanRows.{kept_choices, least_rows_kept, least_plan, plan_chosen}
use Rattle.answers.proofs.ChartRows.{chart_is}
use Rattle.inquiries.specs.Stretch.{no_name, stretched, name_stretch}
use Rattle.planner.specs.Refusals.{PartOf, SupplyFits}
use Rattle.planner.specs.Numbers.{KeptIs, SameNamed, NameAt, not_weighed, RowsAre, ChartIs, EveryNumber}
use Rattle.planner.proofs.Local.{candidates_kept, candidates_local}
use Rattle.planner.proofs.Weighing.{weighed_outcome, weigh_of_is}
use Rattle.planner.proofs.KeptList.{kept_is, no_budget_iff, some_budget}
use Rattle.planner.proofs.Demand3.{text_printed, text_rows}
use Rattle.planner.proofs.Names.{name_stretch_lem}
use Rattle.planner.proofs.Refusals.{number_iff, candidates_read, candidates_unread, name_read, supply_fits}

supply_is : (P Q t : ℕ) → SupplyFits P Q t → (x : ℕ) × (supplied (supply_answer P Q t) ≡ record { outcome = Done; ticks = x }) × (signed_supply (pos P) (pos Q) (pos t) ≡ pos x)
supply_is P Q t f = (supply_of P Q t, supply_fits P Q t f, supply_signed P Q t f.budget_some f.budget_most)

module _ (s : List ℕ) (k : ℕ) where
  reads : {p : PlanPart} (d : PartOf s k p) → parts_of s ≡ answered d.parts
  reads d = (parts_answered_iff s d.parts).1 d.readable

  -- candidates
  asked_done : (v : List Pair) (a b : Bool) → (candidate_list (when_done (first_no (ask (BadHandSet 0) a ∷ ask (NoBudget k) b ∷ [])) (answered v))).outcome ≡ Done → (a ≡ true) × (b ≡ true)
  unfolding candidate_list when_done first_no
  asked_done v true true e = (refl, refl)
  asked_done v true false e = absurd (done_not_refused (sym e))
  asked_done v false b e = absurd (done_not_refused (sym e))

  done_asked : (v : List Pair) (a b : Bool) → a ≡ true → b ≡ true → (candidate_list (when_done (first_no (ask (BadHandSet 0) a ∷ ask (NoBudget k) b ∷ [])) (answered v))).outcome ≡ Done
  unfolding candidate_list when_done first_no
  done_asked v a b e f = rw (e, f) refl

  abbrev SomeBudget : Type 0
  SomeBudget = (p : PlanPart) × PartOf s k p × (σ : Setting) × (Q : ℕ) × Budgeted p.numbers σ Q

  candidates_done : ((candidate_list (candidates_of s k)).outcome ≡ Done) ↔ SomeBudget
  unfolding candidate_list
  candidates_done = (λ h. to (parts_of s) refl h, from)
    where
      to : (x : Answer (List PlanPart)) → parts_of s ≡ x → (candidate_list (candidates_of s k)).outcome ≡ Done → SomeBudget
      to (answered parts) e h =
          let p = part_at parts k in
          let a = asked_done (kept_at parts k) (is_part_number k parts) (not (is_empty (kept_at parts k))) (rw (candidates_read s k parts e) at h) in
          let n = (number_iff k parts).0 a.0 in
          let b = some_budget p.numbers a.1 in
          (p, record { parts = parts; readable = (parts_answered_iff s parts).0 e; from = n.0; to = n.1; is = refl }, b.0, b.1, b.2)
      to (refused r) e h = absurd (done_not_refused (sym (rw (candidates_unread s k r e) at h)))

      from : SomeBudget → (candidate_list (candidates_of s k)).outcome ≡ Done
      from (p, d, σ, Q, b) =
          let v = (part_at d.parts k).numbers in
          rw (candidates_read s k d.parts (reads d)) (done_asked (kept_list v) _ _ ((number_iff k d.parts).1 (d.from, d.to)) (some_kept v (not (is_empty (kept_list v))) refl (subst (λ (x : PlanPart). Budgeted x.numbers σ Q) (sym d.is) b)))
        where
          some_kept : (v : Partition) (x : Bool) → not (is_empty (kept_list v)) ≡ x → Budgeted v σ Q → not (is_empty (kept_list v)) ≡ true
          some_kept v true e b = e
          some_kept v false e b = absurd ((no_budget_iff v).0 e σ Q b)

  module _ (p : PlanPart) (d : PartOf s k p) where
    kept_of_part : KeptIs p.numbers (candidate_list (candidates_of s k)).kept
    kept_of_part =
        rw (candidates_kept s k d.parts (reads d) d.from d.to, d.is)
        (kept_is p.numbers (kept_few p.numbers (subst FinePlanPart d.is (parts_fine s d.parts (reads d) (part_at d.parts k) (nth_member no_plan_part k d.parts d.from d.to))).few_tasks))

    -- name
    name_given : name_of s k ≡ answered p.name
    unfolding when_done first_no
    name_given = name_read s k d.parts (reads d) ∙ rw ((number_iff k d.parts).1 (d.from, d.to), d.is) refl

    name_bytes_lem : name_bytes (name_of s k) ≡ p.name
    unfolding name_bytes
    name_bytes_lem = ap name_bytes name_given

    name_is : NameAt s k p (name_stretch s k)
    unfolding name_stretch stretched
    name_is = rw name_given (record { done = refl; span = refl; bytes = name_stretch_lem s d.parts k d.readable ∙ ap (λ (q : PlanPart). q.name) d.is })

-- the same lines
same_lines : (s u : List ℕ) (j k : ℕ) (p q : PlanPart) (d : PartOf s j p) (e : PartOf u k q) → lines_of_part j s ≡ lines_of_part k u → SameNamed d e
    → (candidate_list (candidates_of s j)).kept ≡ (candidate_list (candidates_of u k)).kept
same_lines s u j k p q d e same named =
    candidates_local s u j k d.parts e.parts (reads s j d) (reads u k e) d.from d.to e.from e.to same (λ name m. named name (subst (λ (r : PlanPart). Memᴰ name r.locks) d.is m))

-- the rows of a plan
kept_periods : (ps : List PlanPart) {rs : List Row} → BuiltFromKept ps rs → Each (λ p r. r.period ≡ p.numbers.period) ps rs
kept_periods ps k = each_map (λ p r f. f.period) (each_of_map (λ p. p.numbers) ps k)

least_rows_are : (ps : List PlanPart) → some passes_system (kept_choices (partitions ps)) ≡ true → RowsAre (least_plan ps)
least_rows_are ps e = record { printed = text_printed ps e; rows = text_rows ps e; periods = kept_periods ps (least_rows_kept (partitions ps) e) }

rows_of_plan : (s : List ℕ) (plan : Plan) → plan_file s ≡ answered plan → RowsAre plan
unfolding plan_file when_answered
rows_of_plan s plan e = go (parts_of s) refl
  where
    go : (x : Answer (List PlanPart)) → parts_of s ≡ x → RowsAre plan
    go (answered ps) f = let c = plan_chosen ps plan (rw f at e) in subst RowsAre (sym c.0) (least_rows_are ps c.1)
    go (refused r) f = absurd (answered_not_refused (sym (rw f at e)))

-- a chart
chart_counted : (s : List ℕ) (room : ℕ) (bytes : List ℕ) → chart_of s room ≡ answered bytes → planned (chart_of s room) ≡ record { outcome = Done; written = cycle }
unfolding planned
chart_counted s room bytes e =
    let c = chart_is room s bytes e in
    ap planned e ∙ (λ i. record { outcome = Done; written = (ap (λ (l : List ℕ). length l) c.2 ∙ chart_length c.0.rows) i })

chart_charted : (s : List ℕ) (room : ℕ) (bytes : List ℕ) → chart_of s room ≡ answered bytes → ChartIs s bytes
chart_charted s room bytes e = let c = chart_is room s bytes e in record { plan = c.0; planned = c.1; is = c.2 }

-- refusals
weighed_refused : (o : Outcome) (rows : List Row) (r : Refusal) → (weighed o rows).outcome ≡ Refused r → weighed o rows ≡ not_weighed r
unfolding weighed
weighed_refused o rows r e = go o (sym (weighed_outcome o rows) ∙ e)
  where
    go : (o : Outcome) → o ≡ Refused r → weighed o rows ≡ not_weighed r
    go o f = rw (f, pad_none row_limit (frac 0 0)) refl

pub every_number : EveryNumber
unfolding weigh_of weigh_rows planned supplied candidate_list kept_answer name_bytes name_stretch stretched no_name
every_number = record {
  supply = supply_is;
  weigh = weigh_of_is;
  candidates = candidates_done;
  kept = kept_of_part;
  same_lines = same_lines;
  name = name_bytes_lem;
  stretch = name_is;
  plan = λ s room text e. ap planned e;
  rows = rows_of_plan;
  chart_count = chart_counted;
  chart_bytes = chart_charted;
  refused_supply = λ P Q t r e. ap supplied e;
  refused_weigh = λ rows r e. weighed_refused (first_no (weigh_questions rows)) rows r e;
  refused_weigh_struct = λ rows r e. weighed_refused (first_no (struct_questions rows)) (rows_of rows) r e;
  refused_candidates = λ s k r e. ap candidate_list e ∙ rw (pad_none kept_limit (pair 0 0)) refl;
  refused_name = λ s k r e. ap name_bytes e;
  refused_stretch = λ s k r e. rw e refl;
  refused_plan = λ s room r e. ap planned e;
  refused_chart = λ s room r e. ap planned e;
}
