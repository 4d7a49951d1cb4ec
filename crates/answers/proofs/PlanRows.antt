-- The rows of a plan: built from kept pairs, of least load, and in these with the greatest holding times; and the questions 10, 11 and 14 in their order.
--   every_kept vs   == the answer to question 10: every part has a kept row
--   kept_choices vs == the choices built from kept pairs
--   least_plan ps   == the parts with the rows of least load
--   text ps         == its listing
-- Assumes nothing.
use Prim.Native.Nat.{ℕ, zero, suc, ◌≤◌}
use native.Mathlib.Omega.{arith}
use mathlib.Core.Path.{◌≡◌, refl, sym, ap, ◌∙◌, subst}
use mathlib.Core.Bool.{Bool, true, false, not, cond, false≢true}
use mathlib.Core.List.Memᴰ
use mathlib.Core.List.{List, map}
use lib.Dec.{leb}
use borrow.Author.Tests.{not-true, not-false, leb-true}
use lib.ListN.{length, length-map}
use Rattle.least.specs.declared.Frac.{Frac}
use Rattle.least.specs.Lists.{is_empty, every, some, first_of, nth_or}
use Rattle.least.specs.Each.{Each}
use Rattle.least.specs.Fraction.{◌⊑◌}
use Rattle.least.proofs.Lists.{every_member, every_not, some_iff, some_none, FirstAt, first_at, first_none, nth_of_map, nth_member}
use Rattle.least.proofs.Each.{length_equal}
use Rattle.least.proofs.Zip.{zip3_second, zip3_third}
use Rattle.least.proofs.Fraction.{⊑_trans}
use Rattle.refusal.specs.declared.Refusal.{Refusal}
use Rattle.refusal.specs.declared.Outcome.TheVariants.{Done, Refused}
use Rattle.refusal.specs.declared.Refusal.TheVariants.{NoBudget, NoChoice, NoRoom}
use Rattle.refusal.specs.Questions.{Answer, first_no, when_answered, when_done}
use Rattle.refusal.specs.Questions.Answer.{answered, refused}
use Rattle.refusal.proofs.Answers.{answered_not_refused, answer_same_value}
use Rattle.task_set.specs.Partition.{Partition}
use Rattle.load.specs.declared.Row.{Row}
use Rattle.load.specs.Load.{load_of, passes_system}
use Rattle.load.proofs.Load.{load_of_ok}
use Rattle.selection.specs.Selection.{choices}
use Rattle.selection.specs.Questions.{choice_questions}
use Rattle.selection.proofs.Selection.{least_loaded_member, least_loaded_least, some_passes}
use Rattle.selection.proofs.Greatest.{member_some, least_loaded_greatest}
use Rattle.plan_file.specs.Numbers.{PlanPart, parts_of, no_plan_part, part_at}
use Rattle.listing.specs.Listing.{share_under}
use Rattle.answers.specs.Parts.{kept_rows, share_of, shares_of}
use Rattle.answers.specs.Plan.{Plan, partitions, offered, least_rows, chosen_rows, plan_with, chosen_plan, plan_file, plan_text}
use Rattle.answers.specs.Answers.{in_room, listed_in, plan_of}
use Rattle.answers.specs.Choice.{Chosen, FromKept, PassingChoice, BuiltFromKept}
use Rattle.refusal.proofs.InTurn.{followed}
use Rattle.answers.proofs.KeptRows.{none_kept, some_kept, kept_rows_sorted, choices_kept, passing_under}

pub shares_rows : (ps : List PlanPart) {rs : List Row} (bs : List Frac) → BuiltFromKept ps rs → length bs ≡ length rs → map (λ s. s.row) (shares_of ps rs bs) ≡ rs
unfolding share_under
shares_rows ps {rs} bs each e = zip3_second share_of (λ s. s.row) (λ p r b. refl) ps rs bs (sym (length-map ps (λ p. p.numbers)) ∙ length_equal each) e

pub shares_bounds : (ps : List PlanPart) {rs : List Row} (bs : List Frac) → BuiltFromKept ps rs → length bs ≡ length rs → map (λ s. s.bound) (shares_of ps rs bs) ≡ bs
unfolding share_under
shares_bounds ps {rs} bs each e = zip3_third share_of (λ s. s.bound) (λ p r b. refl) ps rs bs (sym (length-map ps (λ p. p.numbers)) ∙ length_equal each) e

abbrev pub every_kept : List Partition → Bool
every_kept vs = every (λ rows. not (is_empty rows)) (offered vs)

abbrev pub kept_choices : List Partition → List (List Row)
kept_choices vs = choices (offered vs)

-- the rows of the plan
module _ (vs : List Partition) (e : some passes_system (kept_choices vs) ≡ true) where
  some_choice : 1 ≤ length (kept_choices vs)
  some_choice = member_some ((some_iff passes_system (kept_choices vs)).0 e).1

  pub least_rows_kept : Each FromKept vs (least_rows vs)
  least_rows_kept = (choices_kept vs (least_rows vs)).0 (least_loaded_member (kept_choices vs) some_choice)

  pub least_rows_passes : passes_system (least_rows vs) ≡ true
  least_rows_passes = (some_passes (kept_choices vs) some_choice).0 e

abbrev pub least_plan : List PlanPart → Plan
least_plan ps = record { parts = ps; rows = least_rows (partitions ps) }

module _ (ps : List PlanPart) where
  abbrev vs : List Partition
  vs = partitions ps

  abbrev pub text : List ℕ
  text = plan_text (least_plan ps)

  -- question 10
  pub empty_at : (i : ℕ) → is_empty (nth_or (kept_rows no_plan_part.numbers) i (offered vs)) ≡ is_empty (kept_rows (part_at ps i).numbers)
  empty_at i = ap is_empty (nth_of_map kept_rows no_plan_part.numbers i vs ∙ ap kept_rows (nth_of_map (λ (p : PlanPart). p.numbers) no_plan_part i ps))

  pub each_chosen : every_kept vs ≡ true → (i : ℕ) → 1 ≤ i → i ≤ length ps → (r : Row) × Chosen (part_at ps i).numbers r
  each_chosen e i a b =
      some_kept (part_at ps i).numbers (not-true _ (every_member _ (offered vs) e (Memᴰ.map kept_rows (Memᴰ.map (λ (p : PlanPart). p.numbers) (nth_member no_plan_part i ps a b)))))

  pub first_empty : every_kept vs ≡ false → FirstAt is_empty (offered vs) (first_of is_empty (offered vs))
  first_empty e = first_at is_empty (offered vs) (go (first_of is_empty (offered vs)) refl)
    where
      go : (j : ℕ) → first_of is_empty (offered vs) ≡ j → 1 ≤ j
      go zero z =
          let h = every_not (λ rows. not (is_empty rows)) (offered vs) e in
          absurd (false≢true (sym ((first_none is_empty (offered vs)).0 z h.0 h.1) ∙ not-false _ h.2))
      go (suc j) z = omega arith

  pub none_chosen : (j : ℕ) → FirstAt is_empty (offered vs) j → (r : Row) → Chosen (part_at ps j).numbers r → ⊥
  none_chosen j f = none_kept (part_at ps j).numbers (sym (empty_at j) ∙ f.passes (kept_rows no_plan_part.numbers))

  -- question 11
  pub no_passing_choice : some passes_system (kept_choices vs) ≡ false → (rs : List Row) → PassingChoice ps rs → ⊥
  no_passing_choice e rs c =
      let k = passing_under ps rs c in
      false≢true (sym ((some_none passes_system (kept_choices vs)).0 e k.rows k.kept) ∙ k.system)

  pub least_rows_least : (rs : List Row) → PassingChoice ps rs → load_of (least_rows vs) ⊑ load_of rs
  least_rows_least rs c =
      let k = passing_under ps rs c in
      ⊑_trans (load_of_ok k.rows) (least_loaded_least (kept_choices vs) k.rows k.kept) k.lighter

  pub least_rows_greatest : (rs : List Row) → BuiltFromKept ps rs → load_of rs ⊑ load_of (least_rows vs) → Each (λ r s. s.holding ≤ r.holding) (least_rows vs) rs
  least_rows_greatest rs k h = least_loaded_greatest (kept_rows_sorted vs) rs ((choices_kept vs rs).1 k) h

-- questions 10 and 11 in their order
module _ (vs : List Partition) where
  rows_10 : every_kept vs ≡ false → chosen_rows vs ≡ refused (NoBudget (first_of is_empty (offered vs)))
  unfolding chosen_rows choice_questions when_done first_no
  rows_10 e = simp e

  rows_11 : every_kept vs ≡ true → some passes_system (kept_choices vs) ≡ false → chosen_rows vs ≡ refused NoChoice
  unfolding chosen_rows choice_questions when_done first_no
  rows_11 e f = simp (e, f)

  rows_chosen : every_kept vs ≡ true → some passes_system (kept_choices vs) ≡ true → chosen_rows vs ≡ answered (least_rows vs)
  unfolding chosen_rows choice_questions when_done first_no
  rows_chosen e f = simp (e, f)

  -- where there are rows, some choice passes, and they are those of least load
  pub record RowsChosen (rows : List Row) : Type 0 where
    pub passing : some passes_system (kept_choices vs) ≡ true
    pub are : rows ≡ least_rows vs

  pub rows_answered : (rows : List Row) → chosen_rows vs ≡ answered rows → RowsChosen rows
  rows_answered rows a = go (every_kept vs) refl (some passes_system (kept_choices vs)) refl
    where
      go : (b : Bool) → every_kept vs ≡ b → (c : Bool) → some passes_system (kept_choices vs) ≡ c → RowsChosen rows
      go false e c f = absurd (answered_not_refused (sym a ∙ rows_10 e))
      go true e false f = absurd (answered_not_refused (sym a ∙ rows_11 e f))
      go true e true f = record { passing = f; are = answer_same_value (sym a ∙ rows_chosen e f) }

pub chosen_asked : (ps : List PlanPart) → chosen_plan ps ≡ when_done (first_no (choice_questions (offered (partitions ps)))) (answered (least_plan ps))
unfolding chosen_plan chosen_rows when_answered
chosen_asked ps = followed _ _ _

pub plan_chosen : (ps : List PlanPart) (plan : Plan) → chosen_plan ps ≡ answered plan → (plan ≡ least_plan ps) × (some passes_system (kept_choices (partitions ps)) ≡ true)
unfolding chosen_plan when_answered
plan_chosen ps plan e = go (chosen_rows (partitions ps)) refl
  where
    go : (x : Answer (List Row)) → chosen_rows (partitions ps) ≡ x → (plan ≡ least_plan ps) × (some passes_system (kept_choices (partitions ps)) ≡ true)
    go (answered rows) f =
        let c = rows_answered (partitions ps) rows f in
        (sym (answer_same_value (rw f at e)) ∙ (λ i. record { parts = ps; rows = c.are i }), c.passing)
    go (refused r) f = absurd (answered_not_refused (sym (rw f at e)))

-- question 14: bytes that are handed over fit
pub answered_in_room : {A : Type 0} (x : Answer A) (next : A → List ℕ) (room : ℕ) (text : List ℕ) → when_answered x (λ a. in_room room (next a)) ≡ answered text → length text ≤ room
unfolding in_room when_answered when_done first_no
answered_in_room (answered a) next room text e = go (leb (length (next a)) room) refl
  where
    go : (b : Bool) → leb (length (next a)) room ≡ b → length text ≤ room
    go true f = subst (λ (u : List ℕ). length u ≤ room) (answer_same_value (rw f at e)) (leb-true (length (next a)) room f)
    go false f = absurd (answered_not_refused (sym (rw f at e)))
answered_in_room (refused r) next room text e = absurd (answered_not_refused (sym e))

pub plan_fits : (s : List ℕ) (room : ℕ) (text : List ℕ) → plan_of s room ≡ answered text → length text ≤ room
unfolding plan_of
plan_fits s room text e = answered_in_room (plan_file s) plan_text room text e

pub listed_or_14 : (plan : Plan) (room : ℕ) → listed_in room plan ≡ cond (leb (length (plan_text plan)) room) (answered (plan_text plan)) (refused NoRoom)
unfolding in_room when_done first_no
listed_or_14 plan room = go (leb (length (plan_text plan)) room)
  where
    go : (b : Bool) → when_done (cond b Done (Refused NoRoom)) (answered (plan_text plan)) ≡ cond b (answered (plan_text plan)) (refused NoRoom)
    go true = refl
    go false = refl

-- questions 1 to 9
pub plan_unread : (s : List ℕ) (r : Refusal) → parts_of s ≡ refused r → (room : ℕ) → plan_of s room ≡ refused r
unfolding plan_of plan_file when_answered
plan_unread s r e room = rw e refl

module _ (s : List ℕ) (ps : List PlanPart) (room : ℕ) (e : parts_of s ≡ answered ps) where
  plan_parts : plan_of s room ≡ when_answered (chosen_plan ps) (listed_in room)
  unfolding plan_of plan_file when_answered
  plan_parts = rw e refl

  -- what becomes of an answer to questions 10 and 11
  abbrev listed : Answer (List Row) → Answer (List ℕ)
  listed a = when_answered (plan_with ps a) (listed_in room)

  plan_rows : plan_of s room ≡ listed (chosen_rows (partitions ps))
  unfolding chosen_plan
  plan_rows = plan_parts

  pub refused_10 : every_kept (partitions ps) ≡ false → plan_of s room ≡ refused (NoBudget (first_of is_empty (offered (partitions ps))))
  unfolding when_answered
  refused_10 h = plan_rows ∙ ap listed (rows_10 (partitions ps) h)

  pub refused_11 : every_kept (partitions ps) ≡ true → some passes_system (kept_choices (partitions ps)) ≡ false → plan_of s room ≡ refused NoChoice
  unfolding when_answered
  refused_11 h f = plan_rows ∙ ap listed (rows_11 (partitions ps) h f)

  pub planned_or_14 : every_kept (partitions ps) ≡ true → some passes_system (kept_choices (partitions ps)) ≡ true → plan_of s room ≡ cond (leb (length (text ps)) room) (answered (text ps)) (refused NoRoom)
  unfolding when_answered
  planned_or_14 h f = plan_rows ∙ ap listed (rows_chosen (partitions ps) h f) ∙ listed_or_14 (least_plan ps) room
