-- Questions 10 and 11 of what was gathered, and the rows of the choice in their struct.
-- Assumes nothing.
use Prim.Native.Nat.{ℕ, ◌+◌, ◌≤◌, ◌<◌}
use native.Mathlib.Numerals.{add-one}
use native.Mathlib.Omega.{arith}
use borrow.Author.Tests.{not-true, not-false}
use mathlib.Core.Path.{◌≡◌, sym, ap, ◌∙◌}
use mathlib.Core.Bool.{Bool, true, false, not}
use mathlib.Core.List.{List, [], ◌∷◌}
use lib.ListN.{length, take, get_or, set, replicate, length-map}
use lib.Seq.{take_all}
use Rattle.std.specs.Prelude.{Option, Some, None, is_some, Result, Ok, Err}
use Rattle.std.specs.List.{position}
use Rattle.std.proofs.lemmas.List.Quantifiers.{position-Some}
use Rattle.least.specs.Lists.{is_empty, every, some, first_of, pad}
use Rattle.least.proofs.Lists.{empty_none, some_filled, not_empty, first_none}
use Rattle.least.proofs.Members.{get_d_member}
use Rattle.least.proofs.Columns.{column_length, column_get}
use Rattle.least.proofs.First.{first_is, every_place, every_missed}
use Rattle.least.proofs.Pad.{pad_none, pad_next}
use Rattle.refusal.specs.declared.Refusal.{Refusal}
use Rattle.refusal.specs.declared.Refusal.TheVariants.{NoBudget, NoChoice}
use Rattle.refusal.specs.declared.Outcome.{Outcome}
use Rattle.refusal.specs.declared.Outcome.TheVariants.{Done, Refused}
use Rattle.refusal.specs.Questions.{ask, first_no, when_done}
use Rattle.refusal.specs.Questions.Answer.{answered}
use Rattle.refusal.proofs.Questions.{yes_next, no_answers}
use Rattle.task_set.specs.Code.Partition.{partition_of}
use Rattle.load.specs.declared.Row.{Row}
use Rattle.load.specs.declared.Rows.{Rows}
use Rattle.load.specs.declared.columns.RowColumns.{RowColumns}
use Rattle.load.specs.Load.{row, passes_system}
use Rattle.load.specs.Code.Weigh.{rows_from}
use Rattle.load.specs.Code.ByColumn.{row_at, rows_by}
use Rattle.load.proofs.Position.{none_is}
use Rattle.selection.specs.declared.Offers.{Offers}
use Rattle.selection.specs.Selection.{choices, least_loaded}
use Rattle.selection.specs.Questions.{choice_questions}
use Rattle.selection.specs.Code.Choosing.{offers_of, ChoiceIs}
use Rattle.candidates.specs.Code.KeptSearch.{has_pair}
use Rattle.reader.specs.declared.PartRead.{PartRead}
use Rattle.reader.specs.declared.PlanFile.{PlanFile}
use Rattle.reader.specs.Code.Reader.{blank_part}
use Rattle.answers.specs.Parts.{kept_rows}
use Rattle.answers.specs.Plan.{least_rows, chosen_rows}
use Rattle.offers.specs.Code.Gathered.{part_in, list_in, FineParts, OfferedAt, is_over}
use Rattle.offers.specs.Code.Least.{partitions_in, plan_rows_from}
use Rattle.offers.proofs.ByPlace.{part_rows, rows_in, offered_by_place}
use Rattle.offers.proofs.Gathering.{parts_long, part_read}
use Rattle.offers.proofs.Rows.{offers_are}
use Rattle.offers.proofs.Over.{is_empty_lem, over_none}

-- the rows of a choice, put into the array one after another
module _ (c : RowColumns) where
  pub rows_start : replicate 16 (row 0 0 0) ≡ pad 16 (row 0 0 0) (take 0 (rows_by c))
  rows_start = pad_none 16 (row 0 0 0)

  pub rows_step : (rows : List Row) (k : ℕ) → k < c.workload.count → c.workload.count ≤ 16 → rows ≡ pad 16 (row 0 0 0) (take k (rows_by c))
      → set rows k (row_at c k) ≡ pad 16 (row 0 0 0) (take (k + 1) (rows_by c))
  unfolding rows_by
  rows_step rows k h few e =
      rw e (pad_next 16 (row 0 0 0) (rows_by c) k (row_at c k) (row 0 0 0) (omega (arith, column_length (row_at c) c.workload.count)) (omega arith) (sym (column_get (row_at c) (row 0 0 0) k c.workload.count h)))

  pub rows_end : (rows : List Row) (k : ℕ) → c.workload.count ≤ k → rows ≡ pad 16 (row 0 0 0) (take k (rows_by c)) → rows ≡ pad 16 (row 0 0 0) (rows_by c)
  unfolding rows_by
  rows_end rows k h e = e ∙ ap (pad 16 (row 0 0 0)) (take_all k (rows_by c) (omega (arith, column_length (row_at c) c.workload.count)))

module _ (f : PlanFile) (fine : FineParts f) where
  abbrev plan_rows : Result Rows Refusal
  plan_rows = plan_rows_from (chosen_rows (partitions_in f))

  rows_length : length (rows_in f) ≡ f.count
  rows_length = column_length (part_rows f) f.count

  rows_get : (k : ℕ) → k < f.count → get_or (rows_in f) k [] ≡ part_rows f k
  rows_get k h = column_get (part_rows f) [] k f.count h

  part_length : (k : ℕ) → length (part_rows f k) ≡ length (list_in f k)
  unfolding kept_rows
  part_length k = length-map (list_in f k) _

  -- whether a part has a kept pair
  missed : (k : ℕ) → k < f.count → length (list_in f k) ≡ 0 → is_empty (get_or (rows_in f) k []) ≡ true
  missed k h e = ap is_empty (rows_get k h) ∙ empty_none (part_rows f k) (part_length k ∙ e)

  filled_at : (k : ℕ) → k < f.count → 1 ≤ length (list_in f k) → is_empty (get_or (rows_in f) k []) ≡ false
  filled_at k h l = ap is_empty (rows_get k h) ∙ some_filled (part_rows f k) (omega (arith, part_length k))

  planned_is : (o : Outcome) → first_no (choice_questions (rows_in f)) ≡ o → plan_rows ≡ plan_rows_from (when_done o (answered (least_rows (partitions_in f))))
  unfolding chosen_rows
  planned_is o e =
      ap (λ (x : Outcome). plan_rows_from (when_done x (answered (least_rows (partitions_in f))))) (ap (λ (kept : List (List Row)). first_no (choice_questions kept)) (offered_by_place f fine) ∙ e)

  refused_is : (r : Refusal) → first_no (choice_questions (rows_in f)) ≡ Refused r → Err r ≡ plan_rows
  unfolding plan_rows_from when_done
  refused_is r e = sym (planned_is (Refused r) e)

  -- the part at the place k is the first without a kept pair
  pub no_budget : (k : ℕ) → k < f.count → length (list_in f k) ≡ 0 → ((j : ℕ) → j < k → 1 ≤ length (list_in f j)) → Err (NoBudget (k + 1)) ≡ plan_rows
  unfolding choice_questions
  no_budget k h none before =
      let first : first_of is_empty (rows_in f) ≡ k + 1 = first_is [] is_empty k (rows_in f) (omega (arith, rows_length)) (missed k h none) (λ j l. filled_at j (omega arith) (before j l)) ∙ sym (add-one k) in
      let no : every (λ rows. not (is_empty rows)) (rows_in f) ≡ false = every_missed [] (λ rows. not (is_empty rows)) k (rows_in f) (omega (arith, rows_length)) (ap not (missed k h none)) in
      refused_is (NoBudget (k + 1)) (no_answers (ask (NoBudget (first_of is_empty (rows_in f))) (every (λ rows. not (is_empty rows)) (rows_in f))) _ no ∙ ap (λ (x : ℕ). Refused (NoBudget x)) first)

  module _ (all : (k : ℕ) → k < f.count → 1 ≤ length (list_in f k)) where
    yes_budgets : every (λ rows. not (is_empty rows)) (rows_in f) ≡ true
    yes_budgets = every_place [] (λ rows. not (is_empty rows)) (rows_in f) (λ k h. let l : k < f.count = omega (arith, rows_length) in ap not (filled_at k l (all k l)))

    -- every part has a kept pair, and no choice passes
    no_choice : some passes_system (choices (rows_in f)) ≡ false → Err NoChoice ≡ plan_rows
    unfolding choice_questions
    no_choice none = refused_is NoChoice (yes_next _ _ yes_budgets ∙ no_answers (ask NoChoice (some passes_system (choices (rows_in f)))) [] none)

    -- some choice passes
    chosen : (rows : List Row) → some passes_system (choices (rows_in f)) ≡ true → rows ≡ least_loaded (choices (rows_in f)) → Ok (rows_from rows (length rows)) ≡ plan_rows
    unfolding choice_questions plan_rows_from when_done first_no
    chosen rows passing e =
        let same : rows ≡ least_rows (partitions_in f) = e ∙ ap (λ (kept : List (List Row)). least_loaded (choices kept)) (sym (offered_by_place f fine)) in
        ap (λ (rs : List Row). Ok (rows_from rs (length rs))) same
        ∙ sym (planned_is Done (yes_next (ask (NoBudget (first_of is_empty (rows_in f))) _) (ask NoChoice (some passes_system (choices (rows_in f))) ∷ []) yes_budgets ∙ yes_next (ask NoChoice _) [] passing))

-- where the tasks of the parts ask for more than the processor: the first part without a kept pair, if there is one
module _ (f : PlanFile) (fine : FineParts f) where
  abbrev missing : PartRead → Bool
  missing p = not (has_pair (partition_of p.part))

  at_place : (k : ℕ) → k < f.count → missing (get_or (take f.count f.parts) k blank_part) ≡ not (has_pair (partition_of (part_in f k)))
  at_place k h = ap missing (part_read f fine k (omega (arith, parts_long f fine)))

  has_one : (k : ℕ) → k < f.count → missing (get_or (take f.count f.parts) k blank_part) ≡ false → 1 ≤ length (list_in f k)
  unfolding has_pair
  has_one k h e = not_empty (list_in f k) (not-false _ (sym (at_place k h) ∙ e))

  has_none : (k : ℕ) → k < f.count → missing (get_or (take f.count f.parts) k blank_part) ≡ true → length (list_in f k) ≡ 0
  unfolding has_pair
  has_none k h e = is_empty_lem (list_in f k) (not-true _ (sym (at_place k h) ∙ e))

  pub over_missing : (k : ℕ) → position missing (take f.count f.parts) ≡ Some k → Err (NoBudget (k + 1)) ≡ plan_rows_from (chosen_rows (partitions_in f))
  over_missing k e =
      let at = position-Some missing (take f.count f.parts) k blank_part e in
      let h : k < f.count = omega (arith, at.0, parts_long f fine) in
      no_budget f fine k h (has_none k h at.1) (λ j l. has_one j (omega arith) (at.2 j l))

  pub over_refused : is_over f ≡ true → position missing (take f.count f.parts) ≡ None → Err NoChoice ≡ plan_rows_from (chosen_rows (partitions_in f))
  over_refused over e =
      let none = (first_none missing (take f.count f.parts)).0 (none_is missing (take f.count f.parts) e) in
      no_choice f fine (λ k h. has_one k h (none _ (get_d_member (take f.count f.parts) k blank_part (omega (arith, parts_long f fine))))) (over_none f fine over)

-- what was selected, said of the file
module _ (f : PlanFile) (fine : FineParts f) (o : Offers) (count : o.count ≡ f.count) (all : (k : ℕ) → k < f.count → OfferedAt f o k) (r : Option RowColumns) (is : ChoiceIs o r) where
  same_rows : offers_of o ≡ rows_in f
  same_rows = offers_are f fine o count all

  found_is : is_some r ≡ some passes_system (choices (rows_in f))
  found_is = is.found ∙ ap (λ (kept : List (List Row)). some passes_system (choices kept)) same_rows

  pub none_found : r ≡ None → Err NoChoice ≡ plan_rows_from (chosen_rows (partitions_in f))
  none_found e = no_choice f fine (λ k h. (all k h).some) (sym found_is ∙ ap is_some e)

  pub rows_found : (c : RowColumns) → r ≡ Some c → Ok (rows_from (rows_by c) c.workload.count) ≡ plan_rows_from (chosen_rows (partitions_in f))
  unfolding rows_by
  rows_found c e =
      ap (λ (n : ℕ). Ok (rows_from (rows_by c) n)) (sym (column_length (row_at c) c.workload.count))
      ∙ chosen f fine (λ k h. (all k h).some) (rows_by c) (sym found_is ∙ ap is_some e) (is.rows c e ∙ ap (λ (kept : List (List Row)). least_loaded (choices kept)) same_rows)
