-- The plan of a file, from what was read of it and its rows: its parts are those read, its rows are built from kept pairs, and they pass the system test.
-- Assumes nothing.
use Prim.Native.Nat.{ℕ, ◌≤◌}
use native.Mathlib.Omega.{arith}
use mathlib.Core.Path.{◌≡◌, refl, sym, ap, ◌∙◌}
use mathlib.Core.Bool.{true}
use mathlib.Core.List.{List}
use lib.ListN.{length, length-map}
use Rattle.std.specs.Prelude.{Result, Ok, Err, MatchResult}
use Rattle.least.proofs.Each.{length_equal}
use Rattle.least.proofs.Pad.{length_pad, take_pad}
use Rattle.refusal.specs.declared.Refusal.{Refusal}
use Rattle.refusal.specs.Limits.{row_limit}
use Rattle.refusal.specs.Questions.{Answer, when_answered}
use Rattle.refusal.specs.Questions.Answer.{answered, refused}
use Rattle.task_set.specs.Partition.{Partition}
use Rattle.load.specs.declared.Row.{Row}
use Rattle.load.specs.declared.Rows.{Rows}
use Rattle.load.specs.Load.{row, passes_system}
use Rattle.load.specs.Weigh.{rows_of}
use Rattle.load.specs.Code.Weigh.{rows_from}
use Rattle.plan_file.specs.Numbers.{PlanPart, parts_of}
use Rattle.reader.specs.declared.PlanFile.{PlanFile}
use Rattle.reader.specs.Code.Reader.{parts_in, ReadIs}
use Rattle.reader.proofs.Handed.{parts_count}
use Rattle.answers.specs.Plan.{partitions, chosen_rows, plan_with, chosen_plan, plan_file}
use Rattle.answers.specs.Choice.{BuiltFromKept}
use Rattle.answers.proofs.PlanRows.{RowsChosen, rows_answered, least_rows_kept, least_rows_passes}
use Rattle.offers.specs.Code.Least.{partitions_in, plan_rows_from}
use Rattle.planning.specs.Code.Chosen.{PlanIs}
use Rattle.planning.proofs.Planning.{partitions_same}

-- questions 1 to 9
pub unread_refused : (s : List ℕ) (r : Refusal) → parts_of s ≡ refused r → plan_file s ≡ refused r
unfolding plan_file when_answered
unread_refused s r e = ap (λ (a : Answer (List PlanPart)). when_answered a chosen_plan) e

plan_read : (s : List ℕ) (f : PlanFile) → ReadIs s f → plan_file s ≡ plan_with (parts_in s f) (chosen_rows (partitions_in f))
unfolding plan_file when_answered chosen_plan
plan_read s f is =
    ap (λ (a : Answer (List PlanPart)). when_answered a chosen_plan) is.value
    ∙ ap (λ (vs : List Partition). plan_with (parts_in s f) (chosen_rows vs)) (partitions_same s f is)

-- a refusal or rows, back from the code's result
refused_back : (a : Answer (List Row)) (r : Refusal) → plan_rows_from a ≡ Err r → a ≡ refused r
unfolding plan_rows_from
refused_back (answered rows) r e = absurd (cc)
refused_back (refused q) r e = let same : q ≡ r = cc in ap refused same

answered_back : (a : Answer (List Row)) (rows : Rows) → plan_rows_from a ≡ Ok rows → (rs : List Row) × (a ≡ answered rs) × (rows ≡ rows_from rs (length rs))
unfolding plan_rows_from
answered_back (answered rs) rows e = (rs, refl, cc)
answered_back (refused q) rows e = absurd (cc)

-- questions 10 and 11
plan_refused : (s : List ℕ) (f : PlanFile) → ReadIs s f → (r : Refusal) → plan_rows_from (chosen_rows (partitions_in f)) ≡ Err r → plan_file s ≡ refused r
unfolding when_answered
plan_refused s f is r e = plan_read s f is ∙ ap (plan_with (parts_in s f)) (refused_back (chosen_rows (partitions_in f)) r e)

pub rows_chosen : (s : List ℕ) (f : PlanFile) → ReadIs s f → (r : Result Rows Refusal) → r ≡ plan_rows_from (chosen_rows (partitions_in f)) → MatchResult r (PlanIs s f) (λ q. plan_file s ≡ refused q)
rows_chosen s f is (Ok rows) e = record { read = is; chosen = sym e }
rows_chosen s f is (Err q) e = plan_refused s f is q (sym e)

module _ (s : List ℕ) (f : PlanFile) (rows : Rows) (is : PlanIs s f rows) where
  abbrev ps : List PlanPart
  ps = parts_in s f

  abbrev vs : List Partition
  vs = partitions ps

  rows_there : (rs : List Row) × (chosen_rows (partitions_in f) ≡ answered rs) × (rows ≡ rows_from rs (length rs))
  rows_there = answered_back (chosen_rows (partitions_in f)) rows is.chosen

  abbrev R : List Row
  R = rows_there.0

  chosen : RowsChosen vs R
  chosen = rows_answered vs R (ap chosen_rows (partitions_same s f is.read) ∙ rows_there.1)

  kept_there : BuiltFromKept ps R
  kept_there = rw chosen.are (least_rows_kept vs chosen.passing)

  pub count_is : rows.count ≡ f.count
  count_is = omega (arith, ap (λ (x : Rows). x.count) rows_there.2, length_equal kept_there, length-map ps (λ p. p.numbers), parts_count s f is.read)

  rows_are : rows_of rows ≡ R
  unfolding rows_of
  rows_are = ap rows_of rows_there.2 ∙ take_pad row_limit (row 0 0 0) R (omega (arith, ap (λ (x : Rows). x.count) rows_there.2, count_is, is.read.few))

  pub rows_room : f.count ≤ length rows.rows
  rows_room = omega (arith, ap (λ (x : Rows). length x.rows) rows_there.2, length_pad row_limit (row 0 0 0) R, is.read.few)

  pub plan_is : plan_file s ≡ answered (record { parts = ps; rows = rows_of rows })
  unfolding when_answered
  plan_is = plan_read s f is.read ∙ ap (plan_with ps) (rows_there.1 ∙ ap answered (sym rows_are))

  pub kept : BuiltFromKept ps (rows_of rows)
  kept = rw rows_are kept_there

  pub passes : passes_system (rows_of rows) ≡ true
  passes = rw rows_are (rw chosen.are (least_rows_passes vs chosen.passing))

  pub rows_length : length (rows_of rows) ≡ f.count
  rows_length = omega (arith, length_equal kept, length-map ps (λ p. p.numbers), parts_count s f is.read)
