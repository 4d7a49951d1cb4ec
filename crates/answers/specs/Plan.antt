-- What a plan is, once: the parts of a file with a row for each.
--   Plan                 == the parts of the file, and their rows in file order
--   partitions ps        == the numbers of the parts
--   offered vs           == the rows that each part offers: those of its kept pairs
--   least_rows vs        == the first choice of least load among those built from kept pairs
--   chosen_rows vs       == these rows, or the refusal of the first no among 10 and 11
--   plan_with ps a       == the plan of these parts with these rows, or the refusal
--   chosen_plan ps       == the plan of these parts, or that refusal
--   plan_file s          == the plan of the file s, or the refusal of the first no among questions 1 to 11
--   plan_text plan       == its listing
--   cycle_questions rows == question 19 of the rows of a plan, at the first whose period does not divide 720
--   in_cycle_plan plan   == the plan, or that refusal
--   cycle_plan s         == the plan of the file s, if all its periods divide 720, or the refusal of the first no among questions 1 to 11, then 19
-- Assumes nothing.
use Rattle.std.specs.Prelude.{ℕ, not, List, [], ◌∷◌, map}
use Rattle.least.specs.Lists.{every, first_of}
use Rattle.refusal.specs.declared.Refusal.TheVariants.{OutOfCycle}
use Rattle.refusal.specs.Questions.{Question, ask, first_no, Answer, when_answered, when_done}
use Rattle.refusal.specs.Questions.Answer.{answered}
use Rattle.task_set.specs.Partition.{Partition}
use Rattle.load.specs.declared.Row.{Row}
use Rattle.load.specs.Load.{bounds_of}
use Rattle.layout.specs.Layout.{in_cycle}
use Rattle.selection.specs.Selection.{choices, least_loaded}
use Rattle.selection.specs.Questions.{choice_questions}
use Rattle.plan_file.specs.Numbers.{PlanPart, parts_of}
use Rattle.listing.specs.Listing.{listing_of}
use Rattle.answers.specs.Parts.{kept_rows, shares_of}

pub record Plan : Type 0 where
  pub parts : List PlanPart
  pub rows : List Row

abbrev pub partitions : List PlanPart → List Partition
partitions ps = map (λ p. p.numbers) ps

abbrev pub offered : List Partition → List (List Row)
offered vs = map kept_rows vs

abbrev pub least_rows : List Partition → List Row
least_rows vs = least_loaded (choices (offered vs))

unfoldable pub chosen_rows : List Partition → Answer (List Row)
chosen_rows vs = when_done (first_no (choice_questions (offered vs))) (answered (least_rows vs))

abbrev pub plan_with : List PlanPart → Answer (List Row) → Answer Plan
plan_with ps a = when_answered a (λ rows. answered (record { parts = ps; rows = rows }))

unfoldable pub chosen_plan : List PlanPart → Answer Plan
chosen_plan ps = plan_with ps (chosen_rows (partitions ps))

unfoldable pub plan_file : List ℕ → Answer Plan
plan_file s = when_answered (parts_of s) chosen_plan

unfoldable pub plan_text : Plan → List ℕ
plan_text plan = listing_of (shares_of plan.parts plan.rows (bounds_of plan.rows))

abbrev pub cycle_questions : List Row → List Question
cycle_questions rows = ask (OutOfCycle (first_of (λ r. not (in_cycle r)) rows)) (every in_cycle rows) ∷ []

unfoldable pub in_cycle_plan : Plan → Answer Plan
in_cycle_plan plan = when_done (first_no (cycle_questions plan.rows)) (answered plan)

unfoldable pub cycle_plan : List ℕ → Answer Plan
cycle_plan s = when_answered (plan_file s) in_cycle_plan
