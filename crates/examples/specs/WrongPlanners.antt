-- The wrong planners of paper 01, (c), each by what it does with readable files, whatever else it does; and that demand 3 shuts them out. The sixth of
-- (c), a kept count not equal to the list, is no planner: `KeptIs` of the crate planner says what the count is.
--   Run           == what an operation that plans hands back: its result, and the lent bytes after it
--   Planner       == such an operation: a run for every file and all lent bytes
--   Does planner  == all that the planner can promise: its own result and bytes
--   AnswersEleven == it answers 11 to every readable file
--   PrintsA       == it prints A's listing for all readable files
--   LeavesBlank   == it returns with the buffer blank, where it was blank before
--   TopAfterFirst == it puts top ceilings in all parts but the first
--   StopsAtFirst  == it says "none passes" where every part has a kept pair, and the choice of the first ones does not pass
--   ShutOut Kind  == no planner of this kind meets demand 3
-- Assumes nothing.
use Rattle.std.specs.Prelude.{ℕ, ◌≤◌, ◌≡◌, ◌⊎◌, true, false, not, List, map, length, take, drop, replicate}
use Rattle.least.specs.Lists.{is_empty, every, nth_or}
use Rattle.least.specs.Each.{Each}
use Rattle.refusal.specs.declared.Refusal.TheVariants.{NoChoice}
use Rattle.refusal.specs.declared.Outcome.TheVariants.{Refused}
use Rattle.refusal.specs.Questions.Answer.{answered}
use Rattle.task_set.specs.Blocking.{Setting}
use Rattle.load.specs.declared.Row.{Row}
use Rattle.load.specs.Load.{row, passes_system}
use Rattle.holding.specs.Holding.{highest_ceiling, holding_time_of}
use Rattle.candidates.specs.Candidates.{shown_ceiling}
use Rattle.plan_file.specs.Numbers.{PlanPart, parts_of}
use Rattle.listing.specs.Listing.{Share, ceilings_under, listing_of}
use Rattle.answers.specs.declared.Planned.{Planned}
use Rattle.answers.specs.Parts.{kept_rows}
use Rattle.answers.specs.Answers.{HandedOver}
use Rattle.planner.specs.Demand3.{Demand3}
use Rattle.examples.specs.Files.{listing_a}

pub record Run : Type 0 where
  pub result : Planned
  pub bytes : List ℕ

abbrev pub Planner : Type 0
Planner = List ℕ → List ℕ → Run

abbrev pub Does : Planner → List ℕ → List ℕ → Planned → List ℕ → Type 0
Does planner s before r after = (r ≡ (planner s before).result) × (after ≡ (planner s before).bytes)

abbrev pub AnswersEleven : Planner → Type 0
AnswersEleven planner = (s before : List ℕ) (ps : List PlanPart) → parts_of s ≡ answered ps → (planner s before).result.outcome ≡ Refused NoChoice

abbrev pub PrintsA : Planner → Type 0
PrintsA planner = (s before : List ℕ) (ps : List PlanPart) → parts_of s ≡ answered ps → length listing_a ≤ length before → take (length listing_a) (planner s before).bytes ≡ listing_a

abbrev pub LeavesBlank : Planner → Type 0
LeavesBlank planner = (s : List ℕ) (room : ℕ) (ps : List PlanPart) → parts_of s ≡ answered ps → (planner s (replicate room 0)).bytes ≡ replicate room 0

-- every lock at the top, the number of the highest task; and every lock as high as it may be, a private one at its lowest ceiling
abbrev pub top_setting : PlanPart → Setting
top_setting p l = length p.numbers.tasks

abbrev pub highest_setting : PlanPart → Setting
highest_setting p l = highest_ceiling p.numbers l

-- what is printed of the part are its top ceilings, or the ceilings shown for their X
abbrev pub AtTop : PlanPart → Share → Type 0
AtTop p s =
    let X = holding_time_of p.numbers (top_setting p) in
    (s.ceilings ≡ ceilings_under (top_setting p) 1 p.locks)
    ⊎ ((s.ceilings ≡ ceilings_under (highest_setting p) 1 p.locks) ⊎ (s.ceilings ≡ ceilings_under (shown_ceiling p.numbers X) 1 p.locks))

abbrev pub TopAfterFirst : Planner → Type 0
TopAfterFirst planner =
    (s before : List ℕ) (ps : List PlanPart) (text : List ℕ) → parts_of s ≡ answered ps →
    HandedOver (answered text) before (planner s before).result (planner s before).bytes →
    (shares : List Share) × (text ≡ listing_of shares) × Each AtTop (drop 1 ps) (drop 1 shares)

-- every part with the first pair of its kept list
abbrev pub first_choice : List PlanPart → List Row
first_choice ps = map (λ p. nth_or (row 0 0 0) 1 (kept_rows p.numbers)) ps

abbrev pub StopsAtFirst : Planner → Type 0
StopsAtFirst planner =
    (s before : List ℕ) (ps : List PlanPart) → parts_of s ≡ answered ps → every (λ p. not (is_empty (kept_rows p.numbers))) ps ≡ true → passes_system (first_choice ps) ≡ false → (planner s before).result.outcome ≡ Refused NoChoice

abbrev pub ShutOut : (Planner → Type 0) → Type 0
ShutOut Kind = (planner : Planner) → Kind planner → Demand3 (Does planner) → ⊥

pub record AllShutOut : Type 0 where
  pub answers_eleven : ShutOut AnswersEleven
  pub prints_a : ShutOut PrintsA
  pub leaves_blank : ShutOut LeavesBlank
  pub top_after_first : ShutOut TopAfterFirst
  pub stops_at_first : ShutOut StopsAtFirst
