-- The answers of the six operations, for every list of bytes and all numbers (weighing: `weigh_of` of the crate load).
--   plan_of s room                                                == the listing of the file s, or the refusal of the first no among 1 to 11, then 14
--   chart_of s room                                               == the chart of the file s, or the refusal of the first no among 1 to 11, then 19, then 14
--   candidates_of s k                                             == the kept pairs of part k, or the first no among 1 to 9, 12 and 10 for that part alone
--   name_of s k                                                   == the name of part k, or the first no among 1 to 9 and 12
--   supply_answer P Q t                                           == the supply of (P,Q) in t ticks, or 12
--   in_room room bytes                                            == these bytes, or 14 if they do not fit so many lent ones
--   listed_in room plan, charted_in room plan                     == the listing and the chart of a plan, or 14
--   candidate_questions, name_questions, supply_questions         == what each of them asks, in this order, behind questions 1 to 9
--   planned a, candidate_list a, name_bytes a, supplied a         == such an answer as the operation hands it over: a refusal has zeros everywhere else
--   buffer_after a out                                            == the lent bytes after a plan or a chart: its bytes and, after them, what was there; all as it was on refusal
--   HandedOver a before r after                                   == r is the result and `after` the lent bytes once the answer a is handed over; `before` are the lent bytes before that
--   PlanAnswered s before r after, ChartAnswered s before r after == what `plan` and `chart` promise, for every file s and all lent bytes
-- Assumes nothing.
use Rattle.std.specs.Prelude.{ℕ, ◌≡◌, Bool, not, ◌&&◌, List, [], ◌∷◌, ◌++◌, leb, length, drop}
use Rattle.least.specs.Lists.{is_empty}
use Rattle.refusal.specs.declared.Outcome.TheVariants.{Done, Refused}
use Rattle.refusal.specs.declared.Refusal.TheVariants.{NoBudget, BadHandSet, NoRoom}
use Rattle.refusal.specs.Limits.{number_limit}
use Rattle.refusal.specs.Questions.{Question, ask, first_no, Answer, when_answered, when_done}
use Rattle.refusal.specs.Questions.Answer.{answered, refused}
use Rattle.supply.specs.Supply.{supply_of}
use Rattle.candidates.specs.declared.Pair.{Pair}
use Rattle.candidates.specs.Candidates.{kept_list, kept_answer}
use Rattle.plan_file.specs.Numbers.{PlanPart, parts_of, part_at}
use Rattle.layout.specs.Layout.{chart}
use Rattle.answers.specs.declared.Planned.{Planned}
use Rattle.answers.specs.declared.CandidateList.{CandidateList}
use Rattle.answers.specs.declared.Supplied.{Supplied}
use Rattle.answers.specs.Plan.{Plan, plan_file, plan_text, cycle_plan}

-- question 14
unfoldable pub in_room : ℕ → List ℕ → Answer (List ℕ)
in_room room bytes = when_done (first_no (ask NoRoom (leb (length bytes) room) ∷ [])) (answered bytes)

abbrev pub listed_in : ℕ → Plan → Answer (List ℕ)
listed_in room plan = in_room room (plan_text plan)

unfoldable pub plan_of : List ℕ → ℕ → Answer (List ℕ)
plan_of s room = when_answered (plan_file s) (listed_in room)

abbrev pub charted_in : ℕ → Plan → Answer (List ℕ)
charted_in room plan = in_room room (chart plan.rows)

unfoldable pub chart_of : List ℕ → ℕ → Answer (List ℕ)
chart_of s room = when_answered (cycle_plan s) (charted_in room)

-- question 12 for a part number
abbrev pub is_part_number : ℕ → List PlanPart → Bool
is_part_number k parts = leb 1 k && leb k (length parts)

-- the kept list of part k
abbrev pub kept_at : List PlanPart → ℕ → List Pair
kept_at parts k = kept_list (part_at parts k).numbers

-- questions 12 and 10
abbrev pub candidate_questions : ℕ → List PlanPart → List Question
candidate_questions k parts =
    ask (BadHandSet 0) (is_part_number k parts)
    ∷ ask (NoBudget k) (not (is_empty (kept_at parts k)))
    ∷ []

unfoldable pub candidates_of : List ℕ → ℕ → Answer (List Pair)
candidates_of s k = when_answered (parts_of s) (λ parts. when_done (first_no (candidate_questions k parts)) (answered (kept_at parts k)))

-- question 12
abbrev pub name_questions : ℕ → List PlanPart → List Question
name_questions k parts = ask (BadHandSet 0) (is_part_number k parts) ∷ []

unfoldable pub name_of : List ℕ → ℕ → Answer (List ℕ)
name_of s k = when_answered (parts_of s) (λ parts. when_done (first_no (name_questions k parts)) (answered (part_at parts k).name))

-- question 12
abbrev pub supply_questions : ℕ → ℕ → ℕ → List Question
supply_questions P Q t = ask (BadHandSet 0) ((leb 1 Q && leb Q P) && (leb P number_limit && leb t number_limit)) ∷ []

unfoldable pub supply_answer : ℕ → ℕ → ℕ → Answer ℕ
supply_answer P Q t = when_done (first_no (supply_questions P Q t)) (answered (supply_of P Q t))

unfoldable pub planned : Answer (List ℕ) → Planned
planned (answered text) = record { outcome = Done; written = length text }
planned (refused r) = record { outcome = Refused r; written = 0 }

unfoldable pub buffer_after : Answer (List ℕ) → List ℕ → List ℕ
buffer_after (answered text) out = text ++ drop (length text) out
buffer_after (refused r) out = out

pub record HandedOver (a : Answer (List ℕ)) (before : List ℕ) (r : Planned) (after : List ℕ) : Type 0 where
  pub result : r ≡ planned a
  pub bytes : after ≡ buffer_after a before

abbrev pub PlanAnswered : List ℕ → List ℕ → Planned → List ℕ → Type 0
PlanAnswered s before r after = HandedOver (plan_of s (length before)) before r after

abbrev pub ChartAnswered : List ℕ → List ℕ → Planned → List ℕ → Type 0
ChartAnswered s before r after = HandedOver (chart_of s (length before)) before r after

unfoldable pub candidate_list : Answer (List Pair) → CandidateList
candidate_list (answered kept) = record { outcome = Done; kept = kept_answer kept }
candidate_list (refused r) = record { outcome = Refused r; kept = kept_answer [] }

unfoldable pub name_bytes : Answer (List ℕ) → List ℕ
name_bytes (answered name) = name
name_bytes (refused r) = []

unfoldable pub supplied : Answer ℕ → Supplied
supplied (answered ticks) = record { outcome = Done; ticks = ticks }
supplied (refused r) = record { outcome = Refused r; ticks = 0 }
