-- Examples A to L of paper 01, and those of requests of paper 02, as one table.
--   Claim   == what an example says of the program, of an operation or of a definition
--   Holds c == that it is so
--   table   == the claims, with the letters of paper 01 and the numbers of requests
--   AllHold == every claim of a table holds
-- Assumes nothing.
use Rattle.std.specs.Prelude.{ℕ, ◌+◌, ◌<◌, ◌≡◌, Bool, true, false, ◌&&◌, List, [], ◌∷◌, eqb, length, take}
use Prim.Native.String.{String}
use Rattle.least.specs.declared.Frac.{Frac}
use Rattle.least.specs.Lists.{nth_or, some, pad}
use Rattle.least.specs.Fraction.{frac}
use Rattle.refusal.specs.declared.Outcome.TheVariants.{Done}
use Rattle.refusal.specs.Limits.{cycle}
use Rattle.refusal.specs.Number.{refusal_number, refusal_place}
use Rattle.refusal.specs.Questions.{Answer}
use Rattle.refusal.specs.Questions.Answer.{answered, refused}
use Rattle.text.specs.Bytes.{same}
use Rattle.load.specs.declared.Row.{Row}
use Rattle.load.specs.Load.{row}
use Rattle.load.specs.Weigh.{weigh_of}
use Rattle.candidates.specs.declared.Pair.{Pair}
use Rattle.candidates.specs.Candidates.{pair, same_pair, candidate_of}
use Rattle.plan_file.specs.Numbers.{PlanPart, parts_of, part_at}
use Rattle.answers.specs.Answers.{chart_of, candidates_of, supply_answer}
use Rattle.console.specs.Printed.{printed_of}
use Rattle.examples.specs.Files.{refusal_line, file_a, listing_a, card_at, listing_c, listing_d, file_f, file_f_one_named, file_f_alone, file_private, file_blocked, listing_private, one_part, two_parts, listing_i, every_ticks, listing_l}

pub data Claim : Type 0 where
  -- the program prints this of the file
  prints : (file listing : List ℕ) → Claim
  -- the program prints `refused` with this number and this place of the file
  refuses : (file : List ℕ) (number place : ℕ) → Claim
  -- the two files are the same bytes
  same_file : (file other : List ℕ) → Claim
  -- part k of the file, with its locks at the given ceilings, has this candidate
  offers : (file : List ℕ) (k : ℕ) (ceilings : List ℕ) (c : Pair) → Claim
  -- the candidate is not on the kept list of part k of the file
  drops : (file : List ℕ) (k : ℕ) (c : Pair) → Claim
  -- the candidate has a smaller sum Q+X and a smaller X than the other
  has_smaller_sum_and_x : (c other : Pair) → Claim
  -- the kept list of part k of the file
  keeps : (file : List ℕ) (k : ℕ) (kept : List Pair) → Claim
  -- the bounds of these rows, their load, and the number of its row
  weighs : (rows : List Row) (bounds : List Frac) (load : Frac) (row : ℕ) → Claim
  -- the supply of (P,Q) in t ticks
  supplies : (P Q t ticks : ℕ) → Claim
  -- the chart of the file, in bytes for one cycle, begins with these ticks
  charts : (file ticks : List ℕ) → Claim
  -- the chart of the file in so many lent bytes is refused with this number and this place
  refuses_chart : (file : List ℕ) (room number place : ℕ) → Claim

-- the parts of a readable file, none of any other
unfoldable pub parts_in : List ℕ → List PlanPart
parts_in file = elim (parts_of file) [ answered parts ↦ parts | refused r ↦ [] ]

unfoldable pub is_on : Pair → Answer (List Pair) → Bool
is_on c (answered kept) = some (same_pair c) kept
is_on c (refused r) = false

unfoldable pub begins_with : List ℕ → Answer (List ℕ) → Bool
begins_with ticks (answered chart) = same ticks (take (length ticks) chart)
begins_with ticks (refused r) = false

unfoldable pub is_refused_with : ℕ → ℕ → Answer (List ℕ) → Bool
is_refused_with number place (answered chart) = false
is_refused_with number place (refused r) = eqb (refusal_number r) number && eqb (refusal_place r) place

abbrev pub Holds : Claim → Type 0
Holds (prints file listing) = printed_of file ≡ listing
Holds (refuses file number place) = printed_of file ≡ refusal_line number place
Holds (same_file file other) = file ≡ other
Holds (offers file k ceilings c) =
    candidate_of (part_at (parts_in file) k).numbers (λ l. nth_or 0 l ceilings) ≡ c ∷ []
Holds (drops file k c) = is_on c (candidates_of file k) ≡ false
Holds (has_smaller_sum_and_x c other) = (c.budget + c.holding < other.budget + other.holding) × (c.holding < other.holding)
Holds (keeps file k kept) = candidates_of file k ≡ answered kept
Holds (weighs rows bounds load row) = weigh_of rows ≡ record { outcome = Done; bounds = pad 16 (frac 0 0) bounds; load = load; row = row }
Holds (supplies P Q t ticks) = supply_answer P Q t ≡ answered ticks
Holds (charts file ticks) = begins_with ticks (chart_of file cycle) ≡ true
Holds (refuses_chart file room number place) = is_refused_with number place (chart_of file room) ≡ true

pub record Example : Type 0 where
  pub letter : String
  pub claim : Claim

abbrev at : String → Claim → Example
at letter claim = record { letter = letter; claim = claim }

abbrev pub table : List Example
table =
    at "A" (prints file_a listing_a)
    ∷ at "B" (offers file_a 2 (1 ∷ []) (pair 2 5))
    ∷ at "B" (drops file_a 2 (pair 2 5))
    ∷ at "B" (offers file_a 2 (2 ∷ []) (pair 3 3))
    ∷ at "B" (has_smaller_sum_and_x (pair 3 3) (pair 2 5))
    ∷ at "B" (keeps file_a 2 (pair 3 3 ∷ []))
    ∷ at "C" (same_file (card_at 20) file_a)
    ∷ at "C" (prints (card_at 10) listing_c)
    ∷ at "D" (prints (card_at 9) listing_d)
    ∷ at "E" (refuses (card_at 8) 11 0)
    ∷ at "F" (keeps file_f 1 (pair 102 26 ∷ pair 105 24 ∷ pair 112 20 ∷ []))
    ∷ at "G" (weighs (row 96 2 2 ∷ row 20 2 1 ∷ []) (frac 19 96 ∷ frac 5 20 ∷ []) (frac 5 20) 2)
    ∷ at "H" (refuses [] 4 1)
    ∷ at "I" (prints (one_part "10" "task\tt\t10\t10\t10\n") listing_i)
    ∷ at "J" (refuses (one_part "10" "task\tt\t10\t6\t10\ntask\tu\t10\t6\t10\n") 10 1)
    ∷ at "K" (supplies 10 3 14 0)
    ∷ at "K" (supplies 10 3 15 1)
    ∷ at "K" (supplies 10 3 17 3)
    ∷ at "K" (supplies 10 3 24 3)
    ∷ at "K" (supplies 10 3 25 4)
    ∷ at "L" (prints (every_ticks "1000000") listing_l)
    ∷ at "L" (refuses (every_ticks "1000001") 7 2)
    ∷ at "L" (refuses (every_ticks "010") 7 2)
    ∷ at "M100" (prints file_private listing_private)
    ∷ at "M100" (keeps file_blocked 1 (pair 3 0 ∷ []))
    ∷ at "M100" (keeps file_f_one_named 1 (pair 106 8 ∷ []))
    ∷ at "M100" (keeps file_f_alone 1 (pair 102 0 ∷ []))
    ∷ at "M109" (charts file_a (2 ∷ 2 ∷ 2 ∷ 1 ∷ 1 ∷ 1 ∷ 0 ∷ 0 ∷ 0 ∷ 0 ∷ 2 ∷ 2 ∷ 2 ∷ 0 ∷ 0 ∷ 0 ∷ 0 ∷ 0 ∷ 0 ∷ 0 ∷ []))
    ∷ at "M109" (charts (one_part "10" "task\tt\t10\t10\t10\n") (1 ∷ 1 ∷ 1 ∷ 1 ∷ 1 ∷ 1 ∷ 1 ∷ 1 ∷ 1 ∷ 1 ∷ []))
    ∷ at "M109" (refuses_chart (one_part "7" "task\tt\t70\t1\t70\n") 0 19 1)
    ∷ at "M109" (refuses_chart (two_parts "10" "7") 0 19 2)
    ∷ at "M109" (refuses_chart (two_parts "7" "11") 0 19 1)
    ∷ at "M109" (refuses_chart (one_part "10" "task\tt\t70\t1\t70\n") 719 14 0)
    ∷ at "M109" (refuses_chart (one_part "7" "task\tt\t7\t4\t7\ntask\tu\t7\t4\t7\n") 0 10 1)
    ∷ at "M109" (refuses_chart (card_at 7) 0 11 0)
    ∷ []

infixr 60 ◌and◌
pub data AllHold : List Example → Type 0 where
  nothing_more : AllHold []
  ◌and◌ : {e : Example} {es : List Example} → Holds e.claim → AllHold es → AllHold (e ∷ es)
