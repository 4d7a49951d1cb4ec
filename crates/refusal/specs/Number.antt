-- The number and the place of every answer, as the papers count them. On success both are zero.
--   refusal_number r        == the number of the question that has the answer no
--   refusal_place r         == its place: a line, a part or a row, counted from 1, or 0
--   number_of o, place_of o == the same of an outcome
--   is_of_the_file r        == the question is one of those with which the file is read, 1 to 9: about its length and its lines
-- Assumes nothing.
use Rattle.std.specs.Prelude.{ℕ, Bool, true, false}
use Rattle.refusal.specs.declared.Refusal.{Refusal}
use Rattle.refusal.specs.declared.Refusal.TheVariants.{FileTooLong, BadLine, BadRecord, Misplaced, BadName, KnownName, BadNumber, BadOrder, TooMany, NoBudget, NoChoice, BadHandSet, NoTime, NoRoom, OutOfCycle}
use Rattle.refusal.specs.declared.Outcome.{Outcome}
use Rattle.refusal.specs.declared.Outcome.TheVariants.{Done, Refused}

abbrev pub refusal_number : Refusal → ℕ
refusal_number FileTooLong = 1
refusal_number (BadLine line) = 2
refusal_number (BadRecord line) = 3
refusal_number (Misplaced line) = 4
refusal_number (BadName line) = 5
refusal_number (KnownName line) = 6
refusal_number (BadNumber line) = 7
refusal_number (BadOrder line) = 8
refusal_number (TooMany line) = 9
refusal_number (NoBudget part) = 10
refusal_number NoChoice = 11
refusal_number (BadHandSet place) = 12
refusal_number (NoTime row) = 13
refusal_number NoRoom = 14
refusal_number (OutOfCycle part) = 19

abbrev pub refusal_place : Refusal → ℕ
refusal_place FileTooLong = 0
refusal_place (BadLine line) = line
refusal_place (BadRecord line) = line
refusal_place (Misplaced line) = line
refusal_place (BadName line) = line
refusal_place (KnownName line) = line
refusal_place (BadNumber line) = line
refusal_place (BadOrder line) = line
refusal_place (TooMany line) = line
refusal_place (NoBudget part) = part
refusal_place NoChoice = 0
refusal_place (BadHandSet place) = place
refusal_place (NoTime row) = row
refusal_place NoRoom = 0
refusal_place (OutOfCycle part) = part

abbrev pub number_of : Outcome → ℕ
number_of Done = 0
number_of (Refused r) = refusal_number r

abbrev pub place_of : Outcome → ℕ
place_of Done = 0
place_of (Refused r) = refusal_place r

abbrev pub is_of_the_file : Refusal → Bool
is_of_the_file FileTooLong = true
is_of_the_file (BadLine line) = true
is_of_the_file (BadRecord line) = true
is_of_the_file (Misplaced line) = true
is_of_the_file (BadName line) = true
is_of_the_file (KnownName line) = true
is_of_the_file (BadNumber line) = true
is_of_the_file (BadOrder line) = true
is_of_the_file (TooMany line) = true
is_of_the_file (NoBudget part) = false
is_of_the_file NoChoice = false
is_of_the_file (BadHandSet place) = false
is_of_the_file (NoTime row) = false
is_of_the_file NoRoom = false
is_of_the_file (OutOfCycle part) = false
