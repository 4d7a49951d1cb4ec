-- An answer in lent bytes, as the code hands it on: a refusal goes up by `?`, and last becomes what the operation hands over.
--   count_of a                  == how many bytes an answer has, or its refusal
--   planned_from r              == the same as a plan and a chart hand it over: a refusal has a zero for the count
--   HandedOn a before r after   == r is the result and `after` the lent bytes once the answer a is written; `before` are the lent bytes before that
-- Assumes nothing.
use Rattle.std.specs.Prelude.{ℕ, ◌≡◌, List, length, Result, Ok, Err}
use Rattle.refusal.specs.declared.Refusal.{Refusal}
use Rattle.refusal.specs.declared.Outcome.TheVariants.{Done, Refused}
use Rattle.refusal.specs.Questions.{Answer}
use Rattle.refusal.specs.Questions.Answer.{answered, refused}
use Rattle.answers.specs.declared.Planned.{Planned}
use Rattle.answers.specs.Answers.{buffer_after}

unfoldable pub count_of : Answer (List ℕ) → Result ℕ Refusal
count_of (answered text) = Ok (length text)
count_of (refused r) = Err r

abbrev pub planned_from : Result ℕ Refusal → Planned
planned_from (Ok n) = record { outcome = Done; written = n }
planned_from (Err r) = record { outcome = Refused r; written = 0 }

pub record HandedOn (a : Answer (List ℕ)) (before : List ℕ) (r : Result ℕ Refusal) (after : List ℕ) : Type 0 where
  pub result : r ≡ count_of a
  pub bytes : after ≡ buffer_after a before
