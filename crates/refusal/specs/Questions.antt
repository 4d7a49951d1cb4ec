-- Questions in order: the first "no" ends the work.
--   ask r b     == a question: the refusal that a no gives, and whether the answer is yes
--   first_no qs == the refusal of the first question with a no; done where every answer is yes
--   Answer A    == what an operation works out: a value, or a refusal
--   outcome_of  == an answer's outcome
-- Assumes nothing.
use Rattle.std.specs.Prelude.{Bool, cond, List, [], ◌∷◌}
use Rattle.refusal.specs.declared.Refusal.{Refusal}
use Rattle.refusal.specs.declared.Outcome.{Outcome}
use Rattle.refusal.specs.declared.Outcome.TheVariants.{Done, Refused}

pub record Question : Type 0 where
  pub refusal : Refusal
  pub yes : Bool

abbrev pub ask : Refusal → Bool → Question
ask r b = record { refusal = r; yes = b }

unfoldable pub first_no : List Question → Outcome
first_no [] = Done
first_no (q ∷ qs) = cond q.yes (first_no qs) (Refused q.refusal)

pub data Answer (A : Type 0) : Type 0 where
  answered : A → Answer A
  refused : Refusal → Answer A

unfoldable pub outcome_of : {A : Type 0} → Answer A → Outcome
outcome_of (answered a) = Done
outcome_of (refused r) = Refused r

-- the value of the operation that follows, if this one was answered
unfoldable pub when_answered : {A B : Type 0} → Answer A → (A → Answer B) → Answer B
when_answered (answered a) next = next a
when_answered (refused r) next = refused r

-- the value, if every question has the answer yes
unfoldable pub when_done : {A : Type 0} → Outcome → Answer A → Answer A
when_done Done a = a
when_done (Refused r) a = refused r
