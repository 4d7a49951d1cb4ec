-- What is printed of a file that is longer than it may be does not depend on its bytes: one byte too many is enough of it.
use Rattle.std.proofs.Common.{◌≡◌, ℕ, ◌<◌, ◌≤◌, ◌⊎◌, inl, inr, List, leb, false, length, take, arith, ap, sym, ◌∙◌, length-take-le, take_all}
use Rattle.std.proofs.lemmas.Bool.{cases_lt, lt-leb}
use Rattle.refusal.specs.declared.Refusal.TheVariants.{FileTooLong}
use Rattle.refusal.specs.Questions.{first_no, when_answered, when_done}
use Rattle.refusal.specs.Questions.Answer.{refused}
use Rattle.plan_file.specs.Reading.{read_from}
use Rattle.plan_file.specs.Numbers.{numbered}
use Rattle.answers.specs.Plan.{plan_file}
use Rattle.answers.specs.Answers.{plan_of}
use Rattle.console.specs.Printed.{program_room, printed_text, printed_of}

long_refused : (s : List ℕ) → leb (length s) 32768 ≡ false → plan_of s program_room ≡ refused FileTooLong
unfolding plan_of plan_file numbered read_from first_no when_done when_answered
long_refused s e = simp e

long_printed : (s : List ℕ) → 32768 < length s → printed_of s ≡ printed_text (refused FileTooLong)
unfolding printed_of
long_printed s l = ap printed_text (long_refused s (lt-leb (length s) 32768 l))

pub printed_of-take : (s : List ℕ) → printed_of (take 32769 s) ≡ printed_of s
printed_of-take s = go (cases_lt 32768 (length s))
  where
    go : (32768 < length s) ⊎ (length s ≤ 32768) → printed_of (take 32769 s) ≡ printed_of s
    go (inl l) = long_printed (take 32769 s) (omega (arith, length-take-le 32769 s l)) ∙ sym (long_printed s l)
    go (inr h) = ap printed_of (take_all 32769 s (omega arith))
