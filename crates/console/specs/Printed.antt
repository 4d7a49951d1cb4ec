-- What the program prints of a file.
--   program_room   == the bytes that the program lends to a plan
--   printed_text a == a listing as it is; of a refusal `refused`, its number and its place
--   printed_of s   == what is printed of the file s
--   printed text   == a text as the program is handed it: in an array, zeros behind it, and how many bytes it has
-- Assumes nothing.
use Rattle.std.specs.Prelude.{ℕ, List, length}
use Rattle.least.specs.Lists.{pad}
use Rattle.refusal.specs.Number.{refusal_number, refusal_place}
use Rattle.refusal.specs.Questions.{Answer}
use Rattle.refusal.specs.Questions.Answer.{answered, refused}
use Rattle.listing.specs.Listing.{refused_line}
use Rattle.answers.specs.Answers.{plan_of}
use Rattle.console.specs.declared.Printed.{Printed}

abbrev pub program_room : ℕ
program_room = 8192

unfoldable pub printed_text : Answer (List ℕ) → List ℕ
printed_text (answered text) = text
printed_text (refused r) = refused_line (refusal_number r) (refusal_place r)

unfoldable pub printed_of : List ℕ → List ℕ
printed_of s = printed_text (plan_of s program_room)

unfoldable pub printed : List ℕ → Printed
printed text = record { text = pad program_room 0 text; count = length text }
