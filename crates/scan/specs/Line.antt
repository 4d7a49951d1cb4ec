-- Question 2: what the bytes of a line may be.
--   is_allowed b   == byte 9 and bytes 33 to 126
--   line_is_good l == the line is ended by byte 10, with only such bytes before that
-- Assumes nothing.
use Rattle.std.specs.Prelude.{ℕ, Bool, ◌&&◌, ◌||◌, leb, eqb}
use Rattle.least.specs.Lists.{every}
use Rattle.text.specs.Bytes.{Line}

unfoldable pub is_allowed : ℕ → Bool
is_allowed b = eqb b 9 || (leb 33 b && leb b 126)

unfoldable pub line_is_good : Line → Bool
line_is_good l = l.ended && every is_allowed l.body
