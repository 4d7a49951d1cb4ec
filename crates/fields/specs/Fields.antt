-- What the bytes of a field may be.
--   is_name bs   == a name is 1 to 8 bytes from a–z and 0–9
--   is_number bs == a number is 1 to 1,000,000 without leading zero
-- Assumes nothing.
use Rattle.std.specs.Prelude.{ℕ, Bool, false, not, ◌&&◌, ◌||◌, List, [], ◌∷◌, leb, eqb, length}
use Rattle.least.specs.Lists.{every}
use Rattle.text.specs.Decimal.{is_digit, value_of}
use Rattle.refusal.specs.Limits.{number_limit, name_limit}

-- a byte from a–z and 0–9
unfoldable pub is_name_byte : ℕ → Bool
is_name_byte b = (leb 97 b && leb b 122) || is_digit b

unfoldable pub is_name : List ℕ → Bool
is_name bs = (leb 1 (length bs) && leb (length bs) name_limit) && every is_name_byte bs

unfoldable pub leading_zero : List ℕ → Bool
leading_zero [] = false
leading_zero (b ∷ bs) = eqb b 48

unfoldable pub is_number : List ℕ → Bool
is_number bs = (every is_digit bs && not (leading_zero bs)) && (leb 1 (value_of bs) && leb (value_of bs) number_limit)
