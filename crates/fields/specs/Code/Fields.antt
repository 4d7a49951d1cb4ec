-- A number field as the code reads it.
--   number_in bs == the value of a number field, if it is well formed
-- Assumes nothing.
use Rattle.std.specs.Prelude.{ℕ, cond, List, Option, Some, None}
use Rattle.text.specs.Decimal.{value_of}
use Rattle.fields.specs.Fields.{is_number}

unfoldable pub number_in : List ℕ → Option ℕ
number_in bs = cond (is_number bs) (Some (value_of bs)) None
