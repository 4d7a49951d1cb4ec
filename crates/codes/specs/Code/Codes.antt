-- A name as one number: its bytes are the digits to base 256, the first byte the lowest.
--   code_of bs       == the number
--   code_if bs       == the number of a name; none where the bytes are no name
--   place_of code cs == the place of a number among numbers, from 0
-- Assumes nothing.
use Rattle.std.specs.Prelude.{ℕ, ◌+◌, ◌*◌, cond, List, [], ◌∷◌, eqb, Option, Some, None, position}
use Rattle.fields.specs.Fields.{is_name}

unfoldable pub code_of : List ℕ → ℕ
code_of [] = 0
code_of (b ∷ bs) = b + 256 * code_of bs

unfoldable pub code_if : List ℕ → Option ℕ
code_if bs = cond (is_name bs) (Some (code_of bs)) None

abbrev pub place_of : ℕ → List ℕ → Option ℕ
place_of code cs = position (λ c. eqb c code) cs
