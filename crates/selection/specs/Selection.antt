-- The choice of least load. Each part offers a list of rows, in falling holding time.
--   choices offers  == every way to take one row of each part, those with the greater holding times first
--   lighter c d     == of two choices the one of smaller load, the first where their loads are equal
--   least_loaded cs == the first choice of least load
-- That it has the greatest holding time in every part that any of these choices of that load has is a theorem, not a search.
-- Assumes nothing.
use Rattle.std.specs.Prelude.{cond, List, [], ◌∷◌, map}
use Rattle.least.specs.Lists.{joined}
use Rattle.least.specs.Fraction.{less}
use Rattle.load.specs.declared.Row.{Row}
use Rattle.load.specs.Load.{load_of}

unfoldable pub choices : List (List Row) → List (List Row)
choices [] = [] ∷ []
choices (rows ∷ others) = joined (map (λ r. map (λ c. r ∷ c) (choices others)) rows)

unfoldable pub lighter : List Row → List Row → List Row
lighter c d = cond (less (load_of d) (load_of c)) d c

unfoldable pub least_loaded : List (List Row) → List Row
least_loaded [] = []
least_loaded (c ∷ []) = c
least_loaded (c ∷ d ∷ ds) = lighter c (least_loaded (d ∷ ds))
