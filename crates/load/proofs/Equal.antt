-- Two rows with equal bounds, 20/40 and 5/10: the load is shown with the first, as its own L and t.
-- Assumes nothing.
use mathlib.Core.Path.{◌≡◌, refl}
use mathlib.Core.List.{List, [], ◌∷◌}
use Rattle.least.specs.Round.{ceil_div}
use Rattle.least.specs.Lists.{sum, greatest, first_from, behind}
use Rattle.least.specs.Fraction.{frac, lesser, greater, least_over, greatest_of}
use Rattle.load.specs.declared.Row.{Row}
use Rattle.load.specs.Load.{row, demand_of, load_at, ratio, bound_of, bounds_of, load_of, load_row}

abbrev equal : List Row
equal = row 40 6 2 ∷ row 10 2 1 ∷ []

pub first_of_equal : (load_row equal ≡ 1) × (load_of equal ≡ frac 20 40)
unfolding ceil_div sum greatest first_from behind lesser greater least_over greatest_of demand_of load_at ratio bound_of bounds_of load_of load_row
first_of_equal = (refl, refl)
