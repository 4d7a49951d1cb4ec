-- Example K from first principles: 3 ticks in every 10, delivered early in the first period and late in the next ones. From tick 3 on, 14 ticks bring nothing,
-- 15 one tick, 17 the whole budget; 24 no more, and 25 one tick of the next.
-- Assumes nothing.
use mathlib.Core.Path.{◌≡◌, refl}
use mathlib.Core.List.{[], ◌∷◌, map}
use Rattle.least.specs.Lists.{count_from, those}
use Rattle.delivery.specs.Assignment.{given}
use Rattle.first_principles.specs.FirstPrinciples.{early_then_late}

-- the given ticks among the first thirty
pub example_k_ticks : those (early_then_late 10 3) (count_from 0 30) ≡ 0 ∷ 1 ∷ 2 ∷ 17 ∷ 18 ∷ 19 ∷ 27 ∷ 28 ∷ 29 ∷ []
unfolding early_then_late those count_from
example_k_ticks = refl

pub example_k : map (given (early_then_late 10 3) 3) (14 ∷ 15 ∷ 17 ∷ 24 ∷ 25 ∷ []) ≡ 0 ∷ 1 ∷ 3 ∷ 3 ∷ 4 ∷ []
unfolding early_then_late given those count_from
example_k = refl
