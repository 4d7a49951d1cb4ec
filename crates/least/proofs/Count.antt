-- Laws of the numbers from a on.
-- Assumes nothing.
use Prim.Native.Nat.{ℕ, zero, suc}
use mathlib.Core.Path.{◌≡◌, refl, ap}
use mathlib.Core.List.{List, ◌∷◌, map}
use Rattle.least.specs.Lists.{count_from}

pub count_suc : (n a : ℕ) → count_from (suc a) n ≡ map suc (count_from a n)
unfolding count_from
count_suc zero a = refl
count_suc (suc n) a = ap (λ (l : List ℕ). suc a ∷ l) (count_suc n (suc a))
