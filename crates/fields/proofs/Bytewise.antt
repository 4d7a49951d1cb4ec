-- The tests `same` and `every` are what `==` of slices and `all` work out.
-- Assumes nothing.
use Prim.Native.Nat.{ℕ, ◌-◌, ◌<◌}
use native.Mathlib.Omega.{arith}
use mathlib.Core.Path.{◌≡◌, refl, ap}
use mathlib.Core.Bool.{Bool, true, false, ◌&&◌}
use mathlib.Core.List.{List, [], ◌∷◌}
use lib.Dec.{eqb}
use lib.ListN.{length, take, drop, get_or}
use Rattle.std.proofs.lemmas.Grind.{common_steps}
use Rattle.std.specs.List.{list_all}
use Rattle.std.specs.Cmp.Lexicographic.{pointwise}
use Rattle.least.specs.Lists.{every}
use Rattle.text.specs.Bytes.{same}

pub same_pointwise : (a b : List ℕ) → pointwise eqb a b ≡ same a b
unfolding same
same_pointwise [] [] = refl
same_pointwise [] (y ∷ ys) = refl
same_pointwise (x ∷ xs) [] = refl
same_pointwise (x ∷ xs) (y ∷ ys) = ap (λ (b : Bool). eqb x y && b) (same_pointwise xs ys)

pub all_every : {A : Type 0} (p : A → Bool) (xs : List A) → list_all p xs ≡ every p xs
unfolding every
all_every p [] = refl
all_every p (x ∷ xs) = go (p x) (all_every p xs)
  where
    go : (b : Bool) → list_all p xs ≡ every p xs → (b && list_all p xs) ≡ elim b [ true ↦ every p xs | false ↦ false ]
    go true ih = ih
    go false ih = refl

-- what `[..s.len()]` takes
pub take_whole : (s : List ℕ) → take (length s) s ≡ s
take_whole s = grind (arith, common_steps)

-- two lists of bytes that are not empty are the same if their first bytes are, and what `[1..]` takes
rest_is : (x : ℕ) (xs : List ℕ) → take (length (x ∷ xs) - 1) (drop 1 (x ∷ xs)) ≡ xs
rest_is x xs = grind (arith, common_steps)

pub same_parts : (a b : List ℕ) → 0 < length a → 0 < length b → same a b ≡ (eqb (get_or a 0 0) (get_or b 0 0) && same (take (length a - 1) (drop 1 a)) (take (length b - 1) (drop 1 b)))
unfolding same
same_parts [] b h g = absurd (omega arith)
same_parts (x ∷ xs) [] h g = absurd (omega arith)
same_parts (x ∷ xs) (y ∷ ys) h g = rw (rest_is x xs, rest_is y ys) refl
