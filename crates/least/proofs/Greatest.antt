-- Laws of the greatest of the values that a function has on the elements of a list: it is at least each, and one of them or 0.
-- Assumes nothing.
use Prim.Native.Nat.{ℕ, zero, suc, ◌-◌, max, ◌≤◌, ◌<◌}
use native.Mathlib.Nat.{le_trans}
use native.Mathlib.Omega.{arith}
use native.Mathlib.Decide.{dec_le}
use mathlib.Core.Path.{◌≡◌, refl, ap}
use mathlib.Core.List.{List, [], ◌∷◌, map, Memᴰ}
use mathlib.Core.Logic.{◌⊎◌, inl, inr}
use lib.ListN.{take, get_or}
use Rattle.least.specs.Lists.{greatest, count_from}

module _ {A : Type 0} (f : A → ℕ) where
  pub greatest_each : (xs : List A) (x : A) → Memᴰ x xs → f x ≤ greatest (map f xs)
  unfolding greatest
  greatest_each [] x x3 = elim x3 [ ]
  greatest_each (y ∷ ys) x (Memᴰ.head e) = omega (arith, ap f e)
  greatest_each (y ∷ ys) x (Memᴰ.tail m) = omega (arith, greatest_each ys x m)

  pub greatest_le : (b : ℕ) (xs : List A) → ((x : A) → Memᴰ x xs → f x ≤ b) → greatest (map f xs) ≤ b
  unfolding greatest
  greatest_le b [] h = omega arith
  greatest_le b (x ∷ xs) h = omega (arith, h x (Memᴰ.head refl), greatest_le b xs (λ y m. h y (Memᴰ.tail m)))

  -- some element has the value v
  abbrev pub Reached : List A → ℕ → Type 0
  Reached xs v = (x : A) × Memᴰ x xs × (v ≡ f x)

  abbrev pub ZeroOrReached : List A → ℕ → Type 0
  ZeroOrReached xs v = (v ≡ 0) ⊎ Reached xs v

  pub greatest_reached : (xs : List A) → ZeroOrReached xs (greatest (map f xs))
  unfolding greatest
  greatest_reached [] = inl refl
  greatest_reached (x ∷ xs) = go (greatest_reached xs) (dec_le (greatest (map f xs)) (f x))
    where
      go : ZeroOrReached xs (greatest (map f xs)) → Dec (greatest (map f xs) ≤ f x) → ZeroOrReached (x ∷ xs) (max (f x) (greatest (map f xs)))
      go d (yes l) = inr (x, Memᴰ.head refl, omega arith)
      go (inl z) (no l) = absurd (omega arith)
      go (inr r) (no l) = inr (r.0, Memᴰ.tail r.1, omega (arith, r.2))

-- the numbers from j up to m, m left out
module _ (f : ℕ → ℕ) (j m : ℕ) where
  pub greatest_from : j < m → greatest (map f (count_from j (m - j))) ≡ max (f j) (greatest (map f (count_from (suc j) (m - suc j))))
  unfolding greatest count_from
  greatest_from h = let e : m - j ≡ suc (m - suc j) = omega arith in rw e refl

  pub greatest_past : m ≤ j → greatest (map f (count_from j (m - j))) ≡ 0
  unfolding greatest count_from
  greatest_past h = let e : m - j ≡ 0 = omega arith in rw e refl

-- one element more, or none where the list has ended
pub greatest_take : {A : Type 0} (f : A → ℕ) (d : A) → f d ≡ 0 → (i : ℕ) (xs : List A) → greatest (map f (take (suc i) xs)) ≡ max (greatest (map f (take i xs))) (f (get_or xs i d))
unfolding greatest
greatest_take f d e zero [] = omega arith
greatest_take f d e (suc i) [] = omega arith
greatest_take f d e zero (x ∷ xs) = omega arith
greatest_take f d e (suc i) (x ∷ xs) = omega (arith, greatest_take f d e i xs)

pub greatest_mono : {A : Type 0} (f g : A → ℕ) (xs : List A) → ((x : A) → Memᴰ x xs → f x ≤ g x) → greatest (map f xs) ≤ greatest (map g xs)
greatest_mono f g xs h = greatest_le f (greatest (map g xs)) xs (λ x m. le_trans (h x m) (greatest_each g xs x m))
