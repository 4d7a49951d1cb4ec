-- Laws of the sum of the values that a function has on the elements of a list, and of lengths that are such sums.
-- Assumes nothing.
use Prim.Native.Nat.{ℕ, zero, suc, ◌+◌, ◌-◌, ◌*◌, ◌≤◌, ◌<◌}
use native.Mathlib.Nat.{suc-mul}
use native.Mathlib.Omega.{arith}
use mathlib.Core.Path.{◌≡◌, refl, ap, ◌∙◌}
use mathlib.Core.List.{List, [], ◌∷◌, map, Memᴰ}
use lib.ListN.{length, length-append}
use Rattle.least.specs.Lists.{sum, joined, count_from, range}

module _ {A : Type 0} (f g : A → ℕ) where
  pub sum_mono : (xs : List A) → ((x : A) → Memᴰ x xs → f x ≤ g x) → sum (map f xs) ≤ sum (map g xs)
  unfolding sum
  sum_mono [] h = omega arith
  sum_mono (x ∷ xs) h = omega (arith, h x (Memᴰ.head refl), sum_mono xs (λ y m. h y (Memᴰ.tail m)))

  -- and greater where one value is
  pub sum_rises : (xs : List A) → ((x : A) → Memᴰ x xs → f x ≤ g x) → (x : A) → Memᴰ x xs → f x < g x → sum (map f xs) < sum (map g xs)
  unfolding sum
  sum_rises [] h x x5 l = elim x5 [ ]
  sum_rises (y ∷ ys) h x (Memᴰ.head e) l = omega (arith, ap f e, ap g e, sum_mono ys (λ z m. h z (Memᴰ.tail m)))
  sum_rises (y ∷ ys) h x (Memᴰ.tail k) l = omega (arith, h y (Memᴰ.head refl), sum_rises ys (λ z m. h z (Memᴰ.tail m)) x k l)

pub sum_most : {A : Type 0} (f : A → ℕ) (b : ℕ) (xs : List A) → ((x : A) → Memᴰ x xs → f x ≤ b) → sum (map f xs) ≤ length xs * b
unfolding sum
sum_most f b [] h = omega arith
sum_most f b (x ∷ xs) h = omega (arith, suc-mul (length xs) b, h x (Memᴰ.head refl), sum_most f b xs (λ y m. h y (Memᴰ.tail m)))

-- lists one behind another are as long as all of them together
pub length_joined : {A B : Type 0} (f : A → List B) (xs : List A) → length (joined (map f xs)) ≡ sum (map (λ x. length (f x)) xs)
unfolding joined sum
length_joined f [] = refl
length_joined f (x ∷ xs) = length-append (f x) (joined (map f xs)) ∙ ap (λ (n : ℕ). length (f x) + n) (length_joined f xs)

pub joined_most : {A B : Type 0} (f : A → List B) (b : ℕ) (xs : List A) → ((x : A) → Memᴰ x xs → length (f x) ≤ b) → length (joined (map f xs)) ≤ length xs * b
joined_most f b xs h = rw (length_joined f xs) (sum_most (λ x. length (f x)) b xs h)

pub length_count : (n a : ℕ) → length (count_from a n) ≡ n
unfolding count_from
length_count zero a = refl
length_count (suc n) a = ap suc (length_count n (suc a))

pub length-range : (a e : ℕ) → length (range a e) ≡ suc e - a
unfolding range
length-range a e = length_count (suc e - a) a
