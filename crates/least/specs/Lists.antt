-- Lists, in the paper's way of counting: places from 1, nothing is 0.
--   sum xs             == the sum of the numbers of a list
--   greatest xs        == the greatest number of a list, 0 where there is none
--   smallest xs        == the smallest number of a list, 0 where there is none
--   range a e          == the numbers a, a + 1, .., e
--   nth_or d k xs      == the k-th element of a list, counted from 1; d where there is none
--   first_of test xs   == the number, from 1, of the first element that passes the test; 0 where there is none
--   is_empty xs        == the list has no element
--   every test xs      == every element passes the test
--   some test xs       == some element passes the test
--   those test xs      == the elements that pass the test, in their order
--   joined xss         == the lists of a list, one behind another
--   numbers_of test xs == the numbers, from 1, of the elements that pass the test
--   along f xs         == at each place of the list, f of what stands before it (nearest first), of it and of what stands behind it
--   every_along f xs   == the test f passes at each place of the list
--   zip3 f xs ys zs    == f of the elements at each place of three lists, as far as all of them go
--   last_or d xs       == the last element of a list, d where there is none
--   on_last f xs       == the list with f of its last element in its place
--   pad k z xs         == the first k elements of a list, z in the places that are left
-- Assumes nothing.
use Rattle.std.specs.Prelude.{ℕ, zero, suc, ◌+◌, ◌-◌, min, max, Bool, true, false, List, [], ◌∷◌, ◌++◌}

unfoldable pub sum : List ℕ → ℕ
sum [] = 0
sum (x ∷ xs) = x + sum xs

unfoldable pub greatest : List ℕ → ℕ
greatest [] = 0
greatest (x ∷ xs) = max x (greatest xs)

unfoldable pub smallest : List ℕ → ℕ
smallest [] = 0
smallest (x ∷ []) = x
smallest (x ∷ y ∷ ys) = min x (smallest (y ∷ ys))

-- n numbers from a on
unfoldable pub count_from : ℕ → ℕ → List ℕ
count_from a zero = []
count_from a (suc n) = a ∷ count_from (suc a) n

unfoldable pub range : ℕ → ℕ → List ℕ
range a e = count_from a (suc e - a)

module _ {A : Type 0} where
  unfoldable pub is_empty : List A → Bool
  is_empty [] = true
  is_empty (x ∷ xs) = false

  unfoldable pub nth_or : A → ℕ → List A → A
  nth_or d k [] = d
  nth_or d zero (x ∷ xs) = d
  nth_or d (suc zero) (x ∷ xs) = x
  nth_or d (suc (suc k)) (x ∷ xs) = nth_or d (suc k) xs

  unfoldable pub every : (A → Bool) → List A → Bool
  every test [] = true
  every test (x ∷ xs) = elim (test x) [ true ↦ every test xs | false ↦ false ]

  unfoldable pub some : (A → Bool) → List A → Bool
  some test [] = false
  some test (x ∷ xs) = elim (test x) [ true ↦ true | false ↦ some test xs ]

  unfoldable pub those : (A → Bool) → List A → List A
  those test [] = []
  those test (x ∷ xs) = elim (test x) [ true ↦ x ∷ those test xs | false ↦ those test xs ]

  unfoldable pub joined : List (List A) → List A
  joined [] = []
  joined (xs ∷ xss) = xs ++ joined xss

  -- the same, where the first element has the number i
  unfoldable pub numbers_from : ℕ → (A → Bool) → List A → List ℕ
  numbers_from i test [] = []
  numbers_from i test (x ∷ xs) = elim (test x) [ true ↦ i ∷ numbers_from (suc i) test xs | false ↦ numbers_from (suc i) test xs ]

  abbrev pub numbers_of : (A → Bool) → List A → List ℕ
  numbers_of test xs = numbers_from 1 test xs

  -- the same, where the first element has the number i
  unfoldable pub first_from : ℕ → (A → Bool) → List A → ℕ
  first_from i test [] = 0
  first_from i test (x ∷ xs) = elim (test x) [ true ↦ i | false ↦ first_from (suc i) test xs ]

  abbrev pub first_of : (A → Bool) → List A → ℕ
  first_of test xs = first_from 1 test xs

  unfoldable pub last_or : A → List A → A
  last_or d [] = d
  last_or d (x ∷ xs) = last_or x xs

  unfoldable pub on_last : (A → A) → List A → List A
  on_last f [] = []
  on_last f (x ∷ []) = f x ∷ []
  on_last f (x ∷ y ∷ ys) = x ∷ on_last f (y ∷ ys)

  unfoldable pub pad : ℕ → A → List A → List A
  pad zero z xs = []
  pad (suc k) z [] = z ∷ pad k z []
  pad (suc k) z (x ∷ xs) = x ∷ pad k z xs

  -- the same, where `before` stands before the list
  unfoldable pub every_behind : (List A → A → List A → Bool) → List A → List A → Bool
  every_behind test before [] = true
  every_behind test before (x ∷ xs) = elim (test before x xs) [ true ↦ every_behind test (x ∷ before) xs | false ↦ false ]

  abbrev pub every_along : (List A → A → List A → Bool) → List A → Bool
  every_along test xs = every_behind test [] xs

module _ {A B : Type 0} where
  -- the same, where `before` stands before the list
  unfoldable pub behind : (List A → A → List A → B) → List A → List A → List B
  behind f before [] = []
  behind f before (x ∷ xs) = f before x xs ∷ behind f (x ∷ before) xs

  abbrev pub along : (List A → A → List A → B) → List A → List B
  along f xs = behind f [] xs

module _ {A B C D : Type 0} where
  unfoldable pub zip3 : (A → B → C → D) → List A → List B → List C → List D
  zip3 f [] ys zs = []
  zip3 f (x ∷ xs) [] zs = []
  zip3 f (x ∷ xs) (y ∷ ys) [] = []
  zip3 f (x ∷ xs) (y ∷ ys) (z ∷ zs) = f x y z ∷ zip3 f xs ys zs
