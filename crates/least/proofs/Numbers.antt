-- Laws of the numbers of the elements that pass a test: one element more, the greatest of them, where the elements stand, how many there are, and each of them.
-- Assumes nothing.
use Prim.Native.Nat.{ℕ, zero, suc, ◌+◌, ◌≤◌, ◌<◌}
use native.Mathlib.Omega.{arith}
use mathlib.Core.Path.{◌≡◌, refl, sym, ap, ◌∙◌}
use mathlib.Core.Bool.{Bool, true, false}
use mathlib.Core.List.{List, [], ◌∷◌, Memᴰ}
use lib.ListN.{length, take, get_or}
use Rattle.least.specs.Lists.{greatest, those, numbers_from}
use Rattle.least.proofs.Lists.{those_pass, those_fail}

module _ {A : Type 0} (test : A → Bool) where
  pub numbers_pass : (i : ℕ) (x : A) (xs : List A) → test x ≡ true → numbers_from i test (x ∷ xs) ≡ i ∷ numbers_from (suc i) test xs
  unfolding numbers_from
  numbers_pass i x xs t = rw (t, numbers_from) refl

  pub numbers_fail : (i : ℕ) (x : A) (xs : List A) → test x ≡ false → numbers_from i test (x ∷ xs) ≡ numbers_from (suc i) test xs
  unfolding numbers_from
  numbers_fail i x xs t = rw (t, numbers_from) refl

  -- none is above the number of the last element
  pub numbers_most : (i : ℕ) (xs : List A) → greatest (numbers_from (suc i) test xs) ≤ i + length xs
  unfolding numbers_from greatest
  numbers_most i [] = omega arith
  numbers_most i (x ∷ xs) = go (numbers_most (suc i) xs) (test x) refl
    where
      go : greatest (numbers_from (suc (suc i)) test xs) ≤ suc i + length xs → (b : Bool) → test x ≡ b → greatest (numbers_from (suc i) test (x ∷ xs)) ≤ i + suc (length xs)
      go ih true t = rw (numbers_pass (suc i) x xs t) (omega arith)
      go ih false t = rw (numbers_fail (suc i) x xs t) (omega arith)

  -- where some element passes, one is at least the number of the first
  pub numbers_some : (i : ℕ) {x : A} (xs : List A) → Memᴰ x xs → test x ≡ true → i ≤ greatest (numbers_from i test xs)
  unfolding greatest
  numbers_some i [] x4 p = elim x4 [ ]
  numbers_some i (y ∷ ys) (Memᴰ.head q) p = rw (numbers_pass i y ys (ap test (sym q) ∙ p)) (omega arith)
  numbers_some i (y ∷ ys) (Memᴰ.tail m) p = go (numbers_some (suc i) ys m p) (test y) refl
    where
      go : suc i ≤ greatest (numbers_from (suc i) test ys) → (b : Bool) → test y ≡ b → i ≤ greatest (numbers_from i test (y ∷ ys))
      go ih true t = rw (numbers_pass i y ys t) (omega arith)
      go ih false t = rw (numbers_fail i y ys t) (omega arith)

  -- those behind the first element have no greater numbers than all
  numbers_behind : (i : ℕ) (x : A) (xs : List A) → greatest (numbers_from (suc i) test xs) ≤ greatest (numbers_from i test (x ∷ xs))
  unfolding greatest
  numbers_behind i x xs = go (test x) refl
    where
      go : (b : Bool) → test x ≡ b → greatest (numbers_from (suc i) test xs) ≤ greatest (numbers_from i test (x ∷ xs))
      go true t = rw (numbers_pass i x xs t) (omega arith)
      go false t = rw (numbers_fail i x xs t) (omega arith)

  -- where no number is above i, those that pass stand among the first i
  front_from : (a i : ℕ) {x : A} (xs : List A) → Memᴰ x xs → test x ≡ true → greatest (numbers_from (suc a) test xs) ≤ a + i → Memᴰ x (take i xs)
  front_from a (suc i) [] m p h = elim m [ ]
  front_from a zero xs m p h = absurd (omega (arith, numbers_some (suc a) xs m p))
  front_from a (suc i) (y ∷ ys) (Memᴰ.head q) p h = Memᴰ.head q
  front_from a (suc i) (y ∷ ys) (Memᴰ.tail m) p h = Memᴰ.tail (front_from (suc a) i ys m p (omega (arith, numbers_behind (suc a) y ys)))

  pub numbers_front : (i : ℕ) {x : A} (xs : List A) → Memᴰ x xs → test x ≡ true → greatest (numbers_from 1 test xs) ≤ i → Memᴰ x (take i xs)
  numbers_front i xs m p h = front_from 0 i xs m p (omega arith)

  pub numbers_length : (i : ℕ) (xs : List A) → length (numbers_from i test xs) ≡ length (those test xs)
  unfolding numbers_from those
  numbers_length i [] = refl
  numbers_length i (x ∷ xs) = go (numbers_length (suc i) xs) (test x) refl
    where
      go : length (numbers_from (suc i) test xs) ≡ length (those test xs) → (b : Bool) → test x ≡ b → length (numbers_from i test (x ∷ xs)) ≡ length (those test (x ∷ xs))
      go ih true t = rw (numbers_pass i x xs t, those_pass test x xs t) (ap suc ih)
      go ih false t = rw (numbers_fail i x xs t, those_fail test x xs t) ih

  -- the element at place j, from 0, passes, and k elements before it do (d where there is none)
  pub record PassesBehind (d : A) (xs : List A) (k j : ℕ) : Type 0 where
    pub within : j < length xs
    pub passes : test (get_or xs j d) ≡ true
    pub before : length (those test (take j xs)) ≡ k

  -- number k of them, from 0, is that of the element with k passing ones before it
  abbrev pub NumberIs : A → ℕ → List A → ℕ → Type 0
  NumberIs d i xs k = (j : ℕ) × (get_or (numbers_from i test xs) k 0 ≡ i + j) × PassesBehind d xs k j

  module _ (d : A) (i : ℕ) (x : A) (xs : List A) where
    number_first : test x ≡ true → NumberIs d i (x ∷ xs) 0
    unfolding those
    number_first t = (0, rw (numbers_pass i x xs t) (omega arith), record { within = omega arith; passes = t; before = refl })

    number_pass : (k : ℕ) → test x ≡ true → NumberIs d (suc i) xs k → NumberIs d i (x ∷ xs) (suc k)
    number_pass k t (j, e, p) = (
      suc j,
      rw (numbers_pass i x xs t) (omega (arith, e)),
      record { within = omega (arith, p.within); passes = p.passes; before = rw (those_pass test x (take j xs) t) (ap suc p.before) },
    )

    number_fail : (k : ℕ) → test x ≡ false → NumberIs d (suc i) xs k → NumberIs d i (x ∷ xs) k
    number_fail k t (j, e, p) = (
      suc j,
      rw (numbers_fail i x xs t) (omega (arith, e)),
      record { within = omega (arith, p.within); passes = p.passes; before = rw (those_fail test x (take j xs) t) p.before },
    )

  pub numbers_each : (d : A) (i k : ℕ) (xs : List A) → k < length (numbers_from i test xs) → NumberIs d i xs k
  unfolding numbers_from
  numbers_each d i k [] h = absurd (omega arith)
  numbers_each d i k (x ∷ xs) h = go (λ n. numbers_each d (suc i) n xs) k h (test x) refl
    where
      go : ((n : ℕ) → n < length (numbers_from (suc i) test xs) → NumberIs d (suc i) xs n) → (k : ℕ) → k < length (numbers_from i test (x ∷ xs)) → (b : Bool) → test x ≡ b → NumberIs d i (x ∷ xs) k
      go ih zero h true t = number_first d i x xs t
      go ih (suc k) h true t = number_pass d i x xs k t (ih k (omega (arith, rw (numbers_pass i x xs t) at h)))
      go ih k h false t = number_fail d i x xs k t (ih k (rw (numbers_fail i x xs t) at h))

  -- there is no other such element
  passing_once : (d : A) (xs : List A) (j l : ℕ) → j < length xs → l < length xs → test (get_or xs j d) ≡ true → test (get_or xs l d) ≡ true → length (those test (take j xs)) ≡ length (those test (take l xs)) → j ≡ l
  unfolding those
  passing_once d [] j l h g p q e = absurd (omega arith)
  passing_once d (x ∷ xs) zero zero h g p q e = refl
  passing_once d (x ∷ xs) zero (suc l) h g p q e = absurd (omega (arith, rw (those_pass test x (take l xs) p) at e))
  passing_once d (x ∷ xs) (suc j) zero h g p q e = absurd (omega (arith, rw (those_pass test x (take j xs) q) at e))
  passing_once d (x ∷ xs) (suc j) (suc l) h g p q e = go (test x) refl (passing_once d xs j l (omega arith) (omega arith) p q)
    where
      go : (b : Bool) → test x ≡ b → (length (those test (take j xs)) ≡ length (those test (take l xs)) → j ≡ l) → suc j ≡ suc l
      go true t ih = ap suc (ih (omega (arith, rw (those_pass test x (take j xs) t, those_pass test x (take l xs) t) at e)))
      go false t ih = ap suc (ih (rw (those_fail test x (take j xs) t, those_fail test x (take l xs) t) at e))

  pub behind_unique : (d : A) (xs : List A) (k j l : ℕ) → PassesBehind d xs k j → PassesBehind d xs k l → j ≡ l
  behind_unique d xs k j l p q = passing_once d xs j l p.within q.within p.passes q.passes (p.before ∙ sym q.before)
