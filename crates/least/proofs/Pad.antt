-- The laws of `pad`: its length, its elements, its start, and what a store and a longer list do to it.
-- Assumes nothing.
use Prim.Native.Nat.{ℕ, zero, suc, ◌+◌, ◌≤◌, ◌<◌}
use native.Mathlib.Nat.{le_of_lt, le_of_suc-le-suc, not-suc-le-zero}
use native.Mathlib.Numerals.{add-one}
use native.Mathlib.Omega.{arith}
use mathlib.Core.Path.{◌≡◌, refl, ap, ap₂}
use mathlib.Core.List.{List, [], ◌∷◌, ◌++◌, map}
use lib.ListN.{length, take, drop, set, get_or, replicate}
use lib.Seq.{take-suc, length-take-le}
use Rattle.least.specs.Lists.{pad}

module _ {A : Type 0} where
  pub length_pad : (k : ℕ) (z : A) (xs : List A) → length (pad k z xs) ≡ k
  unfolding pad
  length_pad zero z xs = refl
  length_pad (suc k) z [] = ap suc (length_pad k z [])
  length_pad (suc k) z (x ∷ xs) = ap suc (length_pad k z xs)

  -- a store behind the last element is one more element
  pub set_pad : (k : ℕ) (z : A) (xs : List A) (x : A) → length xs < k → set (pad k z xs) (length xs) x ≡ pad k z (xs ++ x ∷ [])
  unfolding pad
  set_pad zero z xs x h = absurd (not-suc-le-zero h)
  set_pad (suc k) z [] x h = refl
  set_pad (suc k) z (y ∷ ys) x h = ap (λ (l : List A). y ∷ l) (set_pad k z ys x (le_of_suc-le-suc h))

  -- a store over an element is one into the list
  pub set_pad_within : (k : ℕ) (z : A) (xs : List A) (i : ℕ) (x : A) → i < length xs → set (pad k z xs) i x ≡ pad k z (set xs i x)
  unfolding pad
  set_pad_within zero z xs i x h = refl
  set_pad_within (suc k) z [] i x h = absurd (not-suc-le-zero h)
  set_pad_within (suc k) z (y ∷ ys) zero x h = refl
  set_pad_within (suc k) z (y ∷ ys) (suc i) x h = ap (λ (l : List A). y ∷ l) (set_pad_within k z ys i x (le_of_suc-le-suc h))

  -- a full array takes no more
  pub pad_full : (k : ℕ) (z : A) (xs ys : List A) → k ≤ length xs → pad k z (xs ++ ys) ≡ pad k z xs
  unfolding pad
  pad_full zero z xs ys h = refl
  pad_full (suc k) z [] ys h = absurd (not-suc-le-zero h)
  pad_full (suc k) z (x ∷ xs) ys h = ap (λ (l : List A). x ∷ l) (pad_full k z xs ys (le_of_suc-le-suc h))

  pub get_d_pad : (k : ℕ) (z : A) (xs : List A) (i : ℕ) → i < k → get_or (pad k z xs) i z ≡ get_or xs i z
  unfolding pad
  get_d_pad zero z xs i h = absurd (not-suc-le-zero h)
  get_d_pad (suc k) z [] zero h = refl
  get_d_pad (suc k) z [] (suc i) h = get_d_pad k z [] i (le_of_suc-le-suc h)
  get_d_pad (suc k) z (x ∷ xs) zero h = refl
  get_d_pad (suc k) z (x ∷ xs) (suc i) h = get_d_pad k z xs i (le_of_suc-le-suc h)

  -- and at every place, of a list that fits
  pub get_d_pad_fits : (k : ℕ) (z : A) (xs : List A) (i : ℕ) → length xs ≤ k → get_or (pad k z xs) i z ≡ get_or xs i z
  unfolding pad
  get_d_pad_fits zero z [] i h = refl
  get_d_pad_fits zero z (x ∷ xs) i h = absurd (not-suc-le-zero h)
  get_d_pad_fits (suc k) z [] zero h = refl
  get_d_pad_fits (suc k) z [] (suc i) h = get_d_pad_fits k z [] i (omega arith)
  get_d_pad_fits (suc k) z (x ∷ xs) zero h = refl
  get_d_pad_fits (suc k) z (x ∷ xs) (suc i) h = get_d_pad_fits k z xs i (le_of_suc-le-suc h)

  -- no element, then one after the other
  pub pad_none : (k : ℕ) (z : A) → replicate k z ≡ pad k z []
  unfolding pad
  pad_none zero z = refl
  pad_none (suc k) z = ap (λ (l : List A). z ∷ l) (pad_none k z)

  pub pad_next : (k : ℕ) (z : A) (xs : List A) (i : ℕ) (x d : A) → i < length xs → i < k → x ≡ get_or xs i d → set (pad k z (take i xs)) i x ≡ pad k z (take (i + 1) xs)
  pad_next k z xs i x d h l e =
      let n : length (take i xs) ≡ i = length-take-le i xs (le_of_lt h) in
      let s : set (pad k z (take i xs)) (length (take i xs)) x ≡ pad k z (take i xs ++ x ∷ []) = set_pad k z (take i xs) x (rw n l) in
      rw (add-one, take-suc xs i d h, ← e) (rw n at s)

  -- its first elements are the list
  pub take_pad : (k : ℕ) (z : A) (xs : List A) → length xs ≤ k → take (length xs) (pad k z xs) ≡ xs
  unfolding pad
  take_pad zero z [] h = refl
  take_pad zero z (x ∷ xs) h = absurd (not-suc-le-zero h)
  take_pad (suc k) z [] h = refl
  take_pad (suc k) z (x ∷ xs) h = ap (λ (l : List A). x ∷ l) (take_pad k z xs (le_of_suc-le-suc h))

  -- a list over the start of an array without elements
  pub pad_over : (k : ℕ) (z : A) (xs : List A) → length xs ≤ k → xs ++ drop (length xs) (pad k z []) ≡ pad k z xs
  unfolding pad
  pad_over zero z [] h = refl
  pad_over zero z (x ∷ xs) h = absurd (not-suc-le-zero h)
  pad_over (suc k) z [] h = refl
  pad_over (suc k) z (x ∷ xs) h = ap (λ (l : List A). x ∷ l) (pad_over k z xs (le_of_suc-le-suc h))

  -- the filler itself adds nothing
  pub pad_filler : (k : ℕ) (z : A) (xs : List A) → pad k z (xs ++ (z ∷ [])) ≡ pad k z xs
  unfolding pad
  pad_filler zero z xs = refl
  pad_filler (suc k) z [] = refl
  pad_filler (suc k) z (x ∷ xs) = ap (λ (l : List A). x ∷ l) (pad_filler k z xs)

  pub pad_fillers : {B : Type 0} (f : B → A) (k : ℕ) (z : A) (xs : List B) → ((x : B) → f x ≡ z) → pad k z (map f xs) ≡ pad k z []
  unfolding pad
  pad_fillers f zero z xs h = refl
  pad_fillers f (suc k) z [] h = refl
  pad_fillers f (suc k) z (x ∷ xs) h = ap₂ ◌∷◌ (h x) (pad_fillers f k z xs h)
