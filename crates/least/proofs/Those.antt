-- What `those` leaves of two lists in a row, of a list that all passes and of one that does not pass.
-- Assumes nothing.
use mathlib.Core.Path.{◌≡◌, refl, ap, ◌∙◌}
use mathlib.Core.Bool.{Bool, true, false}
use mathlib.Core.List.{List, [], ◌∷◌, ◌++◌, append-nil, Memᴰ}
use Rattle.least.specs.Lists.{those}
use Rattle.least.proofs.Lists.{those_pass, those_fail}

module _ {A : Type 0} (test : A → Bool) where
  pub those_append : (xs ys : List A) → those test (xs ++ ys) ≡ those test xs ++ those test ys
  unfolding those
  those_append [] ys = refl
  those_append (x ∷ xs) ys = go (those_append xs ys) (test x) refl
    where
      go : those test (xs ++ ys) ≡ those test xs ++ those test ys → (b : Bool) → test x ≡ b → those test (x ∷ (xs ++ ys)) ≡ those test (x ∷ xs) ++ those test ys
      go ih true t = rw (those_pass test x (xs ++ ys) t, those_pass test x xs t) (ap (λ (l : List A). x ∷ l) ih)
      go ih false t = rw (those_fail test x (xs ++ ys) t, those_fail test x xs t) ih

  pub those_all : (xs : List A) → ((x : A) → Memᴰ x xs → test x ≡ true) → those test xs ≡ xs
  unfolding those
  those_all [] h = refl
  those_all (x ∷ xs) h =
      those_pass test x xs (h x (Memᴰ.head refl)) ∙ ap (λ (l : List A). x ∷ l) (those_all xs (λ y m. h y (Memᴰ.tail m)))

  -- a last element that does not pass
  pub those_dropped : (xs : List A) (x : A) → test x ≡ false → those test (xs ++ (x ∷ [])) ≡ those test xs
  unfolding those
  those_dropped xs x f = those_append xs (x ∷ []) ∙ ap (λ (l : List A). those test xs ++ l) (those_fail test x [] f) ∙ append-nil (those test xs)
