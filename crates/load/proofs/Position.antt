-- The first element that passes a test: its place, from 0, and its number, from 1.
--   number_at place == the number of what has this place; 0 where there is none
-- Assumes nothing.
use Rattle.std.specs.Prelude.{Option, Some, None}
use Rattle.std.specs.List.{position, position_from}
use Rattle.std.proofs.lemmas.List.Quantifiers.{position-Some}
use Rattle.std.proofs.lemmas.Iterator.Adapters.{position_from-zero}
use Prim.Native.Nat.{ℕ, suc, ◌+◌, ◌<◌}
use native.Mathlib.Omega.{arith}
use native.Mathlib.Numerals.{add-one}
use mathlib.Core.Path.{◌≡◌, refl, sym, ap, ◌∙◌}
use mathlib.Core.Bool.{Bool, true, false}
use mathlib.Core.List.{List, [], ◌∷◌}
use lib.ListN.{length}
use Rattle.least.specs.Lists.{first_from, first_of}

abbrev pub number_at : Option ℕ → ℕ
number_at (Some k) = suc k
number_at None = 0

module _ {A : Type 0} (test : A → Bool) where
  number_from : (i : ℕ) (xs : List A) → first_from (suc i) test xs ≡ number_at (position_from test i xs)
  unfolding first_from
  number_from i [] = refl
  number_from i (x ∷ xs) = go (test x) refl (rw add-one (number_from (suc i) xs))
    where
      go : (b : Bool) → test x ≡ b → first_from (suc (suc i)) test xs ≡ number_at (position_from test (i + 1) xs) → first_from (suc i) test (x ∷ xs) ≡ number_at (position_from test i (x ∷ xs))
      go true e ih = rw (e, first_from) refl
      go false e ih = rw (e, first_from) ih

  pub number_is : (xs : List A) → first_of test xs ≡ number_at (position test xs)
  number_is xs = number_from 0 xs ∙ ap number_at (sym (position_from-zero test xs))

  pub place_is : {k : ℕ} (xs : List A) → position test xs ≡ Some k → k + 1 ≡ first_of test xs
  place_is {k} xs e = add-one k ∙ sym (number_is xs ∙ ap number_at e)

  pub place_in : {k : ℕ} (xs : List A) → position test xs ≡ Some k → k < length xs
  place_in [] e = absurd (cc)
  place_in {k} (x ∷ xs) e = (position-Some test (x ∷ xs) k x e).0

  pub none_is : (xs : List A) → position test xs ≡ None → first_of test xs ≡ 0
  none_is xs e = number_is xs ∙ ap number_at e

  -- back from the number to the place
  place_of : (place : Option ℕ) (k : ℕ) → number_at place ≡ suc k → place ≡ Some k
  place_of (Some j) k e = let h : j ≡ k = omega arith in ap Some h
  place_of None k e = absurd (omega arith)

  no_place : (place : Option ℕ) → number_at place ≡ 0 → place ≡ None
  no_place (Some j) e = absurd (omega arith)
  no_place None e = refl

  pub first_place : {k : ℕ} (xs : List A) → first_of test xs ≡ suc k → position test xs ≡ Some k
  first_place xs e = place_of _ _ (sym (number_is xs) ∙ e)

  pub first_no_place : (xs : List A) → first_of test xs ≡ 0 → position test xs ≡ None
  first_no_place xs e = no_place _ (sym (number_is xs) ∙ e)
