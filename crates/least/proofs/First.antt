-- The first element that passes a test, and whether every element does, by places; the first fraction that reaches the greatest.
-- Assumes nothing.
use Prim.Native.Nat.{ℕ, zero, suc, ◌+◌, ◌≤◌, ◌<◌}
use native.Mathlib.Omega.{arith}
use mathlib.Core.Path.{◌≡◌, refl, sym, ap, ◌∙◌, subst}
use mathlib.Core.Bool.{Bool, true, false, not}
use mathlib.Core.List.{List, [], ◌∷◌}
use borrow.Author.Count.{below_more}
use lib.ListN.{length, get_or}
use Rattle.least.specs.declared.Frac.{Frac}
use Rattle.least.specs.Lists.{every, first_from, first_of}
use Rattle.least.specs.Fraction.{frac, at_most, greatest_of}
use Rattle.least.proofs.Lists.{every_all, every_pass, every_fail, nth_get, FirstAt, first_at, first_none}
use Rattle.least.proofs.Fraction.{⊑_refl, at_most_true, at_most_false, FirstGreatest}
use Rattle.least.proofs.Members.{each_place}

module _ {A : Type 0} (d : A) where
  -- none of the first k elements passes
  abbrev pub NoneBefore : (A → Bool) → List A → ℕ → Type 0
  NoneBefore test xs k = (i : ℕ) → i < k → test (get_or xs i d) ≡ false

  pub none_more : (test : A → Bool) (xs : List A) (k : ℕ) → NoneBefore test xs k → test (get_or xs k d) ≡ false → NoneBefore test xs (k + 1)
  none_more test xs k none f = below_more (λ i. test (get_or xs i d) ≡ false) k none f

  first_from_is : (test : A → Bool) (i k : ℕ) (xs : List A) → k < length xs → test (get_or xs k d) ≡ true → NoneBefore test xs k → first_from i test xs ≡ i + k
  unfolding first_from
  first_from_is test i k [] h e f = absurd (omega arith)
  first_from_is test i zero (x ∷ xs) h e f = rw (e, first_from) (omega arith)
  first_from_is test i (suc k) (x ∷ xs) h e f =
      let g : test x ≡ false = f 0 (omega arith) in
      rw (g, first_from) (omega (arith, first_from_is test (suc i) k xs (omega arith) e (λ j l. f (suc j) (omega arith))))

  -- the element at the place k is the first that passes
  pub first_is : (test : A → Bool) (k : ℕ) (xs : List A) → k < length xs → test (get_or xs k d) ≡ true → NoneBefore test xs k → first_of test xs ≡ suc k
  first_is test k xs h e f = first_from_is test 1 k xs h e f ∙ omega arith

  -- no element passes
  pub first_is_none : (test : A → Bool) (xs : List A) → NoneBefore test xs (length xs) → first_of test xs ≡ 0
  first_is_none test xs none = (first_none test xs).1 (each_place d (λ x. test x ≡ false) xs none)

  pub every_place : (test : A → Bool) (xs : List A) → ((k : ℕ) → k < length xs → test (get_or xs k d) ≡ true) → every test xs ≡ true
  every_place test xs h = every_all test xs (each_place d (λ x. test x ≡ true) xs h)

  -- the element at the place k does not pass
  pub every_missed : (test : A → Bool) (k : ℕ) (xs : List A) → k < length xs → test (get_or xs k d) ≡ false → every test xs ≡ false
  every_missed test k [] h f = absurd (omega arith)
  every_missed test zero (x ∷ xs) h f = every_fail test x xs f
  every_missed test (suc k) (x ∷ xs) h f = go (test x) refl (every_missed test k xs (omega arith) f)
    where
      go : (b : Bool) → test x ≡ b → every test xs ≡ false → every test (x ∷ xs) ≡ false
      go true t ih = every_pass test x xs t ∙ ih
      go false t ih = every_fail test x xs t

-- the first that does not pass tells whether every element passes
module _ {A : Type 0} (test : A → Bool) (xs : List A) where
  not_fails : (b : Bool) → not b ≡ false → b ≡ true
  not_fails true e = refl
  not_fails false e = sym e

  not_passes : (b : Bool) → not b ≡ true → b ≡ false
  not_passes true e = sym e
  not_passes false e = refl

  pub first_every : first_of (λ x. not (test x)) xs ≡ 0 → every test xs ≡ true
  first_every e = every_all test xs (λ x m. not_fails (test x) ((first_none (λ x. not (test x)) xs).0 e x m))

  pub first_not_every : (d : A) → 1 ≤ first_of (λ x. not (test x)) xs → every test xs ≡ false
  first_not_every d h = go (first_of (λ x. not (test x)) xs) refl
    where
      go : (k : ℕ) → first_of (λ x. not (test x)) xs ≡ k → every test xs ≡ false
      go zero e = absurd (omega arith)
      go (suc k) e =
          let f = subst (FirstAt (λ x. not (test x)) xs) e (first_at (λ x. not (test x)) xs h) in
          every_missed d test k xs (omega (arith, f.most)) (not_passes _ (ap (λ (x : A). not (test x)) (sym (nth_get d k xs)) ∙ f.passes d))

-- the first that reaches the greatest
pub first_greatest : (xs : List Frac) (j : ℕ) → FirstGreatest xs j → first_of (at_most (greatest_of xs)) xs ≡ suc j
first_greatest xs j f =
    first_is (frac 0 1) (at_most (greatest_of xs)) j xs f.within (rw f.value (at_most_true (greatest_of xs) (greatest_of xs) (⊑_refl _))) (λ k h. at_most_false (greatest_of xs) _ (f.before k h))
