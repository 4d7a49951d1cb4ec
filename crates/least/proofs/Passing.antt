-- How many elements of a list pass a test.
--   PassesAt test d xs k == the k-th element of the list, counted from 1, passes the test
-- Assumes nothing.
use Prim.Native.Nat.{ℕ, zero, suc, ◌-◌, ◌≤◌}
use native.Mathlib.Omega.{arith}
use mathlib.Core.Path.{◌≡◌, refl, sym, ap, ◌∙◌}
use mathlib.Core.Bool.{Bool, true, false}
use mathlib.Core.List.{List, [], ◌∷◌}
use lib.ListN.{length}
use Rattle.least.specs.Lists.{nth_or, those}
use Rattle.least.proofs.Lists.{those_pass, those_fail, those_member, those_passing, nth_get, nth_member}
use Rattle.least.proofs.Members.{place_of}

module _ {A : Type 0} (test : A → Bool) (d : A) where
  pub record PassesAt (xs : List A) (k : ℕ) : Type 0 where
    pub from : 1 ≤ k
    pub to : k ≤ length xs
    pub passes : test (nth_or d k xs) ≡ true

  passes_here : (x : A) (xs : List A) → test x ≡ true → PassesAt (x ∷ xs) 1
  unfolding nth_or
  passes_here x xs t = record { from = omega arith; to = omega arith; passes = t }

  passes_later : (x : A) (xs : List A) (k : ℕ) → PassesAt xs k → PassesAt (x ∷ xs) (suc k)
  unfolding nth_or
  passes_later x xs zero p = absurd (omega (arith, p.from))
  passes_later x xs (suc k) p = record { from = omega arith; to = omega (arith, p.to); passes = p.passes }

  passes_first : (x : A) (xs : List A) → PassesAt (x ∷ xs) 1 → test x ≡ true
  unfolding nth_or
  passes_first x xs p = p.passes

  passes_behind : (x : A) (xs : List A) (k : ℕ) → PassesAt (x ∷ xs) (suc (suc k)) → PassesAt xs (suc k)
  unfolding nth_or
  passes_behind x xs k p = record { from = omega arith; to = omega (arith, p.to); passes = p.passes }

  passing_one : (xs : List A) (k : ℕ) → PassesAt xs k → 1 ≤ length (those test xs)
  passing_one xs k p = let m = place_of d (those test xs) (those_passing test xs (nth_member d k xs p.from p.to) p.passes) in omega (arith, m.1)

  one_passing : (xs : List A) → 1 ≤ length (those test xs) → (k : ℕ) × PassesAt xs k
  one_passing xs h =
      let m = those_member test xs (nth_member d 1 (those test xs) (omega arith) h) in
      let k = place_of d xs m.0 in
      (suc k.0, record { from = omega arith; to = omega (arith, k.1); passes = ap test (nth_get d k.0 xs ∙ sym k.2) ∙ m.1 })

  -- an element that passes counts, one that does not pass does not
  counts_pass : (x : A) (xs : List A) → test x ≡ true → length (those test (x ∷ xs)) ≡ suc (length (those test xs))
  counts_pass x xs t = ap length (those_pass test x xs t)

  counts_behind : (x : A) (xs : List A) → length (those test xs) ≤ length (those test (x ∷ xs))
  counts_behind x xs = go (test x) refl
    where
      go : (b : Bool) → test x ≡ b → length (those test xs) ≤ length (those test (x ∷ xs))
      go true t = omega (arith, counts_pass x xs t)
      go false t = omega (arith, ap length (those_fail test x xs t))

  pub passing_two : (xs : List A) (j k : ℕ) → PassesAt xs j → PassesAt xs k → (j ≡ k → ⊥) → 2 ≤ length (those test xs)
  passing_two [] j k p q h = absurd (omega (arith, p.from, p.to))
  passing_two (x ∷ xs) zero k p q h = absurd (omega (arith, p.from))
  passing_two (x ∷ xs) (suc j) zero p q h = absurd (omega (arith, q.from))
  passing_two (x ∷ xs) (suc zero) (suc zero) p q h = absurd (h refl)
  passing_two (x ∷ xs) (suc zero) (suc (suc k)) p q h =
      omega (arith, counts_pass x xs (passes_first x xs p), passing_one xs (suc k) (passes_behind x xs k q))
  passing_two (x ∷ xs) (suc (suc j)) (suc zero) p q h =
      omega (arith, counts_pass x xs (passes_first x xs q), passing_one xs (suc j) (passes_behind x xs j p))
  passing_two (x ∷ xs) (suc (suc j)) (suc (suc k)) p q h =
      omega (arith, counts_behind x xs, passing_two xs (suc j) (suc k) (passes_behind x xs j p) (passes_behind x xs k q) (λ e. h (ap suc e)))

  -- of two that pass one is not the k-th
  pub two_passing : (xs : List A) (k : ℕ) → 2 ≤ length (those test xs) → (j : ℕ) × (j ≡ k → ⊥) × PassesAt xs j
  unfolding those
  two_passing [] k h = absurd (omega arith)
  two_passing (x ∷ xs) k h = go (test x) refl k refl (λ q. two_passing xs (k - 1) q)
    where
      go : (b : Bool) → test x ≡ b → (m : ℕ) → k ≡ m → (2 ≤ length (those test xs) → (j : ℕ) × (j ≡ k - 1 → ⊥) × PassesAt xs j) → (j : ℕ) × (j ≡ k → ⊥) × PassesAt (x ∷ xs) j
      go true t zero e ih = (1, λ f. omega (arith, f, e), passes_here x xs t)
      go true t (suc zero) e ih =
          let p = one_passing xs (omega (arith, h, counts_pass x xs t)) in
          (suc p.0, λ f. omega (arith, f, e, p.1.from), passes_later x xs p.0 p.1)
      go true t (suc (suc m)) e ih = (1, λ f. omega (arith, f, e), passes_here x xs t)
      go false t m e ih =
          let p = ih (omega (arith, h, ap length (those_fail test x xs t))) in
          (suc p.0, λ f. p.1 (omega (arith, f, p.2.from)), passes_later x xs p.0 p.2)
