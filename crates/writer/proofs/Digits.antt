-- The digits of a number from the last to the first, and how many there are.
-- Assumes nothing.
use Prim.Native.Nat.{ℕ, zero, suc, ◌+◌, ◌/◌, ◌%◌, ◌^◌, ◌≤◌, ◌<◌}
use native.Mathlib.Omega.{arith}
use native.Mathlib.Nat.{pow-suc}
use mathlib.Core.Path.{◌≡◌, refl, sym, ap, ◌∙◌}
use mathlib.Core.Bool.{Bool, true, false}
use mathlib.Core.List.{List, [], ◌∷◌, ◌++◌}
use borrow.Author.Tests.{ltb-true, ltb-false, lt-ltb, le-ltb}
use lib.Dec.{ltb}
use lib.ListN.{length, length-append}
use Rattle.text.specs.Decimal.{digits_within, digits_of}

within_one : (k n : ℕ) → n < 10 → digits_within (suc k) n ≡ (48 + n) ∷ []
unfolding digits_within
within_one k n h = rw (lt-ltb n 10 h, digits_within) refl

within_more : (k n : ℕ) → 10 ≤ n → digits_within (suc k) n ≡ digits_within k (n / 10) ++ ((48 + n % 10) ∷ [])
unfolding digits_within
within_more k n h = rw (le-ltb n 10 h, digits_within) refl

-- more places than a number needs change nothing
within_enough : (k j n : ℕ) → n < k → n < j → digits_within k n ≡ digits_within j n
within_enough zero j n h g = absurd (omega arith)
within_enough (suc k) zero n h g = absurd (omega arith)
within_enough (suc k) (suc j) n h g = go (ltb n 10) refl (λ m. within_enough k j (n / 10) (omega arith) (omega arith))
  where
    go : (t : Bool) → ltb n 10 ≡ t → (10 ≤ n → digits_within k (n / 10) ≡ digits_within j (n / 10)) → digits_within (suc k) n ≡ digits_within (suc j) n
    go true e ih = within_one k n (ltb-true n 10 e) ∙ sym (within_one j n (ltb-true n 10 e))
    go false e ih =
        let m = ltb-false n 10 e in
        within_more k n m
        ∙ ap (λ (ds : List ℕ). ds ++ ((48 + n % 10) ∷ [])) (ih m)
        ∙ sym (within_more j n m)

pub digits_one : (n : ℕ) → n < 10 → digits_of n ≡ (48 + n) ∷ []
unfolding digits_of
digits_one n h = within_one n n h

pub digits_more : (n : ℕ) → 10 ≤ n → digits_of n ≡ digits_of (n / 10) ++ ((48 + n % 10) ∷ [])
unfolding digits_of
digits_more n h =
    within_more n n h ∙ ap (λ (ds : List ℕ). ds ++ ((48 + n % 10) ∷ [])) (within_enough n (suc (n / 10)) (n / 10) (omega arith) (omega arith))

pub digits_more_length : (n : ℕ) → 10 ≤ n → length (digits_of n) ≡ length (digits_of (n / 10)) + 1
digits_more_length n h = ap length (digits_more n h) ∙ length-append (digits_of (n / 10)) ((48 + n % 10) ∷ [])

-- a number below 10 ^ (k + 1) has at most k + 1 digits
pub digits_few : (k n : ℕ) → n < 10 ^ suc k → length (digits_of n) ≤ suc k
digits_few zero n h = omega (arith, ap length (digits_one n (omega arith)))
digits_few (suc k) n h = go (ltb n 10) refl (digits_few k (n / 10) (omega (arith, pow-suc 10 (suc k))))
  where
    go : (t : Bool) → ltb n 10 ≡ t → length (digits_of (n / 10)) ≤ suc k → length (digits_of n) ≤ suc (suc k)
    go true e ih = omega (arith, ap length (digits_one n (ltb-true n 10 e)))
    go false e ih = omega (arith, digits_more_length n (ltb-false n 10 e))

pub digits_some : (n : ℕ) → 1 ≤ length (digits_of n)
digits_some n = go (ltb n 10) refl
  where
    go : (t : Bool) → ltb n 10 ≡ t → 1 ≤ length (digits_of n)
    go true e = omega (arith, ap length (digits_one n (ltb-true n 10 e)))
    go false e = omega (arith, digits_more_length n (ltb-false n 10 e))

-- a number of a word of 64 bits has at most 20 digits
pub digits_most : (n : ℕ) → n < 2 ^ 64 → length (digits_of n) ≤ 20
digits_most n h = digits_few 19 n (omega arith)
