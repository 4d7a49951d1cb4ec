-- The digits of a number spell that number, are digits, and have no leading zero.
-- Assumes nothing.
use Prim.Native.Nat.{ℕ, zero, suc, ◌+◌, ◌-◌, ◌*◌, ◌/◌, ◌%◌, ◌≤◌, ◌<◌}
use native.Mathlib.Omega.{arith}
use mathlib.Core.Path.{◌≡◌, refl, ◌∙◌}
use mathlib.Core.Bool.{Bool, true, false}
use mathlib.Core.List.{List, [], ◌∷◌, ◌++◌}
use borrow.Author.Tests.{ltb-true, ltb-false, le-leb}
use lib.Dec.{ltb}
use Rattle.least.specs.Lists.{every}
use Rattle.least.proofs.Lists.{every_none, every_snoc}
use Rattle.text.specs.Decimal.{is_digit, value_after, value_of, digits_within, digits_of}

-- one digit more at the end
value_snoc : (v : ℕ) (ds : List ℕ) (d : ℕ) → value_after v (ds ++ (d ∷ [])) ≡ value_after v ds * 10 + (d - 48)
unfolding value_after
value_snoc v [] d = refl
value_snoc v (e ∷ ds) d = value_snoc (v * 10 + (e - 48)) ds d

-- by the last digit, for n < k
last_digit : (P : List ℕ → Type 0) (k n : ℕ) → (n < 10 → P ((48 + n) ∷ [])) → (10 ≤ n → P (digits_within k (n / 10) ++ ((48 + n % 10) ∷ []))) → P (digits_within (suc k) n)
unfolding digits_within
last_digit P k n f g = go (ltb n 10) refl
  where
    go : (t : Bool) → ltb n 10 ≡ t → P (digits_within (suc k) n)
    go true e = rw (e, digits_within) (f (ltb-true n 10 e))
    go false e = rw (e, digits_within) (g (ltb-false n 10 e))

value_single : (n : ℕ) → value_of ((48 + n) ∷ []) ≡ n
unfolding value_after
value_single n = omega arith

value_within : (k n : ℕ) → n < k → value_of (digits_within k n) ≡ n
value_within zero n h = absurd (omega arith)
value_within (suc k) n h =
    last_digit (λ ds. value_of ds ≡ n) k n (λ l. value_single n)
    (λ l. value_snoc 0 (digits_within k (n / 10)) (48 + n % 10) ∙ omega (arith, value_within k (n / 10) (omega arith)))

pub value_digits : (n : ℕ) → value_of (digits_of n) ≡ n
unfolding digits_of
value_digits n = value_within (suc n) n (omega arith)

is_digit_lem : (n : ℕ) → n < 10 → is_digit (48 + n) ≡ true
unfolding is_digit
is_digit_lem n h = simp (le-leb 48 (48 + n) (omega arith), le-leb (48 + n) 57 (omega arith))

no_digits : (n : ℕ) → every is_digit (digits_within 0 n) ≡ true
unfolding digits_within every
no_digits n = refl

digits_within_lem : (k n : ℕ) → every is_digit (digits_within k n) ≡ true
digits_within_lem zero n = no_digits n
digits_within_lem (suc k) n =
    last_digit (λ ds. every is_digit ds ≡ true) k n (λ l. every_snoc is_digit [] (48 + n) (every_none is_digit) (is_digit_lem n l))
    (λ l. every_snoc is_digit (digits_within k (n / 10)) (48 + n % 10) (digits_within_lem k (n / 10)) (is_digit_lem (n % 10) (omega arith)))

pub digits_digits : (n : ℕ) → every is_digit (digits_of n) ≡ true
unfolding digits_of
digits_digits n = digits_within_lem (suc n) n

-- the first digit of a positive number is not 0
abbrev pub FirstDigit : List ℕ → Type 0
FirstDigit [] = ⊥
FirstDigit (d ∷ ds) = 49 ≤ d

first_digit_snoc : (ds : List ℕ) (d : ℕ) → FirstDigit ds → FirstDigit (ds ++ (d ∷ []))
first_digit_snoc [] d h = absurd h
first_digit_snoc (e ∷ ds) d h = h

first_within : (k n : ℕ) → 1 ≤ n → n < k → FirstDigit (digits_within k n)
first_within zero n p h = absurd (omega arith)
first_within (suc k) n p h =
    last_digit FirstDigit k n (λ l. omega arith)
    (λ l. first_digit_snoc (digits_within k (n / 10)) (48 + n % 10) (first_within k (n / 10) (omega arith) (omega arith)))

pub digits_first : (n : ℕ) → 1 ≤ n → FirstDigit (digits_of n)
unfolding digits_of
digits_first n p = first_within (suc n) n p (omega arith)
