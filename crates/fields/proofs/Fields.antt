-- What a well-formed number and a well-formed name are, in the paper's words; and that every number from 1 to 1,000,000 is well formed as it is printed.
-- Assumes nothing.
use Prim.Native.Nat.{ℕ, ◌≤◌}
use native.Mathlib.Omega.{arith}
use mathlib.Core.Path.{◌≡◌}
use mathlib.Core.Logic.{◌↔◌}
use mathlib.Core.Bool.{true, false, not, ◌&&◌}
use mathlib.Core.List.{List, [], ◌∷◌}
use borrow.Author.Tests.{leb-true, le-leb, ne_eqb, not-true}
use lib.Dec.{leb}
use lib.ListN.{length}
use Rattle.least.specs.Lists.{every}
use Rattle.least.proofs.Lists.{and_iff}
use Rattle.refusal.specs.Limits.{number_limit, name_limit}
use Rattle.text.specs.Decimal.{is_digit, value_of, digits_of}
use Rattle.text.proofs.Decimal.{FirstDigit, value_digits, digits_digits, digits_first}
use Rattle.fields.specs.Fields.{is_name_byte, is_name, leading_zero, is_number}

-- a number of a file: digits, without leading zero, from 1 to 1,000,000
pub record Number (bs : List ℕ) : Type 0 where
  pub digits : every is_digit bs ≡ true
  pub plain : leading_zero bs ≡ false
  pub from : 1 ≤ value_of bs
  pub to : value_of bs ≤ number_limit

pub number_iff : (bs : List ℕ) → (is_number bs ≡ true) ↔ Number bs
unfolding is_number
number_iff bs = (is, so)
  where
    is : (every is_digit bs && not (leading_zero bs)) && (leb 1 (value_of bs) && leb (value_of bs) number_limit) ≡ true → Number bs
    is e =
        let p = (and_iff (every is_digit bs && not (leading_zero bs)) (leb 1 (value_of bs) && leb (value_of bs) number_limit)).0 e in
        let d = (and_iff (every is_digit bs) (not (leading_zero bs))).0 p.0 in
        let v = (and_iff (leb 1 (value_of bs)) (leb (value_of bs) number_limit)).0 p.1 in
        record { digits = d.0; plain = not-true (leading_zero bs) d.1; from = leb-true 1 (value_of bs) v.0; to = leb-true (value_of bs) number_limit v.1 }

    so : Number bs → (every is_digit bs && not (leading_zero bs)) && (leb 1 (value_of bs) && leb (value_of bs) number_limit) ≡ true
    so n = simp (n.digits, n.plain, le-leb 1 (value_of bs) n.from, le-leb (value_of bs) number_limit n.to)

plain_first : (bs : List ℕ) → FirstDigit bs → leading_zero bs ≡ false
unfolding leading_zero
plain_first [] h = absurd h
plain_first (b ∷ bs) h = ne_eqb b 48 (λ e. omega arith)

pub number_digits : (n : ℕ) → 1 ≤ n → n ≤ number_limit → is_number (digits_of n) ≡ true
number_digits n h k =
    (number_iff (digits_of n)).1 (record { digits = digits_digits n; plain = plain_first (digits_of n) (digits_first n h); from = rw (value_digits n) h; to = rw (value_digits n) k })

-- a name of a file: 1 to 8 bytes from a–z and 0–9
pub record Name (bs : List ℕ) : Type 0 where
  pub from : 1 ≤ length bs
  pub to : length bs ≤ name_limit
  pub bytes : every is_name_byte bs ≡ true

pub name_iff : (bs : List ℕ) → (is_name bs ≡ true) ↔ Name bs
unfolding is_name
name_iff bs = (is, so)
  where
    is : (leb 1 (length bs) && leb (length bs) name_limit) && every is_name_byte bs ≡ true → Name bs
    is e =
        let p = (and_iff (leb 1 (length bs) && leb (length bs) name_limit) (every is_name_byte bs)).0 e in
        let l = (and_iff (leb 1 (length bs)) (leb (length bs) name_limit)).0 p.0 in
        record { from = leb-true 1 (length bs) l.0; to = leb-true (length bs) name_limit l.1; bytes = p.1 }

    so : Name bs → (leb 1 (length bs) && leb (length bs) name_limit) && every is_name_byte bs ≡ true
    so n = simp (le-leb 1 (length bs) n.from, le-leb (length bs) name_limit n.to, n.bytes)
