-- The laws of a number field that is read byte by byte.
--   number_from v bs == the number whose digits so far spell v, and of which bs is left
-- Assumes nothing.
use Prim.Native.Nat.{ℕ, suc, ◌+◌, ◌-◌, ◌*◌, ◌≤◌, ◌<◌}
use native.Mathlib.Nat.{le_refl, le_trans}
use native.Mathlib.Numerals.{add-one}
use native.Mathlib.Omega.{arith}
use mathlib.Core.Path.{◌≡◌, refl}
use mathlib.Core.Bool.{Bool, true, false, cond, ◌&&◌, and-false, and-true}
use mathlib.Core.List.{List, [], ◌∷◌}
use borrow.Author.Tests.{eq-eqb, ne_eqb, leb-true, le-leb, lt-leb}
use lib.Dec.{leb}
use lib.ListN.{length, drop, get_or, drop_of_length-le}
use lib.Seq.{drop-cons}
use Rattle.least.specs.Lists.{every}
use Rattle.least.proofs.Lists.{and_iff, every_none, every_pass, every_fail}
use Rattle.text.specs.Decimal.{is_digit, value_after}
use Rattle.refusal.specs.Limits.{number_limit}
use Rattle.std.specs.Prelude.{Option, Some, None, slice_get}
use Rattle.fields.specs.Fields.{leading_zero, is_number}
use Rattle.fields.specs.Code.Fields.{number_in}

unfoldable pub number_from : ℕ → List ℕ → Option ℕ
number_from v bs = cond (every is_digit bs && leb (value_after v bs) number_limit) (Some (value_after v bs)) None

-- reading on makes no number smaller
value_grows : (v : ℕ) (bs : List ℕ) → v ≤ value_after v bs
unfolding value_after
value_grows v [] = le_refl v
value_grows v (b ∷ bs) = le_trans (omega arith) (value_grows (v * 10 + (b - 48)) bs)

-- a field that does not begin with 0 is read digit by digit; an empty one, and one that begins with 0, is malformed
pub number_start : (s : List ℕ) (d : ℕ) → slice_get s 0 ≡ Some d → (d ≡ 48 → ⊥) → number_in s ≡ number_from 0 s
unfolding number_in number_from is_number leading_zero value_after is_digit
number_start [] d e h = cc
number_start (b ∷ bs) d f h = go (is_digit b) refl
  where
    go : (t : Bool) → is_digit b ≡ t → number_in (b ∷ bs) ≡ number_from 0 (b ∷ bs)
    go true e =
        let n : b ≡ 48 → ⊥ = λ z. h (let w : Some b ≡ Some d = f in cc) in
        let l : 48 ≤ b = leb-true 48 b ((and_iff (leb 48 b) (leb b 57)).0 e).0 in
        let v : 1 ≤ value_after (0 * 10 + (b - 48)) bs = le_trans (omega arith) (value_grows (0 * 10 + (b - 48)) bs) in
        simp (ne_eqb b 48 n, le-leb 1 (value_after (0 * 10 + (b - 48)) bs) v, and-true)
    go false e = simp (every_fail is_digit b bs e)

pub number_empty : (s : List ℕ) → slice_get s 0 ≡ None → number_in s ≡ None
unfolding number_in is_number leading_zero value_after
number_empty [] h = simp (every_none is_digit)
number_empty (b ∷ bs) h = cc

pub number_zero : (s : List ℕ) → slice_get s 0 ≡ Some 48 → number_in s ≡ None
unfolding number_in is_number leading_zero
number_zero [] h = cc
number_zero (b ∷ bs) h = simp (eq-eqb b 48 (cc), and-false)

-- a number once past the limit is malformed, whatever follows
pub number_large : (v : ℕ) (bs : List ℕ) → number_limit < v → number_from v bs ≡ None
unfolding number_from
number_large v bs h = simp (lt-leb (value_after v bs) number_limit (le_trans h (value_grows v bs)), and-false)

-- by the next byte: a digit, another byte, none
module _ (s : List ℕ) (i v : ℕ) where
  pub number_more : i < length s → is_digit (get_or s i 0) ≡ true → number_from v (drop i s) ≡ number_from (v * 10 + (get_or s i 0 - 48)) (drop (i + 1) s)
  unfolding number_from value_after
  number_more h e = rw (drop-cons s i 0 h, add-one) (simp (every_pass is_digit (get_or s i 0) (drop (suc i) s) e))

  pub number_not : i < length s → is_digit (get_or s i 0) ≡ false → number_from v (drop i s) ≡ None
  unfolding number_from
  number_not h e = rw (drop-cons s i 0 h) (simp (every_fail is_digit (get_or s i 0) (drop (suc i) s) e))

  pub number_end : length s ≤ i → v ≤ number_limit → number_from v (drop i s) ≡ Some v
  unfolding number_from value_after
  number_end h g = rw (drop_of_length-le s h) (simp (every_none is_digit, le-leb _ _ g))
