-- The laws of `line_at`, one byte after another: what it says of the rest of a line of which some tabs have been passed.
-- Assumes nothing.
use Prim.Native.Nat.{ℕ, suc, ◌+◌, ◌≤◌, ◌<◌, min}
use native.Mathlib.Nat.{add-suc, suc-add, add-zero}
use native.Mathlib.Numerals.{add-one}
use native.Mathlib.Omega.{arith}
use mathlib.Core.Path.{◌≡◌, refl, ap}
use mathlib.Core.Bool.{true, false, cond, ◌&&◌, and-false}
use mathlib.Core.List.{List, [], ◌∷◌, ◌++◌, append_assoc, append-nil}
use borrow.Author.Tests.{eq-eqb, ne_eqb, leb-true}
use lib.Dec.{leb, eqb}
use lib.ListN.{length, drop, length-append, set, get_or, drop_of_length-le}
use lib.Seq.{drop-cons}
use Rattle.least.specs.Lists.{numbers_from, pad}
use Rattle.least.proofs.Lists.{and_iff, every_none, every_pass, every_fail}
use Rattle.least.proofs.Numbers.{numbers_pass, numbers_fail}
use Rattle.least.proofs.Pad.{set_pad, pad_full}
use Rattle.scan.specs.declared.Tabs.{Tabs}
use Rattle.scan.specs.declared.Scanned.{Scanned}
use Rattle.scan.specs.Line.{is_allowed, line_is_good}
use Rattle.scan.specs.Scan.{is_tab}
use Rattle.scan.specs.Positions.{body_of, is_ended, first_line, tabs_from, first_five, line_at}

abbrev pub good_at : ℕ → Tabs → Scanned
good_at i t = record { good = true; end = i; tabs = t }

abbrev pub not_good : Scanned
not_good = record { good = false; end = 0; tabs = first_five [] }

-- the line whose rest begins at i, after the tabs ts
unfoldable pub line_from : List ℕ → ℕ → List ℕ → Scanned
line_from rest i ts = cond (line_is_good (first_line rest)) (good_at (i + length (body_of rest)) (first_five (ts ++ tabs_from (body_of rest) i))) not_good

pub from_start : (s : List ℕ) (at : ℕ) → line_at s at ≡ line_from (drop at s) at []
unfolding line_at line_from
from_start s at = refl

-- by the first byte of the rest: none, byte 10, one that is not allowed, a tab, another one
from_end : (i : ℕ) (ts : List ℕ) → line_from [] i ts ≡ not_good
unfolding line_from line_is_good is_ended
from_end i ts = refl

from_newline : (b : ℕ) (bs : List ℕ) (i : ℕ) (ts : List ℕ) → b ≡ 10 → line_from (b ∷ bs) i ts ≡ good_at i (first_five ts)
unfolding line_from line_is_good is_ended body_of numbers_from
from_newline b bs i ts e = simp (eq-eqb b 10 e, every_none is_allowed, append-nil, add-zero)

from_forbidden : (b : ℕ) (bs : List ℕ) (i : ℕ) (ts : List ℕ) → (b ≡ 10 → ⊥) → is_allowed b ≡ false → line_from (b ∷ bs) i ts ≡ not_good
unfolding line_from line_is_good is_ended body_of
from_forbidden b bs i ts n a = simp (ne_eqb b 10 n, every_fail is_allowed b (body_of bs) a, and-false)

from_tab : (b : ℕ) (bs : List ℕ) (i : ℕ) (ts : List ℕ) → b ≡ 9 → line_from (b ∷ bs) i ts ≡ line_from bs (suc i) (ts ++ i ∷ [])
unfolding line_from line_is_good is_ended body_of is_allowed is_tab
from_tab b bs i ts e =
    let n : eqb b 10 ≡ false = ne_eqb b 10 (λ q. absurd (omega (arith, e, q))) in
    simp (n, every_pass is_allowed b (body_of bs) (simp (eq-eqb b 9 e)), numbers_pass is_tab i b (body_of bs) (eq-eqb b 9 e), add-suc, suc-add, append_assoc)

from_plain : (b : ℕ) (bs : List ℕ) (i : ℕ) (ts : List ℕ) → 33 ≤ b → is_allowed b ≡ true → line_from (b ∷ bs) i ts ≡ line_from bs (suc i) ts
unfolding line_from line_is_good is_ended body_of is_tab
from_plain b bs i ts l a =
    let n : eqb b 10 ≡ false = ne_eqb b 10 (λ q. absurd (omega (arith, l, q))) in
    let m : eqb b 9 ≡ false = ne_eqb b 9 (λ q. absurd (omega (arith, l, q))) in
    simp (n, every_pass is_allowed b (body_of bs) a, numbers_fail is_tab i b (body_of bs) m, add-suc, suc-add)

-- one tab more: stored where there is room for it, else left out
module _ (count : ℕ) (place ts : List ℕ) (i : ℕ) (five : record { count = count; place = place } ≡ first_five ts) where
  counted : count ≡ min 5 (length ts)
  unfolding first_five
  counted = ap (λ (t : Tabs). t.count) five

  placed : place ≡ pad 5 0 ts
  unfolding first_five
  placed = ap (λ (t : Tabs). t.place) five

  pub five_stored : count < 5 → record { count = count + 1; place = set place count i } ≡ first_five (ts ++ i ∷ [])
  unfolding first_five
  five_stored h =
      let n : count ≡ length ts = omega (arith, counted) in
      let m : min 5 (length (ts ++ i ∷ [])) ≡ count + 1 = simp length-append (omega (arith, n)) in
      simp (m, placed, n, set_pad 5 0 ts i (rw n at h))

  pub five_full : 5 ≤ count → record { count = count; place = place } ≡ first_five (ts ++ i ∷ [])
  unfolding first_five
  five_full h =
      let m : min 5 (length (ts ++ i ∷ [])) ≡ count = simp length-append (omega (arith, counted)) in
      simp (m, placed, pad_full 5 0 ts (i ∷ []) (omega (arith, counted)))

-- the same at a position of the file
module _ (s : List ℕ) (i : ℕ) (ts : List ℕ) (h : i < length s) where
  pub at_newline : get_or s i 0 ≡ 10 → line_from (drop i s) i ts ≡ good_at i (first_five ts)
  at_newline e = rw (drop-cons s i 0 h) (from_newline _ _ _ _ e)

  pub at_plain : leb 33 (get_or s i 0) && leb (get_or s i 0) 126 ≡ true → line_from (drop i s) i ts ≡ line_from (drop (i + 1) s) (i + 1) ts
  unfolding is_allowed
  at_plain e =
      let l : 33 ≤ get_or s i 0 = leb-true 33 _ ((and_iff _ _).0 e).0 in
      let n : eqb (get_or s i 0) 9 ≡ false = ne_eqb (get_or s i 0) 9 (λ q. absurd (omega (arith, l, q))) in
      rw (drop-cons s i 0 h, add-one) (from_plain _ _ _ _ l (simp (n, e)))

  pub at_tab : get_or s i 0 ≡ 9 → line_from (drop i s) i ts ≡ line_from (drop (i + 1) s) (i + 1) (ts ++ i ∷ [])
  at_tab e = rw (drop-cons s i 0 h, add-one) (from_tab _ _ _ _ e)

  pub at_forbidden : leb 33 (get_or s i 0) && leb (get_or s i 0) 126 ≡ false → (get_or s i 0 ≡ 9 → ⊥) → (get_or s i 0 ≡ 10 → ⊥) → line_from (drop i s) i ts ≡ not_good
  unfolding is_allowed
  at_forbidden p m n = rw (drop-cons s i 0 h) (from_forbidden _ _ _ _ n (simp (ne_eqb _ 9 m, p)))

pub at_end : (s : List ℕ) (i : ℕ) (ts : List ℕ) → length s ≤ i → line_from (drop i s) i ts ≡ not_good
at_end s i ts h = rw (drop_of_length-le s h) (from_end i ts)
