-- An array filled place by place with what a function gives of a list, the other places as they were at first.
-- Assumes nothing.
use Prim.Native.Nat.{ℕ, zero, suc, ◌+◌, ◌≤◌, ◌<◌}
use native.Mathlib.Numerals.{add-one}
use native.Mathlib.Omega.{arith}
use mathlib.Core.Path.{◌≡◌, refl, sym, ap, ap₂, ◌∙◌}
use mathlib.Core.List.{List, [], ◌∷◌, ◌++◌, map, append_assoc}
use lib.ListN.{length, take, drop, get_or, set, length-map}
use lib.Seq.{take_all, take-suc, drop-cons, length-take-le, set-append_seam}
use Rattle.least.specs.Lists.{pad}
use Rattle.least.proofs.Pad.{length_pad, pad_next, take_pad}
use Rattle.least.proofs.Places.{get-map}

module _ {A B : Type 0} (f : A → B) (n : ℕ) (z : B) (xs : List A) (fits : length xs ≤ n) where
  pub filled_next : (i : ℕ) (d : A) (before : List B) (x : B) → before ≡ pad n z (take i (map f xs)) → i < length xs → x ≡ f (get_or xs i d) → set before i x ≡ pad n z (take (i + 1) (map f xs))
  filled_next i d before x e h is = rw e (pad_next n z (map f xs) i x z (rw (length-map xs f) h) (omega arith) (is ∙ sym (get-map f xs i d z h)))

  pub filled_all : (i : ℕ) (after : List B) → after ≡ pad n z (take i (map f xs)) → length xs ≤ i → after ≡ pad n z (map f xs)
  filled_all i after e h = e ∙ ap (pad n z) (take_all i (map f xs) (rw (length-map xs f) h))

-- the same over what stood in the places
pub over_next : {A B : Type 0} (f : A → B) (xs : List A) (row : List B) (i : ℕ) (d : A) (x z : B) → i < length xs → i < length row → x ≡ f (get_or xs i d)
    → set (take i (map f xs) ++ drop i row) i x ≡ take (i + 1) (map f xs) ++ drop (i + 1) row
over_next {A} {B} f xs row i d x z h l is =
    let ys = map f xs in
    let m : i < length ys = rw (length-map xs f) h in
    let n : length (take i ys) ≡ i = length-take-le i ys (omega arith) in
    rw (add-one i)
    (ap₂ (λ (r : List B) (k : ℕ). set (take i ys ++ r) k x) (drop-cons row i z l) (sym n)
    ∙ set-append_seam (take i ys) (get_or row i z) (drop (suc i) row) x
    ∙ ap (λ (y : B). take i ys ++ (y ∷ drop (suc i) row)) (is ∙ sym (get-map f xs i d z h))
    ∙ sym (append_assoc (take i ys) (get_or ys i z ∷ []) (drop (suc i) row))
    ∙ ap (λ (front : List B). front ++ drop (suc i) row) (sym (take-suc ys i z m)))

-- what a function gives of the elements and of the filler
pub pad_map : {A B : Type 0} (f : A → B) (n : ℕ) (z : A) (xs : List A) → pad n (f z) (map f xs) ≡ map f (pad n z xs)
unfolding pad
pad_map f zero z xs = refl
pad_map f (suc n) z [] = ap (λ (ys : List _). f z ∷ ys) (pad_map f n z [])
pad_map f (suc n) z (x ∷ xs) = ap (λ (ys : List _). f x ∷ ys) (pad_map f n z xs)

-- a list that leaves no place
pub pad_whole : {A : Type 0} (n : ℕ) (z : A) (xs : List A) → length xs ≡ n → pad n z xs ≡ xs
pad_whole n z xs e = sym (take_all n (pad n z xs) (omega (arith, length_pad n z xs))) ∙ rw (← e) (take_pad (length xs) z xs (omega arith))
