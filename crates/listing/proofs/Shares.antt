-- The listing, part by part: the load line first, then the lines of one share after another.
-- Assumes nothing.
use Prim.Native.Nat.{ℕ, zero, suc, ◌+◌, ◌≤◌, ◌<◌}
use native.Mathlib.Numerals.{add-one}
use native.Mathlib.Omega.{arith}
use mathlib.Core.Path.{◌≡◌, refl, sym, ap, subst, ◌∙◌}
use mathlib.Core.Bool.{Bool, true, false}
use mathlib.Core.List.{List, [], ◌∷◌, ◌++◌, map, append-nil}
use lib.ListN.{length, take, drop, get_or, length-append}
use lib.Seq.{drop-cons}
use Rattle.least.specs.Lists.{nth_or, those, joined, first_from, first_of}
use Rattle.least.specs.Fraction.{at_most, greatest_of}
use Rattle.least.proofs.Lists.{those_pass, those_fail, nth_get, FirstAt, first_at}
use Rattle.listing.specs.Listing.{Share, share_lines, load_line, load_share, listing_of}

module _ {A : Type 0} (test : A → Bool) (d : A) where
  first_behind : (x : A) (xs : List A) (k : ℕ) → FirstAt test (x ∷ xs) (suc (suc k)) → FirstAt test xs (suc k)
  unfolding nth_or
  first_behind x xs k f =
      record {
        some = omega arith;
        most = omega (arith, f.most);
        passes = f.passes;
        before = λ e j. before e j;
      }
    where
      before : (e : A) (j : ℕ) → 1 ≤ j → j < suc k → test (nth_or e j xs) ≡ false
      before e zero h l = absurd (omega arith)
      before e (suc j) h l = f.before e (suc (suc j)) (omega arith) (omega arith)

  one_pass : (x : A) (xs : List A) → test x ≡ true → take 1 (those test (x ∷ xs)) ≡ x ∷ []
  one_pass x xs t = ap (take 1) (those_pass test x xs t)

  one_fail : (x : A) (xs : List A) → test x ≡ false → take 1 (those test (x ∷ xs)) ≡ take 1 (those test xs)
  one_fail x xs t = ap (take 1) (those_fail test x xs t)

  -- the first of those that pass
  first_those : (xs : List A) (k : ℕ) → FirstAt test xs k → take 1 (those test xs) ≡ nth_or d k xs ∷ []
  unfolding nth_or
  first_those xs zero f = absurd (omega (arith, f.some))
  first_those [] (suc k) f = absurd (omega (arith, f.most))
  first_those (x ∷ xs) (suc zero) f = one_pass x xs (f.passes d)
  first_those (x ∷ xs) (suc (suc k)) f = one_fail x xs (f.before d 1 (omega arith) (omega arith)) ∙ first_those xs (suc k) (first_behind x xs k f)

first_map : {A B : Type 0} (f : A → B) (test : B → Bool) (i : ℕ) (xs : List A) → first_from i test (map f xs) ≡ first_from i (λ x. test (f x)) xs
unfolding first_from
first_map f test i [] = refl
first_map {A} {B} f test i (x ∷ xs) = go (test (f x)) refl (first_map f test (suc i) xs)
  where
    go : (b : Bool) → test (f x) ≡ b → first_from (suc i) test (map f xs) ≡ first_from (suc i) (λ y. test (f y)) xs
        → first_from i test (map f (x ∷ xs)) ≡ first_from i (λ y. test (f y)) (x ∷ xs)
    go true t ih = rw (t, first_from) refl
    go false t ih = rw (t, first_from) ih

-- the load line is that of the share at the place j, where the first bound that reaches the load stands
pub load_share_lem : (shares : List Share) (d : Share) (j : ℕ)
    → first_of (at_most (greatest_of (map (λ s. s.bound) shares))) (map (λ s. s.bound) shares) ≡ suc j → load_share shares ≡ get_or shares j d ∷ []
unfolding load_share
load_share_lem shares d j e =
    let test : Share → Bool = λ s. at_most (greatest_of (map (λ s. s.bound) shares)) s.bound in
    let k : first_of test shares ≡ suc j = sym (first_map (λ s. s.bound) (at_most (greatest_of (map (λ s. s.bound) shares))) 1 shares) ∙ e in
    first_those test d shares (suc j) (subst (FirstAt test shares) k (first_at test shares (omega (arith, k))))
    ∙ ap (λ (s : Share). s ∷ []) (nth_get d j shares)

module _ (shares : List Share) (d : Share) where
  -- the lines of the shares from the place i on
  abbrev pub shares_from : ℕ → List ℕ
  shares_from i = joined (map share_lines (drop i shares))

  pub listing_pieces : (j : ℕ) → load_share shares ≡ get_or shares j d ∷ [] → listing_of shares ≡ load_line (get_or shares j d) ++ shares_from 0
  unfolding listing_of joined
  listing_pieces j e =
      ap (λ (l : List Share). joined (map load_line l) ++ shares_from 0) e ∙ ap (λ (l : List ℕ). l ++ shares_from 0) (append-nil (load_line (get_or shares j d)))

  pub shares_more : (i : ℕ) → i < length shares → shares_from i ≡ share_lines (get_or shares i d) ++ shares_from (i + 1)
  unfolding joined
  shares_more i h =
      ap (λ (l : List Share). joined (map share_lines l)) (drop-cons shares i d h)
      ∙ ap (λ (k : ℕ). share_lines (get_or shares i d) ++ shares_from k) (sym (add-one i))

  -- the length of the listing, measured part by part
  pub listing_length : (j : ℕ) → load_share shares ≡ get_or shares j d ∷ [] → length (listing_of shares) ≡ length (load_line (get_or shares j d)) + length (shares_from 0)
  listing_length j e = ap length (listing_pieces j e) ∙ length-append (load_line (get_or shares j d)) (shares_from 0)
