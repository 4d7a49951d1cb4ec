-- The laws of names: the place of one among others, and how many a struct `Names` holds.
-- Assumes nothing.
use Prim.Native.Nat.compare
use Prim.Native.Nat.{ℕ, suc, ◌≤◌}
use native.Mathlib.Numerals.{add-one}
use native.Mathlib.Omega.{arith}
use mathlib.Core.Path.{◌≡◌, refl, sym, ap, ◌∙◌}
use mathlib.Core.Bool.{Bool, true, false, cond}
use Rattle.std.proofs.Common.{Some, None, unwrap_or}
use Rattle.std.specs.List.{position, position_or_len}
use Rattle.std.proofs.lemmas.List.Recursion.{is_position_or_len}
use mathlib.Core.List.{List, [], ◌∷◌, map}
use borrow.Author.Tests.{ltb-true, ltb-false, lt-ltb, le-ltb, le-leb}
use lib.Dec.{leb, ltb}
use lib.ListN.{length, length-append, length-map}
use lib.Seq.{length-take-le}
use Rattle.least.specs.Lists.{some}
use Rattle.least.proofs.Lists.{some_pass, some_fail}
use Rattle.text.specs.Bytes.{same, among, mention}
use Rattle.text.proofs.Names.{mention_known, mention_new}
use Rattle.refusal.specs.Limits.{lock_limit}
use Rattle.stretch.specs.declared.Span.{Span}
use Rattle.stretch.specs.Stretch.{bytes_of}
use Rattle.plan_file.specs.declared.Names.{Names}
use Rattle.plan_file.specs.Code.Entries.{names_of, FineNames, place_in, place_among}

-- the place of a name that comes first, and of one that comes later
pub place_first : (name n : List ℕ) (ns : List (List ℕ)) → same name n ≡ true → place_among name (n ∷ ns) ≡ 0
unfolding place_among
place_first name n ns e = simp e

pub place_later : (name n : List ℕ) (ns : List (List ℕ)) → same name n ≡ false → place_among name (n ∷ ns) ≡ suc (place_among name ns)
unfolding place_among
place_later name n ns e = simp e

pub place_none : (name : List ℕ) → place_among name [] ≡ 0
unfolding place_among
place_none name = refl

pub place_most : (name : List ℕ) (names : List (List ℕ)) → place_among name names ≤ length names
place_most name [] = omega (arith, place_none name)
place_most name (n ∷ ns) = go (same name n) refl (place_most name ns)
  where
    go : (b : Bool) → same name n ≡ b → place_among name ns ≤ length ns → place_among name (n ∷ ns) ≤ suc (length ns)
    go true e ih = omega (arith, place_first name n ns e)
    go false e ih = omega (arith, place_later name n ns e)

-- a name is among others just if its place is below their count
pub among_place : (name : List ℕ) (names : List (List ℕ)) → among name names ≡ ltb (place_among name names) (length names)
unfolding among some
among_place name [] = sym (le-ltb (place_among name []) 0 (omega arith))
among_place name (n ∷ ns) = go (same name n) refl (among_place name ns)
  where
    go : (b : Bool) → same name n ≡ b → among name ns ≡ ltb (place_among name ns) (length ns) → among name (n ∷ ns) ≡ ltb (place_among name (n ∷ ns)) (suc (length ns))
    go true e ih = some_pass (same name) n ns e ∙ sym (lt-ltb (place_among name (n ∷ ns)) (suc (length ns)) (omega (arith, place_first name n ns e)))
    go false e ih = some_fail (same name) n ns e ∙ ih ∙ rw (place_later name n ns e, compare.suc-suc) refl

-- the place that a search finds
among_or_len : (name : List ℕ) (names : List (List ℕ)) → place_among name names ≡ position_or_len (same name) names
unfolding place_among
among_or_len name names = is_position_or_len (place_among name) (same name) refl (λ x xs. ap (λ (k : ℕ). cond (same name x) 0 k) (omega arith)) names

pub place_in_is : (name : List ℕ) (names : List (List ℕ)) → place_in name names ≡ cond (among name names) (Some (place_among name names)) None
place_in_is name names = rw (among_place name names, among_or_len name names) refl

pub place_or_count : (name : List ℕ) (names : List (List ℕ)) → unwrap_or (place_in name names) (length names) ≡ place_among name names
place_or_count name names = rw place_in_is (go (among name names) refl)
  where
    go : (b : Bool) → among name names ≡ b → unwrap_or (cond (among name names) (Some (place_among name names)) None) (length names) ≡ place_among name names
    go true e = simp e
    go false e = simp e (omega (arith, place_most name names, ltb-false (place_among name names) (length names) (sym (among_place name names) ∙ e)))

-- a search among stretches is one among their bytes
len_map : (s name : List ℕ) (qs : List Span) → position_or_len (λ q. same name (bytes_of s q)) qs ≡ position_or_len (same name) (map (bytes_of s) qs)
len_map s name [] = refl
len_map s name (q ∷ qs) = simp (len_map s name qs)

pub place_map : (s name : List ℕ) (qs : List Span) → position (λ q. same name (bytes_of s q)) qs ≡ place_in name (map (bytes_of s) qs)
place_map s name qs = rw (len_map s name qs, length-map) refl

-- question 9 of a lock, by the place of its name
pub mention_limit : (names : List (List ℕ)) (name : List ℕ) → length names ≤ lock_limit → leb (length (mention names name)) lock_limit ≡ ltb (place_among name names) lock_limit
mention_limit names name h = go (among name names) refl
  where
    go : (b : Bool) → among name names ≡ b → leb (length (mention names name)) lock_limit ≡ ltb (place_among name names) lock_limit
    go true e =
        let p = ltb-true (place_among name names) (length names) (sym (among_place name names) ∙ e) in
        rw (mention_known name names e) (le-leb (length names) lock_limit h ∙ sym (lt-ltb (place_among name names) lock_limit (omega arith)))
    go false e =
        let p = ltb-false (place_among name names) (length names) (sym (among_place name names) ∙ e) in
        let q : place_among name names ≡ length names = omega (arith, place_most name names) in
        rw (mention_new name names e, length-append, add-one, q) refl

pub names_length : (s : List ℕ) (ns : Names) → FineNames ns → length (names_of s ns) ≡ ns.count
unfolding names_of
names_length s ns f = simp length-map (length-take-le ns.count ns.span (omega arith))
