-- Rows of numbers, 0 for none, mark what the rows of codes mark: a name has the number 0 just if it has no code, and two names have the same number just if they have
-- the same code.
--   number_rows ps == the rows of numbers of the parts ps
-- Assumes nothing.
use Prim.Native.Nat.{ℕ, zero, suc, ◌+◌, ◌≤◌, ◌<◌}
use native.Mathlib.Omega.{arith}
use mathlib.Core.Path.{◌≡◌, refl, sym, ap, ap₂, ◌∙◌}
use mathlib.Core.Bool.{Bool, true, false, cond, not, ◌||◌, ◌&&◌}
use mathlib.Core.List.{List, [], ◌∷◌, ◌++◌, map, map-map, Memᴰ}
use borrow.Author.Tests.{eqb-true}
use lib.Dec.{eqb, leb}
use lib.ListN.{length, take, drop, get_or, length-map}
use Rattle.std.specs.List.{count_by}
use Rattle.std.specs.Option.{unwrap_or, option_eq, is_some}
use Rattle.std.proofs.Common.{Option, Some, None, inl}
use Rattle.std.proofs.lemmas.List.Sums.{sum_by-cons}
use Rattle.least.specs.Lists.{pad}
use Rattle.least.proofs.Lists.{map_same}
use Rattle.least.proofs.Pad.{pad_over}
use Rattle.refusal.specs.Limits.{lock_limit}
use Rattle.text.specs.Bytes.{among}
use Rattle.fields.specs.Fields.{is_name}
use Rattle.codes.specs.Code.Codes.{code_of, code_if}
use Rattle.codes.proofs.Codes.{code_positive, code_named, code_unnamed, code_of_length}
use Rattle.plan_file.specs.declared.Names.{Names}
use Rattle.plan_file.specs.Above.{FilePart, no_part, lock_names}
use Rattle.plan_file.specs.Numbers.{is_shared_in}
use Rattle.plan_file.specs.Code.Entries.{names_of}
use Rattle.plan_file.proofs.Fine.{AllFine}
use Rattle.sharing.specs.Code.Sharing.{row_of, names_it, code_shared, marks_at, code_or0, number_row, numbers_of, codes_over, has_number, number_shared, marks_by_number, code_of_number}
use Rattle.sharing.proofs.Filled.{pad_map}
use Rattle.sharing.proofs.Named.{names_it_among, shared_by_number, marks_are}

-- no number of a name is 0
not_0 : (n : List ℕ) → is_name n ≡ true → eqb (code_of n) 0 ≡ false
not_0 n good = go (eqb (code_of n) 0) refl
  where
    go : (b : Bool) → eqb (code_of n) 0 ≡ b → eqb (code_of n) 0 ≡ false
    go true e = absurd (omega (arith, eqb-true _ _ e, code_positive n good))
    go false e = e

0_not : (n : List ℕ) → is_name n ≡ true → eqb 0 (code_of n) ≡ false
0_not n good = go (eqb 0 (code_of n)) refl
  where
    go : (b : Bool) → eqb 0 (code_of n) ≡ b → eqb 0 (code_of n) ≡ false
    go true e = absurd (omega (arith, eqb-true _ _ e, code_positive n good))
    go false e = e

pub number_code_of_name : (n : List ℕ) → code_of_number (code_or0 n) ≡ code_if n
number_code_of_name n = go (is_name n) refl
  where
    go : (b : Bool) → is_name n ≡ b → code_of_number (code_or0 n) ≡ code_if n
    go true e = rw (code_named n e) (ap (λ (b : Bool). cond b None (Some (code_of n))) (not_0 n e))
    go false e = rw (code_unnamed n e) refl

some_number : (n : List ℕ) → not (eqb (code_or0 n) 0) ≡ is_some (code_if n)
some_number n = go (is_name n) refl
  where
    go : (b : Bool) → is_name n ≡ b → not (eqb (code_or0 n) 0) ≡ is_some (code_if n)
    go true e = rw (code_named n e) (ap not (not_0 n e))
    go false e = rw (code_unnamed n e) refl

same_number : (n m : List ℕ) → eqb (code_or0 n) (code_or0 m) ≡ option_eq eqb (code_if n) (code_if m)
same_number n m = go (is_name n) (is_name m) refl refl
  where
    go : (b c : Bool) → is_name n ≡ b → is_name m ≡ c → eqb (code_or0 n) (code_or0 m) ≡ option_eq eqb (code_if n) (code_if m)
    go true true e f = rw (code_named n e, code_named m f) refl
    go true false e f = rw (code_named n e, code_unnamed m f) (not_0 n e)
    go false true e f = rw (code_unnamed n e, code_named m f) (0_not m f)
    go false false e f = rw (code_unnamed n e, code_unnamed m f) refl

-- a place that is left has the number, and the code, of no bytes
no_code : code_if [] ≡ None
no_code = code_of_length [] (inl (omega arith))

numbers_padded : (names : List (List ℕ)) → number_row names ≡ map code_or0 (pad lock_limit [] names)
unfolding number_row
numbers_padded names = ap (λ o. pad lock_limit (unwrap_or o 0) (map code_or0 names)) (sym no_code) ∙ pad_map code_or0 lock_limit [] names

codes_padded : (names : List (List ℕ)) → row_of names ≡ map code_if (pad lock_limit [] names)
unfolding row_of
codes_padded names = ap (λ o. pad lock_limit o (map code_if names)) (sym no_code) ∙ pad_map code_if lock_limit [] names

pub codes_of_row : (names : List (List ℕ)) → map code_of_number (number_row names) ≡ row_of names
codes_of_row names =
    let all = pad lock_limit [] names in
    ap (map code_of_number) (numbers_padded names) ∙ map-map code_of_number code_or0 all ∙ map_same _ code_if all (λ n m. number_code_of_name n) ∙ sym (codes_padded names)

-- over places in which no number stands, the numbers of a part's names are the row of the part
pub over_none : (s : List ℕ) (ns : Names) → ns.count ≤ lock_limit → length (names_of s ns) ≡ ns.count → codes_over s ns (pad lock_limit 0 []) ≡ numbers_of s ns
unfolding number_row
over_none s ns few all =
    let codes = map code_or0 (names_of s ns) in
    let size : length codes ≡ ns.count = length-map (names_of s ns) code_or0 ∙ all in
    ap (λ (n : ℕ). codes ++ drop n (pad lock_limit 0 [])) (sym size) ∙ pad_over lock_limit 0 codes (omega (arith, size, few))

named_by_number : (m : List ℕ) (ns : List (List ℕ)) → has_number (code_or0 m) (map code_or0 ns) ≡ names_it (code_if m) (map code_if ns)
named_by_number m [] = refl
named_by_number m (n ∷ ns) = ap₂ ◌||◌ (same_number n m) (named_by_number m ns)

pub has_number_names_it : (m : List ℕ) (names : List (List ℕ)) → has_number (code_or0 m) (number_row names) ≡ names_it (code_if m) (row_of names)
has_number_names_it m names =
    ap (has_number (code_or0 m)) (numbers_padded names) ∙ named_by_number m (pad lock_limit [] names) ∙ ap (names_it (code_if m)) (sym (codes_padded names))

-- rows of which as many pass
count_same : {A B C : Type 0} (f : B → Bool) (g : C → Bool) (h : A → B) (i : A → C) → ((x : A) → f (h x) ≡ g (i x)) → (xs : List A) → count_by f (map h xs) ≡ count_by g (map i xs)
count_same f g h i same [] = refl
count_same f g h i same (x ∷ xs) =
    sum_by-cons (λ y. cond (f y) 1 0) (h x) (map h xs) ∙ ap₂ (λ (b : Bool) (n : ℕ). cond b 1 0 + n) (same x) (count_same f g h i same xs) ∙ sym (sum_by-cons (λ y. cond (g y) 1 0) (i x) (map i xs))

-- of parts of any kind, by the names of their locks
module _ {A : Type 0} (names : A → List (List ℕ)) (parts : List A) where
  abbrev numbers : List (List ℕ)
  numbers = map (λ p. number_row (names p)) parts

  abbrev codes : List (List (Option ℕ))
  codes = map (λ p. row_of (names p)) parts

  pub number_shared_code_shared : (m : List ℕ) → number_shared numbers (code_or0 m) ≡ code_shared codes (code_if m)
  number_shared_code_shared m =
      ap₂ (λ (b : Bool) (n : ℕ). b && leb 2 n) (some_number m) (count_same _ _ (λ p. number_row (names p)) (λ p. row_of (names p)) (λ p. has_number_names_it m (names p)) parts)

  pub marks_by_number_marks_at : (k : ℕ) → marks_by_number numbers k ≡ marks_at codes k
  marks_by_number_marks_at k = go parts k
    where
      test : List ℕ → Bool
      test m = number_shared numbers (code_or0 m)

      go : (ps : List A) (k : ℕ) → map (number_shared numbers) (get_or (map (λ p. number_row (names p)) ps) k []) ≡ map (code_shared codes) (get_or (map (λ p. row_of (names p)) ps) k [])
      go [] k = refl
      go (p ∷ ps) zero =
          let all = pad lock_limit [] (names p) in
          ap (map (number_shared numbers)) (numbers_padded (names p)) ∙ map-map (number_shared numbers) code_or0 all
          ∙ map_same (λ m. number_shared numbers (code_or0 m)) (λ m. code_shared codes (code_if m)) all (λ m q. number_shared_code_shared m)
          ∙ sym (map-map (code_shared codes) code_if all)
          ∙ ap (map (code_shared codes)) (sym (codes_padded (names p)))
      go (p ∷ ps) (suc k) = go ps k

-- so a lock is shared by its number just if it is shared by its name
pub has_number_among : (name : List ℕ) → is_name name ≡ true → (names : List (List ℕ)) → ((n : List ℕ) → Memᴰ n names → is_name n ≡ true) → length names ≤ lock_limit → has_number (code_or0 name) (number_row names) ≡ among name names
has_number_among name is names good few = has_number_names_it name names ∙ names_it_among name is names good few

abbrev pub number_rows : List FilePart → List (List ℕ)
number_rows ps = map (λ p. number_row (lock_names p)) ps

pub number_shared_by_name : (name : List ℕ) → is_name name ≡ true → (ps : List FilePart) → AllFine ps → number_shared (number_rows ps) (code_or0 name) ≡ is_shared_in ps name
number_shared_by_name name is ps fine = number_shared_code_shared lock_names ps name ∙ shared_by_number name is ps fine

pub marks_by_number_are : (ps : List FilePart) → AllFine ps → (k : ℕ) → k < length ps → let names = lock_names (get_or ps k no_part) in take (length names) (marks_by_number (number_rows ps) k) ≡ map (is_shared_in ps) names
marks_by_number_are ps fine k h = ap (take (length (lock_names (get_or ps k no_part)))) (marks_by_number_marks_at lock_names ps k) ∙ marks_are ps fine k h
