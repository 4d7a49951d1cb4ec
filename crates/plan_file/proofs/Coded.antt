-- Names as numbers: a search among the numbers finds the place of the name, and one name more keeps them so.
-- Assumes nothing.
use Prim.Native.Nat.{ℕ, ◌+◌, ◌<◌}
use native.Mathlib.Omega.{arith}
use native.Mathlib.Numerals.{add-one}
use mathlib.Core.Path.{◌≡◌, refl, sym, ap, subst, ◌∙◌}
use mathlib.Core.Bool.{Bool, true, false, false≢true}
use mathlib.Core.List.{List, [], ◌∷◌, ◌++◌, map, map-append}
use lib.ListN.{length, take, set, length-set, length-map}
use lib.Dec.{eqb}
use borrow.Author.Tests.{eq-eqb, ne_eqb}
use Rattle.std.specs.List.{position_or_len}
use Rattle.std.proofs.Common.{unwrap_or}
use lib.Seq.{take-suc-set}
use Rattle.least.specs.Lists.{every}
use Rattle.least.proofs.Lists.{every_none, every_cons, every_snoc}
use Rattle.text.specs.Bytes.{same}
use Rattle.text.proofs.Bytes.{same_refl, same_true}
use Rattle.stretch.specs.declared.Span.{Span}
use Rattle.stretch.specs.Stretch.{bytes_of}
use Rattle.fields.specs.Fields.{is_name}
use Rattle.codes.specs.Code.Codes.{code_of, place_of}
use Rattle.codes.proofs.Codes.{code_injective}
use Rattle.plan_file.specs.declared.Names.{Names}
use Rattle.plan_file.specs.Code.Entries.{no_names, names_of, FineNames, NumbersOf, place_in, place_among, with_name}
use Rattle.plan_file.proofs.Places.{names_length, place_or_count}
use Rattle.plan_file.proofs.SeenNames.{names_with, no_names_lem}

-- the place of a name is that of its number
place_same : (name : List ℕ) (ns : List (List ℕ)) → is_name name ≡ true → every is_name ns ≡ true → position_or_len (λ c. eqb c (code_of name)) (map code_of ns) ≡ position_or_len (same name) ns
place_same name [] g h = refl
place_same name (n ∷ ns) g h = go (same name n) refl (place_same name ns g (every_cons is_name n ns h).1)
  where
    other : same name n ≡ false → code_of n ≡ code_of name → ⊥
    other e q =
        let same_name : n ≡ name = code_injective n name (every_cons is_name n ns h).0 g q in
        false≢true (sym e ∙ ap (same name) same_name ∙ same_refl name)

    go : (b : Bool) → same name n ≡ b → position_or_len (λ c. eqb c (code_of name)) (map code_of ns) ≡ position_or_len (same name) ns → position_or_len (λ c. eqb c (code_of name)) (map code_of (n ∷ ns)) ≡ position_or_len (same name) (n ∷ ns)
    go true e ih = simp (e, eq-eqb (code_of n) (code_of name) (ap code_of (sym (same_true name n e))))
    go false e ih = simp (e, ne_eqb (code_of n) (code_of name) (other e), ih)

-- no names
pub numbers_none : (s codes : List ℕ) → length codes ≡ 16 → NumbersOf s no_names codes
numbers_none s codes r = record { room = r; are = ap (map code_of) (sym (no_names_lem s)); good = ap (every is_name) (no_names_lem s) ∙ every_none is_name }

module _ (s : List ℕ) (ns : Names) (codes : List ℕ) (is : NumbersOf s ns codes) where
  pub numbers_place : (name : List ℕ) → is_name name ≡ true → place_of (code_of name) (take ns.count codes) ≡ place_in name (names_of s ns)
  numbers_place name g = rw is.are (simp (place_same name (names_of s ns) g is.good, length-map))

  pub numbers_or_count : FineNames ns → (name : List ℕ) → is_name name ≡ true → unwrap_or (place_of (code_of name) (take ns.count codes)) ns.count ≡ place_among name (names_of s ns)
  numbers_or_count f name g = rw numbers_place (subst (λ (n : ℕ). unwrap_or (place_in name (names_of s ns)) n ≡ place_among name (names_of s ns)) (names_length s ns f) (place_or_count name (names_of s ns)))

  -- one name more
  pub numbers_with : (p : Span) → FineNames ns → ns.count < 16 → is_name (bytes_of s p) ≡ true → NumbersOf s (with_name ns p) (set codes ns.count (code_of (bytes_of s p)))
  unfolding with_name
  numbers_with p f h g =
      let x = code_of (bytes_of s p) in
      let names : names_of s (with_name ns p) ≡ names_of s ns ++ (bytes_of s p ∷ []) = names_with s ns p f h in
      let stored : take (ns.count + 1) (set codes ns.count x) ≡ take ns.count codes ++ (x ∷ []) = rw add-one (take-suc-set codes ns.count x (omega (arith, is.room))) in
      record {
        room = length-set codes ns.count x ∙ is.room;
        are =
            stored
            ∙ ap (λ (cs : List ℕ). cs ++ (x ∷ [])) is.are
            ∙ sym (map-append code_of (names_of s ns) (bytes_of s p ∷ []))
            ∙ ap (map code_of) (sym names);
        good = ap (every is_name) names ∙ every_snoc is_name (names_of s ns) (bytes_of s p) is.good g;
      }
