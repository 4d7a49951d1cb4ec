-- Numbers for names: a part has the number of a name just if it has the name, so as many parts have the one as the other, and a lock is shared by its number just
-- if it is shared by its name.
--   rows_of ps == the rows of the parts ps
-- Assumes nothing.
use Prim.Native.Nat.{ℕ, zero, suc, ◌+◌, ◌≤◌, ◌<◌}
use native.Mathlib.Omega.{arith}
use mathlib.Core.Path.{◌≡◌, refl, sym, ap, ap₂, ◌∙◌}
use mathlib.Core.Bool.{Bool, true, false, cond, ◌||◌, ◌&&◌}
use mathlib.Core.List.{List, [], ◌∷◌, map, map-map, Memᴰ}
use borrow.Author.Tests.{eqb-true, eq-eqb}
use lib.Dec.{eqb, leb}
use lib.ListN.{length, take, get_or, length-map}
use Rattle.std.specs.List.{count_by, list_any}
use Rattle.std.specs.Option.{option_eq, is_some}
use Rattle.std.proofs.Common.{Option, None}
use Rattle.std.proofs.lemmas.List.{take-map}
use Rattle.std.proofs.lemmas.List.Recursion.{is_count_by}
use Rattle.least.specs.Lists.{pad, some, those}
use Rattle.least.proofs.Lists.{same_test, some_pass, some_fail, those_pass, those_fail, map_same}
use Rattle.least.proofs.Members.{get_d_member}
use Rattle.least.proofs.Pad.{take_pad}
use Rattle.least.proofs.Places.{get-map}
use Rattle.refusal.specs.Limits.{lock_limit}
use Rattle.text.specs.Bytes.{same, among}
use Rattle.text.proofs.Bytes.{same_refl, same_true}
use Rattle.fields.specs.Fields.{is_name}
use Rattle.codes.specs.Code.Codes.{code_of, code_if}
use Rattle.codes.proofs.Codes.{code_named, code_injective}
use Rattle.plan_file.specs.Above.{FilePart, no_part, lock_names}
use Rattle.plan_file.specs.Numbers.{is_shared_in}
use Rattle.plan_file.proofs.Fine.{AllFine}
use Rattle.sharing.specs.Code.Sharing.{row_of, names_it, code_shared, marks_at}

-- two ways to count
counted : {A : Type 0} (test : A → Bool) (xs : List A) → count_by test xs ≡ length (those test xs)
unfolding those
counted {A} test xs = sym (is_count_by (λ ys. length (those test ys)) test refl step xs)
  where
    step : (y : A) (ys : List A) → length (those test (y ∷ ys)) ≡ cond (test y) (1 + length (those test ys)) (length (those test ys))
    step y ys = go (test y) refl
      where
        go : (b : Bool) → test y ≡ b → length (those test (y ∷ ys)) ≡ cond (test y) (1 + length (those test ys)) (length (those test ys))
        go true e = rw (those_pass test y ys e, e) (omega arith)
        go false e = rw (those_fail test y ys e, e) refl

module _ (name : List ℕ) (is : is_name name ≡ true) where
  same_number : (n : List ℕ) → is_name n ≡ true → option_eq eqb (code_if n) (code_if name) ≡ same name n
  same_number n good =
      rw (code_named n good, code_named name is)
      (same_test _ _ ((λ e. let f : n ≡ name = code_injective n name good is (eqb-true _ _ e) in rw f (same_refl name)), (λ e. eq-eqb _ _ (ap code_of (sym (same_true name n e))))))

  no_number : option_eq eqb None (code_if name) ≡ false
  no_number = rw (code_named name is) refl

  named : (k : ℕ) (names : List (List ℕ)) → ((n : List ℕ) → Memᴰ n names → is_name n ≡ true) → length names ≤ k → list_any (λ c. option_eq eqb c (code_if name)) (pad k None (map code_if names)) ≡ among name names
  unfolding pad among some
  named zero [] good few = refl
  named zero (n ∷ ns) good few = absurd (omega arith)
  named (suc k) [] good few = ap₂ ◌||◌ no_number (named k [] good (omega arith))
  named (suc k) (n ∷ ns) good few = go (same name n) refl (named k ns (λ m q. good m (Memᴰ.tail q)) (omega arith))
    where
      first : option_eq eqb (code_if n) (code_if name) ≡ same name n
      first = same_number n (good n (Memᴰ.head refl))

      go : (b : Bool) → same name n ≡ b → list_any (λ c. option_eq eqb c (code_if name)) (pad k None (map code_if ns)) ≡ among name ns → list_any (λ c. option_eq eqb c (code_if name)) (pad (suc k) None (map code_if (n ∷ ns))) ≡ among name (n ∷ ns)
      go true e ih = ap (λ (b : Bool). b || list_any (λ c. option_eq eqb c (code_if name)) (pad k None (map code_if ns))) (first ∙ e) ∙ sym (some_pass (same name) n ns e)
      go false e ih = ap (λ (b : Bool). b || list_any (λ c. option_eq eqb c (code_if name)) (pad k None (map code_if ns))) (first ∙ e) ∙ ih ∙ sym (some_fail (same name) n ns e)

pub names_it_among : (name : List ℕ) → is_name name ≡ true → (names : List (List ℕ)) → ((n : List ℕ) → Memᴰ n names → is_name n ≡ true) → length names ≤ lock_limit → names_it (code_if name) (row_of names) ≡ among name names
unfolding row_of
names_it_among name is names good few = named name is lock_limit names good few

abbrev pub rows_of : List FilePart → List (List (Option ℕ))
rows_of ps = map (λ p. row_of (lock_names p)) ps

module _ (name : List ℕ) (is : is_name name ≡ true) where
  namers_counted : (ps : List FilePart) → AllFine ps → length (those (names_it (code_if name)) (rows_of ps)) ≡ length (those (λ p. among name (lock_names p)) ps)
  unfolding those
  namers_counted [] fine = refl
  namers_counted (p ∷ ps) fine = go (among name (lock_names p)) refl (namers_counted ps (λ q m. fine q (Memᴰ.tail m)))
    where
      first : names_it (code_if name) (row_of (lock_names p)) ≡ among name (lock_names p)
      first = let f = fine p (Memᴰ.head refl) in names_it_among name is (lock_names p) f.lock_names_good f.few_locks

      go : (b : Bool) → among name (lock_names p) ≡ b → length (those (names_it (code_if name)) (rows_of ps)) ≡ length (those (λ q. among name (lock_names q)) ps) → length (those (names_it (code_if name)) (rows_of (p ∷ ps))) ≡ length (those (λ q. among name (lock_names q)) (p ∷ ps))
      go true e ih = ap length (those_pass (names_it (code_if name)) _ (rows_of ps) (first ∙ e)) ∙ ap suc ih ∙ sym (ap length (those_pass _ p ps e))
      go false e ih = ap length (those_fail (names_it (code_if name)) _ (rows_of ps) (first ∙ e)) ∙ ih ∙ sym (ap length (those_fail _ p ps e))

  pub shared_by_number : (ps : List FilePart) → AllFine ps → code_shared (rows_of ps) (code_if name) ≡ is_shared_in ps name
  unfolding is_shared_in
  shared_by_number ps fine = ap (λ (b : Bool). b && leb 2 (count_by (names_it (code_if name)) (rows_of ps))) (ap is_some (code_named name is)) ∙ ap (leb 2) (counted _ (rows_of ps) ∙ namers_counted ps fine)

-- the marks of a part's locks
pub marks_are : (ps : List FilePart) → AllFine ps → (k : ℕ) → k < length ps → let names = lock_names (get_or ps k no_part) in take (length names) (marks_at (rows_of ps) k) ≡ map (is_shared_in ps) names
unfolding row_of
marks_are ps fine k h =
    let p = get_or ps k no_part in
    let names = lock_names p in
    let m = get_d_member ps k no_part h in
    let f = fine p m in
    let test = code_shared (rows_of ps) in
    let codes = map code_if names in
    let size : length codes ≡ length names = length-map names code_if in
    let front : take (length names) (row_of names) ≡ codes = rw (← size) (take_pad lock_limit None codes (omega (arith, size, f.few_locks))) in
    take-map test (length names) _ ∙ ap (λ (row : List (Option ℕ)). map test (take (length names) row)) (get-map (λ q. row_of (lock_names q)) ps k no_part [] h) ∙ ap (map test) front ∙ map-map test code_if names
    ∙ map_same (λ n. test (code_if n)) (is_shared_in ps) names (λ n q. shared_by_number n (f.lock_names_good n q) ps fine)
