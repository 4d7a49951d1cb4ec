-- Laws of names: what stands at the place of a name, and the names that a struct `Names` holds with one more.
-- Assumes nothing.
use Prim.Native.Nat.{ℕ, ◌≤◌, ◌<◌}
use native.Mathlib.Omega.{arith}
use native.Mathlib.Numerals.{add-one}
use mathlib.Core.Path.{◌≡◌, refl, sym, ap, ap₂, ◌∙◌}
use mathlib.Core.Bool.{Bool, true, false, false≢true}
use mathlib.Core.List.{List, [], ◌∷◌, ◌++◌, map, map-append}
use borrow.Author.Tests.{eq-eqb, ne_eqb, ltb-true, ltb-false}
use lib.ListN.{length, take, set, get_or, length-set, length-append}
use lib.Seq.{take-suc-set}
use Rattle.least.proofs.Pad.{length_pad}
use Rattle.text.specs.Bytes.{same, among, mention}
use Rattle.text.proofs.Bytes.{same_true}
use Rattle.text.proofs.Names.{among_none, among-cons, mention_known, mention_new, Different, none, more}
use Rattle.stretch.specs.declared.Span.{Span}
use Rattle.stretch.specs.Stretch.{bytes_of}
use Rattle.plan_file.specs.declared.Names.{Names}
use Rattle.plan_file.specs.Stretches.{no_span}
use Rattle.plan_file.specs.Code.Entries.{no_names, FineNames, names_of, place_among, with_name, with_lock_name}
use Rattle.plan_file.proofs.Places.{place_first, place_later, place_most, among_place, names_length}

-- the place of a name, by whether it is known
pub place_known : (name : List ℕ) (ns : List (List ℕ)) → among name ns ≡ true → place_among name ns < length ns
place_known name ns e = ltb-true (place_among name ns) (length ns) (sym (among_place name ns) ∙ e)

pub place_new : (name : List ℕ) (ns : List (List ℕ)) → among name ns ≡ false → place_among name ns ≡ length ns
place_new name ns e = omega (arith, place_most name ns, ltb-false (place_among name ns) (length ns) (sym (among_place name ns) ∙ e))

-- where a name is mentioned among few, its place is one of few
pub place_mention : (name : List ℕ) (ns : List (List ℕ)) (k : ℕ) → length (mention ns name) ≤ k → place_among name ns < k
place_mention name ns k h = go (among name ns) refl
  where
    go : (b : Bool) → among name ns ≡ b → place_among name ns < k
    go true e = omega (arith, place_known name ns e, ap length (mention_known name ns e))
    go false e = omega (arith, place_new name ns e, simp length-append at (ap length (mention_new name ns e)))

-- at its place stands what belongs to the name
pub get_place : (g : List ℕ → ℕ) (name : List ℕ) (ns : List (List ℕ)) → (among name ns ≡ false → g name ≡ 0) → get_or (map g ns) (place_among name ns) 0 ≡ g name
get_place g name [] h = sym (h (among_none name))
get_place g name (n ∷ ns) h = go (same name n) refl (get_place g name ns)
  where
    go : (b : Bool) → same name n ≡ b → ((among name ns ≡ false → g name ≡ 0) → get_or (map g ns) (place_among name ns) 0 ≡ g name) → get_or (map g (n ∷ ns)) (place_among name (n ∷ ns)) 0 ≡ g name
    go true e ih = rw (place_first name n ns e) (ap g (sym (same_true name n e)))
    go false e ih = rw (place_later name n ns e) (ih (λ k. h (simp (among-cons name, e, k))))

-- a store there changes what belongs to that name alone
module _ (g h : List ℕ → ℕ) (name : List ℕ) (others : (n : List ℕ) → same name n ≡ false → g n ≡ h n) where
  map_others : (ns : List (List ℕ)) → among name ns ≡ false → map g ns ≡ map h ns
  map_others [] e = refl
  map_others (n ∷ ns) e = go (same name n) refl (map_others ns)
    where
      go : (b : Bool) → same name n ≡ b → (among name ns ≡ false → map g ns ≡ map h ns) → map g (n ∷ ns) ≡ map h (n ∷ ns)
      go true k ih = let z : true ≡ false = simp (among-cons name, k) at e in absurd (false≢true (sym z))
      go false k ih = ap₂ ◌∷◌ (others n k) (ih (simp (among-cons name, k) at e))

  pub set_place : {ns : List (List ℕ)} → Different ns → among name ns ≡ true → set (map g ns) (place_among name ns) (h name) ≡ map h ns
  set_place none e = absurd (false≢true (sym (among_none name) ∙ e))
  set_place (more {n = n} {ns = ns} k d) e = go (same name n) refl (set_place d)
    where
      go : (b : Bool) → same name n ≡ b → (among name ns ≡ true → set (map g ns) (place_among name ns) (h name) ≡ map h ns) → set (map g (n ∷ ns)) (place_among name (n ∷ ns)) (h name) ≡ map h (n ∷ ns)
      go true t ih =
          let q : name ≡ n = same_true name n t in
          rw (place_first name n ns t) (ap₂ ◌∷◌ (ap h q) (map_others ns (ap (λ (x : List ℕ). among x ns) q ∙ k)))
      go false t ih = rw (place_later name n ns t) (ap₂ ◌∷◌ (others n t) (ih (simp (among-cons name, t) at e)))

  -- or adds what belongs to a new name
  pub set_place_new : (ns : List (List ℕ)) → among name ns ≡ false → map g ns ++ (h name ∷ []) ≡ map h (ns ++ (name ∷ []))
  set_place_new ns e = rw (map-append h) (ap (λ (l : List ℕ). l ++ (h name ∷ [])) (map_others ns e))

-- names as stretches of the file
pub names_with : (s : List ℕ) (ns : Names) (p : Span) → FineNames ns → ns.count < 16 → names_of s (with_name ns p) ≡ names_of s ns ++ (bytes_of s p ∷ [])
unfolding names_of with_name
names_with s ns p f h =
    rw add-one (ap (map (bytes_of s)) (take-suc-set ns.span ns.count p (omega arith)) ∙ map-append (bytes_of s) (take ns.count ns.span) (p ∷ []))

pub fine_with : (ns : Names) (p : Span) → FineNames ns → ns.count < 16 → FineNames (with_name ns p)
unfolding with_name
fine_with ns p f h = record { few = omega arith; room = length-set ns.span ns.count p ∙ f.room }

pub no_names_lem : (s : List ℕ) → names_of s no_names ≡ []
unfolding names_of
no_names_lem s = refl

pub fine_none : FineNames no_names
fine_none = record { few = omega arith; room = length_pad 16 no_span [] }

-- a lock's name goes behind the others just if it is new
module _ (s : List ℕ) (ns : Names) (p : Span) (fine : FineNames ns) where
  abbrev mentioned : List (List ℕ)
  mentioned = mention (names_of s ns) (bytes_of s p)

  abbrev with_it : Names
  with_it = with_lock_name ns p (place_among (bytes_of s p) (names_of s ns))

  by_lock : (P : Names → Type 0) → (among (bytes_of s p) (names_of s ns) ≡ true → P ns) → (among (bytes_of s p) (names_of s ns) ≡ false → P (with_name ns p)) → P with_it
  unfolding with_lock_name
  by_lock P f g = go (among (bytes_of s p) (names_of s ns)) refl
    where
      go : (b : Bool) → among (bytes_of s p) (names_of s ns) ≡ b → P with_it
      go true e = rw (ne_eqb (place_among (bytes_of s p) (names_of s ns)) ns.count (λ k. omega (arith, place_known _ _ e, names_length s ns fine))) (f e)
      go false e = rw (eq-eqb (place_among (bytes_of s p) (names_of s ns)) ns.count (place_new _ _ e ∙ names_length s ns fine)) (g e)

  pub names_lock : ns.count < 16 → names_of s with_it ≡ mentioned
  names_lock h = by_lock (λ m. names_of s m ≡ mentioned) (λ e. sym (mention_known _ _ e)) (λ e. names_with s ns p fine h ∙ sym (mention_new _ _ e))

  pub fine_lock : ns.count < 16 → FineNames with_it
  fine_lock h = by_lock FineNames (λ e. fine) (λ e. fine_with ns p fine h)
