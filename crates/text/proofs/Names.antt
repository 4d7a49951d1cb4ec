-- Laws of names: which are among others, what a mention does, and that the distinct ones of a list are different.
--   Different ns == no name is among those behind it
-- Assumes nothing.
use Prim.Native.Nat.{ℕ}
use mathlib.Core.Path.{◌≡◌, refl, sym, ap, ◌∙◌}
use mathlib.Core.Bool.{Bool, true, false, ◌||◌, or-false, or_assoc, false≢true}
use mathlib.Core.List.{List, [], ◌∷◌, ◌++◌}
use Rattle.least.specs.Lists.{some}
use Rattle.least.proofs.Lists.{some_pass, some_fail}
use Rattle.text.specs.Bytes.{same, among, mention, distinct_after, distinct}
use Rattle.text.proofs.Bytes.{same_refl, same_true}

-- among no names, and among one more
pub among_none : (name : List ℕ) → among name [] ≡ false
unfolding among some
among_none name = refl

pub among-cons : (name n : List ℕ) (ns : List (List ℕ)) → among name (n ∷ ns) ≡ same name n || among name ns
unfolding among
among-cons name n ns = go (same name n) refl
  where
    go : (b : Bool) → same name n ≡ b → among name (n ∷ ns) ≡ same name n || among name ns
    go true e = some_pass (same name) n ns e ∙ simp e
    go false e = some_fail (same name) n ns e ∙ simp e

among-append : (name : List ℕ) (ms ns : List (List ℕ)) → among name (ms ++ ns) ≡ among name ms || among name ns
among-append name [] ns = simp (among_none name)
among-append name (m ∷ ms) ns = simp (among-cons name, among-append name ms ns, or_assoc)

among_one : (name n : List ℕ) → among name (n ∷ []) ≡ same name n
among_one name n = simp (among-cons name, among_none name, or-false)

-- a mention of a known name changes nothing, one of a new name adds it
pub mention_known : (name : List ℕ) (ns : List (List ℕ)) → among name ns ≡ true → mention ns name ≡ ns
unfolding mention
mention_known name ns e = simp e

pub mention_new : (name : List ℕ) (ns : List (List ℕ)) → among name ns ≡ false → mention ns name ≡ ns ++ (name ∷ [])
unfolding mention
mention_new name ns e = simp e

pub not_same_sym : (a b : List ℕ) → same a b ≡ false → same b a ≡ false
not_same_sym a b e = go (same b a) refl
  where
    go : (t : Bool) → same b a ≡ t → same b a ≡ false
    go true h = absurd (false≢true (sym e ∙ ap (same a) (same_true b a h) ∙ same_refl a))
    go false h = h

among-mention : (name m : List ℕ) (ns : List (List ℕ)) → among name (mention ns m) ≡ among name ns || same name m
among-mention name m ns = go (among m ns) refl (same name m) refl
  where
    go : (b : Bool) → among m ns ≡ b → (t : Bool) → same name m ≡ t → among name (mention ns m) ≡ among name ns || same name m
    go false e t h = simp (mention_new m ns e, among-append name, among_one name)
    go true e false h = simp (mention_known m ns e, h, or-false)
    go true e true h = simp (mention_known m ns e, same_true name m h, e)

among-distinct_after : (name : List ℕ) (ns ms : List (List ℕ)) → among name (distinct_after ns ms) ≡ among name ns || among name ms
unfolding distinct_after
among-distinct_after name ns [] = simp (among_none name, or-false)
among-distinct_after name ns (m ∷ ms) = among-distinct_after name (mention ns m) ms ∙ simp (among-mention name, among-cons name, or_assoc)

-- among the different names just if among the names
pub among-distinct : (name : List ℕ) (ms : List (List ℕ)) → among name (distinct ms) ≡ among name ms
among-distinct name ms = among-distinct_after name [] ms ∙ simp (among_none name)

-- one name more is one mention more
pub distinct_snoc : (ns ms : List (List ℕ)) (m : List ℕ) → distinct_after ns (ms ++ (m ∷ [])) ≡ mention (distinct_after ns ms) m
unfolding distinct_after
distinct_snoc ns [] m = refl
distinct_snoc ns (n ∷ ms) m = distinct_snoc (mention ns n) ms m

pub data Different : List (List ℕ) → Type 0 where
  none : Different []
  more : {n : List ℕ} {ns : List (List ℕ)} → among n ns ≡ false → Different ns → Different (n ∷ ns)

different_snoc : (name : List ℕ) {ns : List (List ℕ)} → Different ns → among name ns ≡ false → Different (ns ++ (name ∷ []))
different_snoc name none e = more (among_none name) none
different_snoc name (more {n = n} {ns = ns} h d) e = go (same name n) refl (different_snoc name d)
  where
    go : (b : Bool) → same name n ≡ b → (among name ns ≡ false → Different (ns ++ (name ∷ []))) → Different (n ∷ (ns ++ (name ∷ [])))
    go true k ih = let z : true ≡ false = simp (among-cons name, k) at e in absurd (false≢true (sym z))
    go false k ih = more (among-append n ns (name ∷ []) ∙ simp (h, among_one n, not_same_sym name n k)) (ih (simp (among-cons name, k) at e))

different_mention : (name : List ℕ) (ns : List (List ℕ)) → Different ns → Different (mention ns name)
different_mention name ns d = go (among name ns) refl
  where
    go : (b : Bool) → among name ns ≡ b → Different (mention ns name)
    go true e = rw (mention_known name ns e) d
    go false e = rw (mention_new name ns e) (different_snoc name d e)

-- the distinct names of a list are different
pub distinct_different : (ns ms : List (List ℕ)) → Different ns → Different (distinct_after ns ms)
unfolding distinct_after
distinct_different ns [] d = d
distinct_different ns (m ∷ ms) d = distinct_different (mention ns m) ms (different_mention m ns d)
