-- Lines and fields are the file and the line, cut at each byte 10 and at each byte 9: put together again they give the same bytes,
-- and no line has a byte 10, no field a byte 9. Two lists of bytes pass the test `same` exactly if they are equal, and a list passes `among` exactly if it is one of the others.
-- Assumes nothing.
use Prim.Native.Nat.{ℕ}
use mathlib.Core.Path.{◌≡◌, refl, sym, ap, ap₂, subst, ◌∙◌}
use mathlib.Core.Bool.{Bool, true, false, cond, not, false≢true}
use mathlib.Core.Logic.{◌↔◌}
use mathlib.Core.List.{List, [], ◌∷◌, ◌++◌, map, Memᴰ}
use borrow.Author.Tests.{eqb-true, eq-eqb}
use lib.Dec.{eqb}
use Rattle.least.specs.Lists.{every, joined}
use Rattle.least.proofs.Lists.{every_pass, every_fail, every_none, some_iff}
use Rattle.text.specs.Bytes.{same, among, Line, into_line, lines_of, into_field, fields_of, line_of}

-- the bytes that a line takes up in its file
abbrev pub line_bytes : Line → List ℕ
line_bytes l = l.body ++ cond l.ended (10 ∷ []) []

into_line_lem : (b : ℕ) (ls : List Line) → joined (map line_bytes (into_line b ls)) ≡ b ∷ joined (map line_bytes ls)
unfolding into_line joined
into_line_lem b [] = refl
into_line_lem b (l ∷ ls) = refl

pub lines_join : (s : List ℕ) → joined (map line_bytes (lines_of s)) ≡ s
unfolding lines_of joined
lines_join [] = refl
lines_join (b ∷ bs) = go (eqb b 10) refl (lines_join bs)
  where
    go : (t : Bool) → eqb b 10 ≡ t → joined (map line_bytes (lines_of bs)) ≡ bs → joined (map line_bytes (lines_of (b ∷ bs))) ≡ b ∷ bs
    go true e ih = rw (e, lines_of) (ap (λ (l : List ℕ). 10 ∷ l) ih ∙ ap (λ (x : ℕ). x ∷ bs) (sym (eqb-true b 10 e)))
    go false e ih = rw (e, lines_of) (into_line_lem b (lines_of bs) ∙ ap (λ (l : List ℕ). b ∷ l) ih)

-- there is always a first field
fields_some : (s : List ℕ) → (f : List ℕ) × (fs : List (List ℕ)) × (fields_of s ≡ f ∷ fs)
unfolding fields_of into_field
fields_some [] = ([], [], refl)
fields_some (b ∷ bs) = go (eqb b 9) refl (fields_some bs)
  where
    go : (t : Bool) → eqb b 9 ≡ t → (f : List ℕ) × (fs : List (List ℕ)) × (fields_of bs ≡ f ∷ fs) → (f : List ℕ) × (fs : List (List ℕ)) × (fields_of (b ∷ bs) ≡ f ∷ fs)
    go true e r = ([], fields_of bs, rw (e, fields_of) refl)
    go false e r = (b ∷ r.0, r.1, rw (e, fields_of) (ap (into_field b) r.2))

-- a tab before the fields, a byte before the first of them
line_tab : (f : List ℕ) (fs gs : List (List ℕ)) → gs ≡ f ∷ fs → line_of ([] ∷ gs) ≡ 9 ∷ line_of gs
unfolding line_of
line_tab f fs gs e = rw e refl

into_first : (b : ℕ) (f : List ℕ) (fs : List (List ℕ)) → line_of ((b ∷ f) ∷ fs) ≡ b ∷ line_of (f ∷ fs)
unfolding line_of
into_first b f [] = refl
into_first b f (g ∷ gs) = refl

line_byte : (b : ℕ) (f : List ℕ) (fs gs : List (List ℕ)) → gs ≡ f ∷ fs → line_of (into_field b gs) ≡ b ∷ line_of gs
unfolding into_field
line_byte b f fs gs e = rw e (into_first b f fs)

line_none : line_of (fields_of []) ≡ 10 ∷ []
unfolding line_of fields_of
line_none = refl

pub fields_join : (s : List ℕ) → line_of (fields_of s) ≡ s ++ (10 ∷ [])
unfolding fields_of
fields_join [] = line_none
fields_join (b ∷ bs) = go (eqb b 9) refl (fields_some bs) (fields_join bs)
  where
    go : (t : Bool) → eqb b 9 ≡ t → (f : List ℕ) × (fs : List (List ℕ)) × (fields_of bs ≡ f ∷ fs) → line_of (fields_of bs) ≡ bs ++ (10 ∷ []) → line_of (fields_of (b ∷ bs)) ≡ b ∷ (bs ++ (10 ∷ []))
    go true e r ih = rw (e, fields_of) (line_tab r.0 r.1 (fields_of bs) r.2 ∙ ap (λ (l : List ℕ). 9 ∷ l) ih ∙ ap (λ (x : ℕ). x ∷ (bs ++ (10 ∷ []))) (sym (eqb-true b 9 e)))
    go false e r ih = rw (e, fields_of) (line_byte b r.0 r.1 (fields_of bs) r.2 ∙ ap (λ (l : List ℕ). b ∷ l) ih)

-- no byte b
abbrev pub without : ℕ → List ℕ → Bool
without b bs = every (λ x. not (eqb x b)) bs

without_none : (b : ℕ) → without b [] ≡ true
unfolding every
without_none b = refl

-- a byte other than b before the first of several lists without b
without_into : (b x : ℕ) (f : List ℕ) (fs : List (List ℕ)) → eqb x b ≡ false → every (without b) (f ∷ fs) ≡ true → every (without b) ((x ∷ f) ∷ fs) ≡ true
without_into b x f fs e h = go (without b f) refl
  where
    go : (t : Bool) → without b f ≡ t → every (without b) ((x ∷ f) ∷ fs) ≡ true
    go true k =
        let w : without b (x ∷ f) ≡ true = every_pass (λ y. not (eqb y b)) x f (simp e) ∙ k in
        every_pass (without b) (x ∷ f) fs w ∙ (sym (every_pass (without b) f fs k) ∙ h)
    go false k = absurd (false≢true (sym (every_fail (without b) f fs k) ∙ h))

pub fields_tabless : (s : List ℕ) → every (without 9) (fields_of s) ≡ true
unfolding fields_of into_field
fields_tabless [] = every_pass (without 9) [] [] (without_none 9) ∙ every_none (without 9)
fields_tabless (b ∷ bs) = go (eqb b 9) refl (fields_some bs) (fields_tabless bs)
  where
    go : (t : Bool) → eqb b 9 ≡ t → (f : List ℕ) × (fs : List (List ℕ)) × (fields_of bs ≡ f ∷ fs) → every (without 9) (fields_of bs) ≡ true → every (without 9) (fields_of (b ∷ bs)) ≡ true
    go true e r ih = rw (e, fields_of) (every_pass (without 9) [] (fields_of bs) (without_none 9) ∙ ih)
    go false e r ih = rw (e, fields_of, r.2) (without_into 9 b r.0 r.1 e (rw r.2 at ih))

-- no byte b on a line
abbrev body_without : ℕ → Line → Bool
body_without b l = without b l.body

-- a byte other than 10 before the first of several lines without 10
lines_into : (b : ℕ) (ls : List Line) → eqb b 10 ≡ false → every (body_without 10) ls ≡ true → every (body_without 10) (into_line b ls) ≡ true
unfolding into_line
lines_into b [] e h =
    let w : without 10 (b ∷ []) ≡ true = every_pass (λ y. not (eqb y 10)) b [] (simp e) ∙ without_none 10 in
    every_pass (body_without 10) (record { body = b ∷ []; ended = false }) [] w ∙ every_none (body_without 10)
lines_into b (l ∷ ls) e h = go (without 10 l.body) refl
  where
    go : (t : Bool) → without 10 l.body ≡ t → every (body_without 10) (record { body = b ∷ l.body; ended = l.ended } ∷ ls) ≡ true
    go true k =
        let w : without 10 (b ∷ l.body) ≡ true = every_pass (λ y. not (eqb y 10)) b l.body (simp e) ∙ k in
        every_pass (body_without 10) (record { body = b ∷ l.body; ended = l.ended }) ls w ∙ (sym (every_pass (body_without 10) l ls k) ∙ h)
    go false k = absurd (false≢true (sym (every_fail (body_without 10) l ls k) ∙ h))

pub lines_newlineless : (s : List ℕ) → every (body_without 10) (lines_of s) ≡ true
unfolding lines_of
lines_newlineless [] = every_none (body_without 10)
lines_newlineless (b ∷ bs) = go (eqb b 10) refl (lines_newlineless bs)
  where
    go : (t : Bool) → eqb b 10 ≡ t → every (body_without 10) (lines_of bs) ≡ true → every (body_without 10) (lines_of (b ∷ bs)) ≡ true
    go true e ih = rw (e, lines_of) (every_pass (body_without 10) (record { body = []; ended = true }) (lines_of bs) (without_none 10) ∙ ih)
    go false e ih = rw (e, lines_of) (lines_into b (lines_of bs) e ih)

-- the test `same`
pub same_refl : (a : List ℕ) → same a a ≡ true
unfolding same
same_refl [] = refl
same_refl (x ∷ xs) = simp (eq-eqb x x refl) (same_refl xs)

pub same_true : (a b : List ℕ) → same a b ≡ true → a ≡ b
unfolding same
same_true [] [] e = refl
same_true [] (y ∷ ys) e = absurd (false≢true e)
same_true (x ∷ xs) [] e = absurd (false≢true e)
same_true (x ∷ xs) (y ∷ ys) e = go (eqb x y) refl (same_true xs ys)
  where
    go : (t : Bool) → eqb x y ≡ t → (same xs ys ≡ true → xs ≡ ys) → x ∷ xs ≡ y ∷ ys
    go true h ih = ap₂ (λ (a : ℕ) (l : List ℕ). a ∷ l) (eqb-true x y h) (ih (simp h at e))
    go false h ih = let z : false ≡ true = simp h at e in absurd (false≢true z)

-- a name is among others just if it is one of them
pub among_iff : (name : List ℕ) (names : List (List ℕ)) → (among name names ≡ true) ↔ Memᴰ name names
unfolding among
among_iff name names = (
  (λ e. let h = (some_iff (same name) names).0 e in subst (λ (n : List ℕ). Memᴰ n names) (sym (same_true name h.0 h.2)) h.1),
  (λ m. (some_iff (same name) names).1 (name, m, same_refl name)),
)
