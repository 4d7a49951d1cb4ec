-- The fields of a line are the stretches of the file between its tabs.
--   pieces s from ts end == the bytes of the stretches from a place on, between tabs at the places ts, up to an end
-- Assumes nothing.
use Prim.Native.Nat.{ℕ, suc, ◌+◌, ◌-◌, ◌≤◌}
use native.Mathlib.Nat.{add-zero, add-suc, suc-add}
use native.Mathlib.Numerals.{add-one}
use native.Mathlib.Omega.{arith}
use mathlib.Core.Path.{◌≡◌, refl, sym, ap, ◌∙◌}
use mathlib.Core.Bool.{Bool, true, false, cond}
use mathlib.Core.List.{List, [], ◌∷◌, ◌++◌}
use lib.Dec.{eqb}
use lib.ListN.{length, drop, get_or}
use lib.Seq.{drop-drop}
use Rattle.least.specs.Lists.{numbers_from}
use Rattle.least.proofs.Numbers.{numbers_pass, numbers_fail, numbers_each}
use Rattle.text.specs.Bytes.{into_field, fields_of}
use Rattle.stretch.specs.Stretch.{bytes_of}
use Rattle.scan.specs.Scan.{is_tab}
use Rattle.scan.specs.Positions.{body_of, tabs_from}
use Rattle.records.specs.Code.Shapes.{up_to}

unfoldable pub pieces : List ℕ → ℕ → List ℕ → ℕ → List (List ℕ)
pieces s from [] end = bytes_of s (up_to from end) ∷ []
pieces s from (t ∷ ts) end = bytes_of s (up_to from t) ∷ pieces s (t + 1) ts end

-- no tab stands before the first byte
first_tab : (bs : List ℕ) (at t : ℕ) (ts : List ℕ) → tabs_from bs at ≡ t ∷ ts → at ≤ t
first_tab bs at t ts e =
    let r = numbers_each is_tab 0 at 0 bs (rw e (omega arith)) in
    omega (arith, ap (λ (us : List ℕ). get_or us 0 0) e, r.1)

drop_next : (s : List ℕ) (at b : ℕ) (xs : List ℕ) → drop at s ≡ b ∷ xs → drop (suc at) s ≡ xs
drop_next s at b xs h = rw (← add-one at, ← drop-drop 1 at s) (ap (drop 1) h)

stretch_empty : (s : List ℕ) (at : ℕ) → bytes_of s (up_to at at) ≡ []
unfolding bytes_of up_to
stretch_empty s at = let e : at - at ≡ 0 = omega arith in rw e

stretch_more : (s : List ℕ) (at b t : ℕ) (xs : List ℕ) → drop at s ≡ b ∷ xs → suc at ≤ t → bytes_of s (up_to at t) ≡ b ∷ bytes_of s (up_to (suc at) t)
unfolding bytes_of up_to
stretch_more s at b t xs h g = let e : t - at ≡ suc (t - suc at) = omega arith in rw (e, h, drop_next s at b xs h)

-- one byte before the first stretch
pieces_into : (s : List ℕ) (at b : ℕ) (xs ts : List ℕ) (end : ℕ) → drop at s ≡ b ∷ xs → suc at ≤ end → ((t : ℕ) (us : List ℕ) → ts ≡ t ∷ us → suc at ≤ t)
    → into_field b (pieces s (suc at) ts end) ≡ pieces s at ts end
unfolding into_field pieces
pieces_into s at b xs [] end h g k = ap (λ (l : List ℕ). l ∷ []) (sym (stretch_more s at b end xs h g))
pieces_into s at b xs (t ∷ ts) end h g k = ap (λ (l : List ℕ). l ∷ pieces s (t + 1) ts end) (sym (stretch_more s at b t xs h (k t ts refl)))

fields_tab : (b : ℕ) (bs : List ℕ) → eqb b 9 ≡ true → fields_of (b ∷ bs) ≡ [] ∷ fields_of bs
unfolding fields_of
fields_tab b bs e = rw (e, fields_of) refl

fields_more : (b : ℕ) (bs : List ℕ) → eqb b 9 ≡ false → fields_of (b ∷ bs) ≡ into_field b (fields_of bs)
unfolding fields_of
fields_more b bs e = rw (e, fields_of) refl

pieces_tab : (s : List ℕ) (at : ℕ) (ts : List ℕ) (end : ℕ) → pieces s at (at ∷ ts) end ≡ [] ∷ pieces s (suc at) ts end
unfolding pieces
pieces_tab s at ts end = simp (stretch_empty s at, add-one at)

fields_none : (s : List ℕ) (at : ℕ) → fields_of [] ≡ pieces s at (tabs_from [] at) (at + 0)
unfolding fields_of pieces numbers_from
fields_none s at = rw add-zero (ap (λ (l : List ℕ). l ∷ []) (sym (stretch_empty s at)))

fields_pieces : (s bs r : List ℕ) (at : ℕ) → drop at s ≡ bs ++ r → fields_of bs ≡ pieces s at (tabs_from bs at) (at + length bs)
unfolding is_tab
fields_pieces s [] r at h = fields_none s at
fields_pieces s (b ∷ bs) r at h = go (eqb b 9) refl (fields_pieces s bs r (suc at) (drop_next s at b (bs ++ r) h))
  where
    go : (u : Bool) → eqb b 9 ≡ u → fields_of bs ≡ pieces s (suc at) (tabs_from bs (suc at)) (suc at + length bs) → fields_of (b ∷ bs) ≡ pieces s at (tabs_from (b ∷ bs) at) (at + suc (length bs))
    go true p ih = fields_tab b bs p ∙ simp (numbers_pass is_tab at b bs p, add-suc, simp suc-add at ih, pieces_tab)
    go false p ih =
        fields_more b bs p
        ∙ simp (numbers_fail is_tab at b bs p, add-suc, simp suc-add at ih) (pieces_into s at b (bs ++ r) (tabs_from bs (suc at)) (suc (at + length bs)) h (omega arith) (λ t us e. first_tab bs (suc at) t us e))

-- a line's bytes are what its file begins with
body_begins : (xs : List ℕ) → xs ≡ body_of xs ++ drop (length (body_of xs)) xs
unfolding body_of
body_begins [] = refl
body_begins (b ∷ bs) = go (eqb b 10) (body_begins bs)
  where
    go : (t : Bool) → bs ≡ body_of bs ++ drop (length (body_of bs)) bs → b ∷ bs ≡ cond t [] (b ∷ body_of bs) ++ drop (length (cond t [] (b ∷ body_of bs))) (b ∷ bs)
    go true ih = refl
    go false ih = ap (λ (l : List ℕ). b ∷ l) ih

pub line_pieces : (s : List ℕ) (at : ℕ) → let bs = body_of (drop at s) in fields_of bs ≡ pieces s at (tabs_from bs at) (at + length bs)
line_pieces s at = fields_pieces s (body_of (drop at s)) _ at (body_begins (drop at s))
