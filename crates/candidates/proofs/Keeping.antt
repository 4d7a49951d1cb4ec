-- What is kept of a list of pairs, in the paper's words; and each pair of the list has a kept one beside it that is no worse.
-- Assumes nothing.
use Prim.Native.Nat.{ℕ, zero, suc, ◌+◌, ◌*◌, ◌≤◌, ◌<◌}
use native.Mathlib.Nat.{le_refl, le_trans}
use native.Mathlib.Omega.{arith}
use native.Mathlib.Decide.{dec_le, dec_lt}
use mathlib.Core.Path.{◌≡◌, refl, sym, ap, ◌∙◌}
use mathlib.Core.Bool.{Bool, true, false, not, ◌||◌, false≢true}
use mathlib.Core.Logic.{◌↔◌}
use mathlib.Core.List.{List, Memᴰ}
use borrow.Author.Tests.{leb-true, le-leb, eqb-true, eq-eqb}
use Rattle.least.specs.Lists.{every, those}
use Rattle.least.proofs.Lists.{and_iff, or_not_iff, or_not_false, every_member, every_all, every_not, those_member, those_passing}
use Rattle.candidates.specs.declared.Pair.{Pair}
use Rattle.candidates.specs.Candidates.{same_pair, no_worse, is_kept, in_falling_x, kept_among}
use Rattle.candidates.proofs.Falling.{Falling, Only, in_falling_x_falls, in_falling_x_from, in_falling_x_of}

pub pair_same : (c d : Pair) → c.budget ≡ d.budget → c.holding ≡ d.holding → c ≡ d
pair_same c d p q = λ i. record { budget = p i; holding = q i }

same_pair_iff : (d c : Pair) → (same_pair d c ≡ true) ↔ (d ≡ c)
same_pair_iff d c = (to, from)
  where
    to : same_pair d c ≡ true → d ≡ c
    to e = let h = (and_iff _ _).0 e in pair_same d c (eqb-true _ _ h.0) (eqb-true _ _ h.1)

    from : d ≡ c → same_pair d c ≡ true
    from e = (and_iff _ _).1 (eq-eqb _ _ (ap (λ p. p.budget) e), eq-eqb _ _ (ap (λ p. p.holding) e))

-- d has X no greater and Q+X no greater than c
pub record NoWorse (d c : Pair) : Type 0 where
  pub holding : d.holding ≤ c.holding
  pub sum : d.budget + d.holding ≤ c.budget + c.holding

no_worse_iff : (d c : Pair) → (no_worse d c ≡ true) ↔ NoWorse d c
no_worse_iff d c = (to, from)
  where
    to : no_worse d c ≡ true → NoWorse d c
    to e =
        let h = (and_iff _ _).0 e in
        record { holding = leb-true _ _ h.0; sum = leb-true _ _ h.1 }

    from : NoWorse d c → no_worse d c ≡ true
    from h = (and_iff _ _).1 (le-leb _ _ h.holding, le-leb _ _ h.sum)

-- no other pair of the list is no worse than c
abbrev pub Alone : List Pair → Pair → Type 0
Alone cs c = (d : Pair) → Memᴰ d cs → NoWorse d c → d ≡ c

pub is_kept_iff : (cs : List Pair) (c : Pair) → (is_kept cs c ≡ true) ↔ Alone cs c
unfolding is_kept
is_kept_iff cs c = (to, from)
  where
    to : every (λ d. same_pair d c || not (no_worse d c)) cs ≡ true → Alone cs c
    to e d m h = (same_pair_iff d c).0 ((or_not_iff (same_pair d c) (no_worse d c)).0 (every_member _ cs e m) ((no_worse_iff d c).1 h))

    from : Alone cs c → every (λ d. same_pair d c || not (no_worse d c)) cs ≡ true
    from h = every_all _ cs (λ d m. (or_not_iff (same_pair d c) (no_worse d c)).1 (λ e. (same_pair_iff d c).1 (h d m ((no_worse_iff d c).0 e))))

-- two kept pairs with the same X are the same
kept_only : (cs : List Pair) (c d : Pair) → Memᴰ c cs → Alone cs c → Memᴰ d cs → Alone cs d → d.holding ≡ c.holding → d ≡ c
kept_only cs c d m a k b e = go (dec_le d.budget c.budget)
  where
    go : Dec (d.budget ≤ c.budget) → d ≡ c
    go (yes l) = a d k (record { holding = omega arith; sum = omega arith })
    go (no l) = sym (b c m (record { holding = omega arith; sum = omega arith }))

pub kept_among_iff : (cs : List Pair) (c : Pair) → Memᴰ c (kept_among cs) ↔ (Memᴰ c cs × Alone cs c)
unfolding kept_among
kept_among_iff cs c = ((λ m. known c (in_falling_x_from (those (is_kept cs) cs) m)), from)
  where
    known : (d : Pair) → Memᴰ d (those (is_kept cs) cs) → Memᴰ d cs × Alone cs d
    known d m = let h = those_member (is_kept cs) cs m in (h.0, (is_kept_iff cs d).0 h.1)

    only : (d : Pair) → Memᴰ d (those (is_kept cs) cs) → Only (those (is_kept cs) cs) d
    only d m e k = let h = known d m in let j = known e k in kept_only cs d e h.0 h.1 j.0 j.1

    from : Memᴰ c cs × Alone cs c → Memᴰ c (in_falling_x (those (is_kept cs) cs))
    from h = in_falling_x_of (those (is_kept cs) cs) only (those_passing (is_kept cs) cs h.0 ((is_kept_iff cs c).1 h.1))

pub kept_among_falls : (cs : List Pair) → Falling (kept_among cs)
unfolding kept_among
kept_among_falls cs = in_falling_x_falls (those (is_kept cs) cs)

no_worse_refl : (c : Pair) → NoWorse c c
no_worse_refl c = record { holding = le_refl _; sum = le_refl _ }

-- Q + 2X
abbrev weight : Pair → ℕ
weight c = c.budget + 2 * c.holding

-- a pair that is not kept has another that is no worse, with a smaller weight
no_worse_other : (cs : List Pair) (c : Pair) → is_kept cs c ≡ false → (d : Pair) × Memᴰ d cs × NoWorse d c × (weight d < weight c)
unfolding is_kept
no_worse_other cs c e =
    let f = every_not _ cs e in
    let n = or_not_false (same_pair f.0 c) (no_worse f.0 c) f.2 in
    let w = (no_worse_iff f.0 c).0 n.1 in
    (f.0, f.1, w, smaller f.0 n.0 w (dec_lt _ _))
  where
    smaller : (d : Pair) → same_pair d c ≡ false → NoWorse d c → Dec (weight d < weight c) → weight d < weight c
    smaller d s w (yes l) = l
    smaller d s w (no l) = absurd (false≢true (sym s ∙ (same_pair_iff d c).1 (pair_same d c (omega arith) (omega arith))))

-- a kept pair that is no worse than c
abbrev pub Covered : List Pair → Pair → Type 0
Covered kept c = (d : Pair) × Memᴰ d kept × NoWorse d c

covered_within : (cs : List Pair) (n : ℕ) (c : Pair) → Memᴰ c cs → weight c < n → Covered (kept_among cs) c
covered_within cs zero c m l = absurd (omega arith)
covered_within cs (suc n) c m l = go (λ d k h. covered_within cs n d k (omega arith)) (is_kept cs c) refl
  where
    go : ((d : Pair) → Memᴰ d cs → weight d < weight c → Covered (kept_among cs) d) → (b : Bool) → is_kept cs c ≡ b → Covered (kept_among cs) c
    go ih true e = (c, (kept_among_iff cs c).1 (m, (is_kept_iff cs c).0 e), no_worse_refl c)
    go ih false e =
        let o = no_worse_other cs c e in
        let k = ih o.0 o.1 o.3 in
        (k.0, k.1, record { holding = le_trans k.2.holding o.2.holding; sum = le_trans k.2.sum o.2.sum })

pub kept_among_covers : (cs : List Pair) (c : Pair) → Memᴰ c cs → Covered (kept_among cs) c
kept_among_covers cs c m = covered_within cs (suc (weight c)) c m (le_refl _)
