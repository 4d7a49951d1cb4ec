-- Pairs put in falling X: the members stay if no two have the same X, and the list falls strictly.
-- Assumes nothing.
use Prim.Native.Nat.{◌<◌}
use native.Mathlib.Omega.{arith}
use mathlib.Core.Path.{◌≡◌, refl, sym}
use mathlib.Core.Bool.{Bool, true, false, cond}
use mathlib.Core.Logic.{◌⊎◌, inl, inr, ⊎_elim}
use mathlib.Core.List.Memᴰ
use mathlib.Core.List.{List, [], ◌∷◌, Memᴰ}
use lib.Dec.{ltb, eqb}
use borrow.Author.Tests.{ltb-true, ltb-false, eqb-true, eqb-false}
use Rattle.candidates.specs.declared.Pair.{Pair}
use Rattle.candidates.specs.Candidates.{insert_by_x, in_falling_x}

-- each pair's X is greater than that of the next
pub data Falling : List Pair → Type 0 where
  none : Falling []
  one : {c : Pair} → Falling (c ∷ [])
  more : {c d : Pair} {ds : List Pair} → d.holding < c.holding → Falling (d ∷ ds) → Falling (c ∷ d ∷ ds)

-- the three places where c may come to stand
insert_cases : (R : List Pair → Type 0) (c d : Pair) (ds : List Pair) → (d.holding < c.holding → R (c ∷ d ∷ ds)) → (d.holding ≡ c.holding → R (d ∷ ds)) → (c.holding < d.holding → R (d ∷ insert_by_x c ds)) → R (insert_by_x c (d ∷ ds))
unfolding insert_by_x
insert_cases R c d ds f g h = go (ltb d.holding c.holding) refl (eqb d.holding c.holding) refl
  where
    go : (a : Bool) → ltb d.holding c.holding ≡ a → (b : Bool) → eqb d.holding c.holding ≡ b → R (cond a (c ∷ d ∷ ds) (cond b (d ∷ ds) (d ∷ insert_by_x c ds)))
    go true s b t = f (ltb-true _ _ s)
    go false s true t = g (eqb-true _ _ t)
    go false s false t = h (omega (arith, ltb-false d.holding c.holding s, eqb-false d.holding c.holding t))

insert_from : {e : Pair} (c : Pair) (ds : List Pair) → Memᴰ e (insert_by_x c ds) → (e ≡ c) ⊎ Memᴰ e ds
unfolding insert_by_x
insert_from c [] m = Memᴰ.cases_cons m
insert_from {e} c (d ∷ ds) m =
    insert_cases (λ l. Memᴰ e l → (e ≡ c) ⊎ Memᴰ e (d ∷ ds)) c d ds
    (λ k q. Memᴰ.cases_cons q)
    (λ k q. inr q)
    (λ k q. ⊎_elim (λ (p : e ≡ d). inr (Memᴰ.head p)) (λ (p : Memᴰ e (insert_by_x c ds)). later (insert_from c ds p)) (Memᴰ.cases_cons q))
    m
  where
    later : (e ≡ c) ⊎ Memᴰ e ds → (e ≡ c) ⊎ Memᴰ e (d ∷ ds)
    later (inl p) = inl p
    later (inr p) = inr (Memᴰ.tail p)

insert_keeps : {e : Pair} (c : Pair) (ds : List Pair) → Memᴰ e ds → Memᴰ e (insert_by_x c ds)
insert_keeps {e = e} c [] x' = elim x' [ ]
insert_keeps {e} c (d ∷ ds) (Memᴰ.head q) =
    insert_cases (Memᴰ e) c d ds (λ k. Memᴰ.tail (Memᴰ.head q)) (λ k. Memᴰ.head q) (λ k. Memᴰ.head q)
insert_keeps {e} c (d ∷ ds) (Memᴰ.tail m) =
    insert_cases (Memᴰ e) c d ds (λ k. Memᴰ.tail (Memᴰ.tail m)) (λ k. Memᴰ.tail m) (λ k. Memᴰ.tail (insert_keeps c ds m))

-- a pair with the same X is the same pair
abbrev pub Only : List Pair → Pair → Type 0
Only ds c = (d : Pair) → Memᴰ d ds → d.holding ≡ c.holding → d ≡ c

insert_here : (c : Pair) (ds : List Pair) → Only ds c → Memᴰ c (insert_by_x c ds)
unfolding insert_by_x
insert_here c [] same = Memᴰ.head refl
insert_here c (d ∷ ds) same =
    insert_cases (Memᴰ c) c d ds
    (λ k. Memᴰ.head refl)
    (λ k. Memᴰ.head (sym (same d (Memᴰ.head refl) k)))
    (λ k. Memᴰ.tail (insert_here c ds (λ e m. same e (Memᴰ.tail m))))

insert_behind : (c d : Pair) (ds : List Pair) → Falling (d ∷ ds) → c.holding < d.holding → Falling (d ∷ insert_by_x c ds)
unfolding insert_by_x
insert_behind c d [] one l = more l one
insert_behind c d (e ∷ es) (more h f) l =
    insert_cases (λ r. Falling (d ∷ r)) c e es (λ k. more l (more k f)) (λ k. more h f) (λ k. more h (insert_behind c e es f k))

insert_falls : (c : Pair) (ds : List Pair) → Falling ds → Falling (insert_by_x c ds)
unfolding insert_by_x
insert_falls c [] f = one
insert_falls c (d ∷ ds) f = insert_cases Falling c d ds (λ k. more k f) (λ k. f) (λ k. insert_behind c d ds f k)

pub in_falling_x_falls : (cs : List Pair) → Falling (in_falling_x cs)
unfolding in_falling_x
in_falling_x_falls [] = none
in_falling_x_falls (c ∷ cs) = insert_falls c (in_falling_x cs) (in_falling_x_falls cs)

pub in_falling_x_from : {c : Pair} (cs : List Pair) → Memᴰ c (in_falling_x cs) → Memᴰ c cs
unfolding in_falling_x
in_falling_x_from {c = c} [] m = elim m [ ]
in_falling_x_from {c} (d ∷ ds) m =
    ⊎_elim (λ (q : c ≡ d). Memᴰ.head q) (λ (q : Memᴰ c (in_falling_x ds)). Memᴰ.tail (in_falling_x_from ds q)) (insert_from d (in_falling_x ds) m)

pub in_falling_x_of : {c : Pair} (cs : List Pair) → ((d : Pair) → Memᴰ d cs → Only cs d) → Memᴰ c cs → Memᴰ c (in_falling_x cs)
unfolding in_falling_x
in_falling_x_of {c = c} [] only x'' = elim x'' [ ]
in_falling_x_of {c} (d ∷ ds) only (Memᴰ.head q) =
    Memᴰ.cast q (insert_here d (in_falling_x ds) (λ e m. only d (Memᴰ.head refl) e (Memᴰ.tail (in_falling_x_from ds m))))
in_falling_x_of {c} (d ∷ ds) only (Memᴰ.tail m) =
    insert_keeps d (in_falling_x ds) (in_falling_x_of ds (λ e k f l. only e (Memᴰ.tail k) f (Memᴰ.tail l)) m)
