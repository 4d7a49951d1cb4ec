-- The choices are all the ways to take one row of each part, and the least loaded one is the first of least load.
--   FirstBehind P x xs == x stands in the list, and everything before it has P
-- Assumes nothing.
use mathlib.Core.Path.{◌≡◌, refl, sym, ap}
use mathlib.Core.Logic.{◌↔◌}
use mathlib.Core.Bool.{true}
use mathlib.Core.List.Memᴰ
use mathlib.Core.List.{List, [], ◌∷◌, ◌++◌, map, Memᴰ}
use Prim.Native.Nat.{◌≤◌}
use native.Mathlib.Omega.{arith}
use lib.ListN.{length}
use Rattle.least.specs.Lists.{some}
use Rattle.least.specs.Each.{Each}
use Rattle.least.specs.Each.Each.{none, more}
use Rattle.least.specs.Fraction.{◌⊑◌, ◌⊏◌}
use Rattle.least.proofs.Lists.{joined_map_iff, map_iff, some_iff}
use Rattle.least.proofs.Fraction.{cond_lt, ⊑_refl, ⊑_trans, ⊏-⊑, finite_below}
use Rattle.load.specs.declared.Row.{Row}
use Rattle.load.specs.Load.{load_of, passes_system}
use Rattle.load.proofs.Load.{load_of_ok, passes_finite}
use Rattle.selection.specs.Selection.{choices, lighter, least_loaded}

-- one row of each part
abbrev pub Picks : List (List Row) → List Row → Type 0
Picks offers c = Each (λ rows r. Memᴰ r rows) offers c

picks_choices : {offers : List (List Row)} {c : List Row} → Picks offers c → Memᴰ c (choices offers)
unfolding choices
picks_choices none = Memᴰ.head refl
picks_choices (more {x = rows} {y = r} {xs = others} {ys = c} m ms) =
    (joined_map_iff (λ r. map (λ d. r ∷ d) (choices others)) (r ∷ c) rows).1 (r, m, (map_iff (λ d. r ∷ d) (r ∷ c) (choices others)).1 (c, picks_choices ms, refl))

choices_picks : (offers : List (List Row)) {c : List Row} → Memᴰ c (choices offers) → Picks offers c
unfolding choices
choices_picks [] m = rw (Memᴰ.eq_of_singleton m) none
choices_picks (rows ∷ others) {c} m =
    let j = (joined_map_iff (λ r. map (λ d. r ∷ d) (choices others)) c rows).0 m in
    let k = (map_iff (λ d. j.0 ∷ d) c (choices others)).0 j.2 in
    rw (← k.2) (more j.1 (choices_picks others k.1))

pub choices_iff : (offers : List (List Row)) (c : List Row) → Memᴰ c (choices offers) ↔ Picks offers c
choices_iff offers c = (choices_picks offers, picks_choices)

-- the lighter of two
pub lighter_ind : (P : List Row → Type 0) (c d : List Row) → (load_of d ⊏ load_of c → P d) → (load_of c ⊑ load_of d → P c) → P (lighter c d)
unfolding lighter
lighter_ind P c d f g = cond_lt P _ _ (λ h. f (record { cross = h })) (λ h. g (record { cross = h }))

pub data FirstBehind {A : Type 0} (P : A → Type 0) (x : A) : List A → Type 0 where
  here : {y : A} {ys : List A} → x ≡ y → FirstBehind P x (y ∷ ys)
  later : {y : A} {ys : List A} → P y → FirstBehind P x ys → FirstBehind P x (y ∷ ys)

pub first_member : {A : Type 0} {P : A → Type 0} {x : A} {xs : List A} → FirstBehind P x xs → Memᴰ x xs
first_member (here e) = Memᴰ.head e
first_member (later p f) = Memᴰ.tail (first_member f)

-- greater loads stand before it
abbrev pub Heavier : List Row → List Row → Type 0
Heavier c b = load_of c ⊏ load_of b

least_loaded_behind : (c : List Row) (cs : List (List Row)) → FirstBehind (Heavier (least_loaded (c ∷ cs))) (least_loaded (c ∷ cs)) (c ∷ cs)
unfolding least_loaded
least_loaded_behind c [] = here refl
least_loaded_behind c (d ∷ ds) =
    lighter_ind (λ x. FirstBehind (Heavier x) x (c ∷ d ∷ ds)) c _ (λ h. later h (least_loaded_behind d ds)) (λ _. here refl)

least_loaded_below : (c : List Row) (cs : List (List Row)) (b : List Row) → Memᴰ b (c ∷ cs) → load_of (least_loaded (c ∷ cs)) ⊑ load_of b
unfolding least_loaded
least_loaded_below c [] b m = rw (Memᴰ.eq_of_singleton m) (⊑_refl _)
least_loaded_below c (d ∷ ds) b (Memᴰ.head e) = rw e (lighter_ind (λ x. load_of x ⊑ load_of c) c _ ⊏-⊑ (λ _. ⊑_refl _))
least_loaded_below c (d ∷ ds) b (Memᴰ.tail m) =
    let k = least_loaded_below d ds b m in
    lighter_ind (λ x. load_of x ⊑ load_of b) c _ (λ _. k) (λ h. ⊑_trans (load_of_ok _) h k)

-- the same of every list that is not empty
pub first_heavier : (cs : List (List Row)) → 1 ≤ length cs → FirstBehind (Heavier (least_loaded cs)) (least_loaded cs) cs
first_heavier [] h = absurd (omega arith)
first_heavier (c ∷ cs) h = least_loaded_behind c cs

pub least_loaded_member : (cs : List (List Row)) → 1 ≤ length cs → Memᴰ (least_loaded cs) cs
least_loaded_member cs h = first_member (first_heavier cs h)

pub least_loaded_least : (cs : List (List Row)) (c : List Row) → Memᴰ c cs → load_of (least_loaded cs) ⊑ load_of c
least_loaded_least [] c m = absurd (Memᴰ.not-nil m)
least_loaded_least (d ∷ ds) c m = least_loaded_below d ds c m

-- x stands behind `before`, all of which has P
pub record Parted {A : Type 0} (P : A → Type 0) (x : A) (xs : List A) : Type 0 where
  pub before : List A
  pub after : List A
  pub whole : xs ≡ before ++ (x ∷ after)
  pub each : (b : A) → Memᴰ b before → P b

first_parted : {A : Type 0} {P : A → Type 0} {x : A} {xs : List A} → FirstBehind P x xs → Parted P x xs
first_parted (here {ys} e) = record { before = []; after = ys; whole = ap (λ z. z ∷ ys) (sym e); each = λ b m. absurd (Memᴰ.not-nil m) }
first_parted {A} {P} {x} (later {y} {ys} p f) =
    let k = first_parted f in
    record { before = y ∷ k.before; after = k.after; whole = ap (λ zs. y ∷ zs) k.whole; each = each k }
  where
    each : (k : Parted P x ys) (b : A) → Memᴰ b (y ∷ k.before) → P b
    each k b (Memᴰ.head e) = rw e p
    each k b (Memᴰ.tail m) = k.each b m

pub least_loaded_first : (cs : List (List Row)) → 1 ≤ length cs → Parted (Heavier (least_loaded cs)) (least_loaded cs) cs
least_loaded_first cs h = first_parted (first_heavier cs h)

-- some choice passes exactly if the least loaded one does
pub some_passes : (cs : List (List Row)) → 1 ≤ length cs → (some passes_system cs ≡ true) ↔ (passes_system (least_loaded cs) ≡ true)
some_passes cs h = (to, λ p. (some_iff passes_system cs).1 (least_loaded cs, least_loaded_member cs h, p))
  where
    to : some passes_system cs ≡ true → passes_system (least_loaded cs) ≡ true
    to e =
        let s = (some_iff passes_system cs).0 e in
        (passes_finite _).1 (finite_below (load_of_ok _) (least_loaded_least cs s.0 s.1) ((passes_finite _).0 s.2))
