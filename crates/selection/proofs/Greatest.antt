-- Among parts whose rows are in falling holding time, the least loaded choice holds in every part as long as any choice of no greater load.
--   After r s       == s has the period of r, costs no less and holds no longer
--   Falling rows    == each row is followed by one that is After it
--   Sorted offers   == the rows of every part are Falling
--   Merged ms bs cs == in every part ms has the row of bs or of cs that comes first, After which the others are
-- Of two choices the merged one has no greater load than the heavier of them, and it stands before the first unless it is the first.
-- Assumes nothing.
use mathlib.Core.Path.{◌≡◌, refl}
use mathlib.Core.Logic.{◌⊎◌, inl, inr, ⊎_elim}
use mathlib.Core.List.Memᴰ
use mathlib.Core.List.{List, [], ◌∷◌, ◌++◌, map, Memᴰ}
use Prim.Native.Nat.{max, ◌≤◌}
use native.Mathlib.Nat.{le_refl}
use native.Mathlib.Omega.{arith}
use native.Mathlib.Decide.{dec_le}
use lib.ListN.{length}
use Rattle.least.specs.declared.Frac.{Frac}
use Rattle.least.specs.Lists.{joined, greatest, behind}
use Rattle.least.specs.Each.{Each}
use Rattle.least.specs.Each.Each.{none, more}
use Rattle.least.specs.Fraction.{◌⊑◌, greatest_of}
use Rattle.least.proofs.Each.{each_map}
use Rattle.least.proofs.Fraction.{⊑_refl, ⊑_trans, not-⊏, greater_left, greater_right, greater_most, greatest_of_ok}
use Rattle.load.specs.declared.Row.{Row}
use Rattle.load.specs.Load.{row_sum, held_below, bound_of, bounds_of, load_of}
use Rattle.load.proofs.Load.{Asks, bound_of_ok, bound_of_mono, behind_ok}
use Rattle.selection.specs.Selection.{choices, least_loaded}
use Rattle.selection.proofs.Selection.{Picks, choices_iff, FirstBehind, first_member, first_heavier}
use Rattle.selection.proofs.Selection.FirstBehind.{here, later}

pub record After (r s : Row) : Type 0 where
  pub period : r.period ≡ s.period
  pub sums : row_sum r ≤ row_sum s
  pub holds : s.holding ≤ r.holding

pub data Falling : List Row → Type 0 where
  empty : Falling []
  single : {r : Row} → Falling (r ∷ [])
  next : {r s : Row} {rs : List Row} → After r s → Falling (s ∷ rs) → Falling (r ∷ s ∷ rs)

pub data Sorted : List (List Row) → Type 0 where
  no_part : Sorted []
  part : {rows : List Row} {others : List (List Row)} → Falling rows → Sorted others → Sorted (rows ∷ others)

after_refl : (r : Row) → After r r
after_refl r = record { period = refl; sums = le_refl _; holds = le_refl _ }

after_trans : {r s u : Row} → After r s → After s u → After r u
after_trans h k = record { period = cc; sums = omega arith; holds = omega arith }

pub after_asks : {r s : Row} → After r s → Asks r s
after_asks a = record { period = a.period; sums = a.sums }

after_member : {r s : Row} {rs : List Row} → Falling (r ∷ rs) → Memᴰ s rs → After r s
after_member single m = absurd (Memᴰ.not-nil m)
after_member (next a f) (Memᴰ.head e) = rw e a
after_member (next a f) (Memᴰ.tail m) = after_trans a (after_member f m)

falling_rest : {r : Row} {rs : List Row} → Falling (r ∷ rs) → Falling rs
falling_rest single = empty
falling_rest (next a f) = f

-- r is the first behind rows that have Q: another row has Q and comes before it, or comes after it
first_or_after : {Q : Row → Type 0} {r s : Row} {rows : List Row} → Falling rows → FirstBehind Q r rows → Memᴰ s rows → (Q s × After s r) ⊎ After r s
first_or_after f (here e) (Memᴰ.head d) = inr (rw (e, d) (after_refl _))
first_or_after f (here e) (Memᴰ.tail m) = inr (rw e (after_member f m))
first_or_after f (later q k) (Memᴰ.head d) = inl (rw d q, rw d (after_member f (first_member k)))
first_or_after f (later q k) (Memᴰ.tail m) = first_or_after (falling_rest f) k m

-- what stands first in a list that is made from others
module _ {A : Type 0} {P : A → Type 0} where
  none_first : {x : A} → FirstBehind P x [] → ⊥
  none_first f = elim f [ ]

  first_append : {x : A} (xs : List A) {ys : List A} → FirstBehind P x (xs ++ ys) → FirstBehind P x xs ⊎ (((y : A) → Memᴰ y xs → P y) × FirstBehind P x ys)
  first_append [] f = inr ((λ y m. absurd (Memᴰ.not-nil m)), f)
  first_append (z ∷ zs) (here e) = inl (here e)
  first_append (z ∷ zs) (later p f) = ⊎_elim (λ k. inl (later p k)) (λ k. inr (each_too k.0, k.1)) (first_append zs f)
    where
      each_too : ((y : A) → Memᴰ y zs → P y) → (y : A) → Memᴰ y (z ∷ zs) → P y
      each_too f y (Memᴰ.head e) = rw e p
      each_too f y (Memᴰ.tail m) = f y m

module _ {A B : Type 0} {P : B → Type 0} where
  first_joined : {x : B} (g : A → List B) (rs : List A) → FirstBehind P x (joined (map g rs)) → (r : A) × FirstBehind (λ s. (y : B) → Memᴰ y (g s) → P y) r rs × FirstBehind P x (g r)
  unfolding joined
  first_joined g [] f = absurd (none_first f)
  first_joined g (r ∷ rs) f =
      ⊎_elim (λ k. (r, here refl, k)) (λ k. let j = first_joined g rs k.1 in (j.0, later k.0 j.1, j.2)) (first_append (g r) f)

  first_map : {y : B} (f : A → B) (xs : List A) → FirstBehind P y (map f xs) → (x : A) × (y ≡ f x) × FirstBehind (λ z. P (f z)) x xs
  first_map f [] k = absurd (none_first k)
  first_map f (z ∷ zs) (here e) = (z, e, here refl)
  first_map f (z ∷ zs) (later p k) = let j = first_map f zs k in (j.0, j.1, later p j.2)

-- of two rows the one that comes first; of two choices the one of these rows
pub record Earlier (m b c : Row) : Type 0 where
  pub left : After m b
  pub right : After m c
  pub held : m.holding ≤ max b.holding c.holding

pub data Merged : List Row → List Row → List Row → Type 0 where
  end : Merged [] [] []
  row : {m b c : Row} {ms bs cs : List Row} → Earlier m b c → Merged ms bs cs → Merged (m ∷ ms) (b ∷ bs) (c ∷ cs)

merged_left : {ms bs cs : List Row} → Merged ms bs cs → Each Asks ms bs
merged_left end = none
merged_left (row e k) = more (after_asks e.left) (merged_left k)

merged_right : {ms bs cs : List Row} → Merged ms bs cs → Each Asks ms cs
merged_right end = none
merged_right (row e k) = more (after_asks e.right) (merged_right k)

-- the merged choice: its rows are blocked as in one of the two choices, and ask no more than in either
module _ (l : Frac) where
  bound_merged : (lm lb lc : List Row) {m b c : Row} {ms bs cs : List Row} → held_below lm ≤ max (held_below lb) (held_below lc) → Earlier m b c → Merged ms bs cs
      → bound_of lb b bs ⊑ l → bound_of lc c cs ⊑ l → bound_of lm m ms ⊑ l
  bound_merged lm lb lc {m} {b} {c} {ms} {bs} {cs} h e k x y = go (dec_le (held_below lm) (held_below lb))
    where
      go : Dec (held_below lm ≤ held_below lb) → bound_of lm m ms ⊑ l
      go (yes u) = ⊑_trans (bound_of_ok lb b bs) (bound_of_mono lm lb u (after_asks e.left) (merged_left k)) x
      go (no u) = ⊑_trans (bound_of_ok lc c cs) (bound_of_mono lm lc (omega arith) (after_asks e.right) (merged_right k)) y

  first_below : (lower : List Row) (r : Row) (rs : List Row) → greatest_of (behind bound_of lower (r ∷ rs)) ⊑ l → bound_of lower r rs ⊑ l
  unfolding behind greatest_of
  first_below lower r rs h = ⊑_trans (greatest_of_ok _ (behind_ok lower (r ∷ rs))) (greater_left _ _) h

  rest_below : (lower : List Row) (r : Row) (rs : List Row) → greatest_of (behind bound_of lower (r ∷ rs)) ⊑ l → greatest_of (behind bound_of (r ∷ lower) rs) ⊑ l
  unfolding behind greatest_of
  rest_below lower r rs h = ⊑_trans (greatest_of_ok _ (behind_ok lower (r ∷ rs))) (greater_right _ _) h

  held_merged : (lm lb lc : List Row) {m b c : Row} → held_below lm ≤ max (held_below lb) (held_below lc) → Earlier m b c → held_below (m ∷ lm) ≤ max (held_below (b ∷ lb)) (held_below (c ∷ lc))
  unfolding greatest
  held_merged lm lb lc h e = omega (arith, e.held)

  behind_merged : (lm lb lc : List Row) {ms bs cs : List Row} → held_below lm ≤ max (held_below lb) (held_below lc) → Merged ms bs cs
      → greatest_of (behind bound_of lb bs) ⊑ l → greatest_of (behind bound_of lc cs) ⊑ l → greatest_of (behind bound_of lm ms) ⊑ l
  unfolding behind greatest_of
  behind_merged lm lb lc h end x y = x
  behind_merged lm lb lc h (row {m} {b} {c} {ms} {bs} {cs} e k) x y =
      greater_most (bound_merged lm lb lc h e k (first_below lb b bs x) (first_below lc c cs y))
      (behind_merged (m ∷ lm) (b ∷ lb) (c ∷ lc) (held_merged lm lb lc h e) k (rest_below lb b bs x) (rest_below lc c cs y))

pub load_merged : {ms bs cs : List Row} → Merged ms bs cs → load_of cs ⊑ load_of bs → load_of ms ⊑ load_of bs
unfolding load_of bounds_of
load_merged {ms} {bs} {cs} k h = behind_merged (load_of bs) [] [] [] (omega arith) k (⊑_refl _) h

-- what is merged of the first choice and another has P, or the other comes after the first in every part
pub record MergedBefore (P : List Row → Type 0) (offers : List (List Row)) (bs cs : List Row) : Type 0 where
  pub choice : List Row
  pub picks : Picks offers choice
  pub before : P choice
  pub merged : Merged choice bs cs

own_merged : {bs cs : List Row} → Each After bs cs → Merged bs bs cs
own_merged none = end
own_merged (more a k) = row (record { left = after_refl _; right = a; held = omega arith }) (own_merged k)

module _ (P : List Row → Type 0) (rows : List Row) (others : List (List Row)) (r s : Row) (bs cs : List Row) where
  -- the row s of the part and any choice of the others have P together
  abbrev EachHas : Type 0
  EachHas = (d : List Row) → Memᴰ d (map (λ e. s ∷ e) (choices others)) → P d

  s_before : Memᴰ s rows → EachHas → After s r → (d : List Row) → Picks others d → Merged d bs cs → MergedBefore P (rows ∷ others) (r ∷ bs) (s ∷ cs)
  s_before m q a d p k = record {
    choice = s ∷ d;
    picks = more m p;
    before = q (s ∷ d) (Memᴰ.map (λ e. s ∷ e) ((choices_iff others d).1 p));
    merged = row (record { left = a; right = after_refl s; held = omega arith }) k;
  }

  r_before : Memᴰ r rows → After r s → MergedBefore (λ d. P (r ∷ d)) others bs cs → MergedBefore P (rows ∷ others) (r ∷ bs) (s ∷ cs)
  r_before m a k = record {
    choice = r ∷ k.choice;
    picks = more m k.picks;
    before = k.before;
    merged = row (record { left = after_refl r; right = a; held = omega arith }) k.merged;
  }

  part_merged : Memᴰ r rows → Memᴰ s rows → Picks others bs → (EachHas × After s r) ⊎ After r s → MergedBefore (λ d. P (r ∷ d)) others bs cs ⊎ Each After bs cs
      → MergedBefore P (rows ∷ others) (r ∷ bs) (s ∷ cs) ⊎ Each After (r ∷ bs) (s ∷ cs)
  part_merged m n p (inl q) (inl k) = inl (s_before n q.0 q.1 k.choice k.picks k.merged)
  part_merged m n p (inl q) (inr e) = inl (s_before n q.0 q.1 bs p (own_merged e))
  part_merged m n p (inr a) (inl k) = inl (r_before m a k)
  part_merged m n p (inr a) (inr e) = inr (more a e)

only_first : {A : Type 0} {P : A → Type 0} {x y : A} → FirstBehind P x (y ∷ []) → x ≡ y
only_first (here e) = e
only_first (later p f) = absurd (none_first f)

merged_or_after : (P : List Row → Type 0) {offers : List (List Row)} {bs cs : List Row} → Sorted offers → FirstBehind P bs (choices offers) → Picks offers cs
    → MergedBefore P offers bs cs ⊎ Each After bs cs
unfolding choices
merged_or_after P no_part f none = inr (rw (only_first f) none)
merged_or_after P (part {rows} {others} w ws) f (more {y = s} {ys = cs} m ms) =
    let j = first_joined (λ r. map (λ d. r ∷ d) (choices others)) rows f in
    let k = first_map (λ d. j.0 ∷ d) (choices others) j.2 in
    rw k.1
    (part_merged P rows others j.0 s k.0 cs (first_member j.1) m ((choices_iff others _).0 (first_member k.2))
    (first_or_after w j.1 m) (merged_or_after (λ d. P (j.0 ∷ d)) ws k.2 ms))

pub member_some : {A : Type 0} {x : A} {xs : List A} → Memᴰ x xs → 1 ≤ length xs
member_some (Memᴰ.head e) = omega arith
member_some (Memᴰ.tail m) = omega arith

pub least_loaded_greatest : {offers : List (List Row)} → Sorted offers → (c : List Row) → Memᴰ c (choices offers) → load_of c ⊑ load_of (least_loaded (choices offers))
    → Each (λ r s. s.holding ≤ r.holding) (least_loaded (choices offers)) c
least_loaded_greatest {offers} w c m h =
    ⊎_elim (λ k. absurd (not-⊏ k.before (load_merged k.merged h))) (each_map (λ r s a. a.holds))
    (merged_or_after _ w (first_heavier (choices offers) (member_some m)) ((choices_iff offers c).0 m))
