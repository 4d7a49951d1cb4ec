-- Laws of fractions. 1/0 is the greatest; the order is transitive where the middle one is not 0/0.
--   Ok a          == a is not 0/0;  Finite a == the denominator is positive
--   Reached n g x == x is g at some t, 1 ≤ t ≤ n, and g is greater at every smaller time
-- Assumes nothing.
use mathlib.Core.Path.{◌≡◌, refl, sym, ap, ◌∙◌, subst}
use mathlib.Core.Logic.{◌⊎◌, inl, inr, ⊎_elim}
use mathlib.Core.Bool.{Bool, true, false, cond}
use mathlib.Core.List.{List, [], ◌∷◌, Memᴰ}
use Prim.Native.Nat.{ℕ, zero, suc, ◌*◌, ◌+◌, ◌≤◌, ◌<◌, zero-le}
use native.Mathlib.Nat.{le_refl, mul-le-mul_right, le_of_mul-le-mul_right, le_of_mul-le-mul_left, mul_right_comm, mul-zero, one-mul, eq-or-lt_of_le}
use native.Mathlib.Omega.{arith}
use native.Mathlib.Decide.{dec_lt, ℕ_discrete}
use borrow.Author.Count.{below_more}
use borrow.Author.Tests.{ltb-true, ltb-false, leb-true, leb-false, lt-ltb, le-ltb, le-leb, lt-leb}
use lib.Dec.{leb, ltb}
use lib.ListN.{length, take, get_or}
use lib.Seq.{get_or-take, length-take-le}
use Rattle.least.proofs.Members.{each_place, get_d_any, get_d_member}
use Rattle.least.specs.declared.Frac.{Frac}
use Rattle.least.specs.Each.{Each}
use Rattle.least.specs.Each.Each.{none, more}
use Rattle.least.specs.Fraction.{frac, no_bound, ◌⊑◌, ◌⊏◌, less, at_most, lesser, greater, least_over, greatest_of}

pub record Ok (a : Frac) : Type 0 where
  pub some : 0 < a.num + a.den

pub record Finite (a : Frac) : Type 0 where
  pub pos : 0 < a.den

-- a choice by a test: what holds of each answer under what the test says holds of the choice
pub cond_lt : {A : Type 0} (P : A → Type 0) (m n : ℕ) {x y : A} → (m < n → P x) → (n ≤ m → P y) → P (cond (ltb m n) x y)
cond_lt {A} P m n {x} {y} f g = go (ltb m n) refl
  where
    go : (t : Bool) → ltb m n ≡ t → P (cond t x y)
    go true e = f (ltb-true m n e)
    go false e = g (ltb-false m n e)

pub cond_le : {A : Type 0} (P : A → Type 0) (m n : ℕ) {x y : A} → (m ≤ n → P x) → (n < m → P y) → P (cond (leb m n) x y)
cond_le {A} P m n {x} {y} f g = go (leb m n) refl
  where
    go : (t : Bool) → leb m n ≡ t → P (cond t x y)
    go true e = f (leb-true m n e)
    go false e = g (leb-false m n e)

pub lesser_ind : (P : Frac → Type 0) (a b : Frac) → (b ⊏ a → P b) → (a ⊑ b → P a) → P (lesser a b)
unfolding lesser
lesser_ind P a b f g = cond_lt P _ _ (λ h. f (record { cross = h })) (λ h. g (record { cross = h }))

pub greater_ind : (P : Frac → Type 0) (a b : Frac) → (a ⊏ b → P b) → (b ⊑ a → P a) → P (greater a b)
unfolding greater
greater_ind P a b f g = cond_lt P _ _ (λ h. f (record { cross = h })) (λ h. g (record { cross = h }))

-- the order
pub ⊑_refl : (a : Frac) → a ⊑ a
⊑_refl a = record { cross = le_refl _ }

pub ⊏-⊑ : {a b : Frac} → a ⊏ b → a ⊑ b
⊏-⊑ h = omega arith

pub not-⊏ : {a b : Frac} → a ⊏ b → b ⊑ a → ⊥
not-⊏ h k = omega arith

-- a/b ≤ c/d ≤ e/f
cross : (a b c d e f : ℕ) → 0 < c + d → a * d ≤ c * b → c * f ≤ e * d → a * f ≤ e * b
cross a b c zero e f ok h k =
    let z : f ≤ 0 = le_of_mul-le-mul_left {k = c} (omega arith) (omega arith) in
    let z' : f ≡ 0 = omega arith in
    simp (z', mul-zero) zero-le
cross a b c (suc d) e f ok h k =
    le_of_mul-le-mul_right {k = suc d}
    (omega (arith, mul-le-mul_right f h, mul-le-mul_right b k, mul_right_comm a f (suc d), mul_right_comm c b f, mul_right_comm e (suc d) b))
    (omega arith)

pub ⊑_trans : {a b c : Frac} → Ok b → a ⊑ b → b ⊑ c → a ⊑ c
⊑_trans ok h k = record { cross = cross _ _ _ _ _ _ ok.some h.cross k.cross }

pub ⊑-noBound : (a : Frac) → a ⊑ no_bound
⊑-noBound a = record { cross = simp (mul-zero, one-mul) zero-le }

pub ⊏-or-⊑ : (a b : Frac) → (a ⊏ b) ⊎ (b ⊑ a)
⊏-or-⊑ a b = cond_lt {A = Unit {0}} (λ _. (a ⊏ b) ⊎ (b ⊑ a)) (a.num * b.den) (b.num * a.den) {x = tt} {y = tt} (λ h. inl (record { cross = h })) (λ h. inr (record { cross = h }))

pub ⊏-trans : {a b c : Frac} → Ok a → a ⊏ b → b ⊏ c → a ⊏ c
⊏-trans {a} {b} {c} ok h k = ⊎_elim (λ l. l) (λ g. absurd (not-⊏ k (⊑_trans ok g (⊏-⊑ h)))) (⊏-or-⊑ a c)

pub ⊏-⊑-trans : {a b c : Frac} → Ok c → a ⊏ b → b ⊑ c → a ⊏ c
⊏-⊑-trans {a} {b} {c} ok h k = ⊎_elim (λ l. l) (λ g. absurd (not-⊏ h (⊑_trans ok k g))) (⊏-or-⊑ a c)

pub ⊑-⊏-trans : {a b c : Frac} → Ok a → a ⊑ b → b ⊏ c → a ⊏ c
⊑-⊏-trans {a} {b} {c} ok h k = ⊎_elim (λ l. l) (λ g. absurd (not-⊏ k (⊑_trans ok g h))) (⊏-or-⊑ a c)

-- the test a ⊑ b
pub at_most_true : (a b : Frac) → a ⊑ b → at_most a b ≡ true
at_most_true a b h = le-leb _ _ h.cross

pub at_most_false : (a b : Frac) → b ⊏ a → at_most a b ≡ false
at_most_false a b h = lt-leb _ _ h.cross

-- the test a ⊏ b
pub less_true : (a b : Frac) → less a b ≡ true → a ⊏ b
less_true a b e = record { cross = ltb-true _ _ e }

pub less_false : (a b : Frac) → less a b ≡ false → b ⊑ a
less_false a b e = record { cross = ltb-false _ _ e }

-- the lesser and the greater of two
pub lesser_left : (a b : Frac) → lesser a b ⊑ a
lesser_left a b = lesser_ind (λ x. x ⊑ a) a b ⊏-⊑ (λ h. ⊑_refl a)

pub lesser_right : (a b : Frac) → lesser a b ⊑ b
lesser_right a b = lesser_ind (λ x. x ⊑ b) a b (λ h. ⊑_refl b) (λ h. h)

pub lesser_least : {x a b : Frac} → x ⊑ a → x ⊑ b → x ⊑ lesser a b
lesser_least {x} {a} {b} f g = lesser_ind (λ y. x ⊑ y) a b (λ h. g) (λ h. f)

pub lesser_ok : {a b : Frac} → Ok a → Ok b → Ok (lesser a b)
lesser_ok {a} {b} f g = lesser_ind Ok a b (λ h. g) (λ h. f)

pub lesser_lt : {a b : Frac} → b ⊏ a → lesser a b ≡ b
unfolding lesser
lesser_lt h = simp (lt-ltb _ _ h.cross)

pub lesser_ge : {a b : Frac} → a ⊑ b → lesser a b ≡ a
unfolding lesser
lesser_ge h = simp (le-ltb _ _ h.cross)

pub greater_left : (a b : Frac) → a ⊑ greater a b
greater_left a b = greater_ind (λ x. a ⊑ x) a b ⊏-⊑ (λ h. ⊑_refl a)

pub greater_right : (a b : Frac) → b ⊑ greater a b
greater_right a b = greater_ind (λ x. b ⊑ x) a b (λ h. ⊑_refl b) (λ h. h)

pub greater_most : {x a b : Frac} → a ⊑ x → b ⊑ x → greater a b ⊑ x
greater_most {x} {a} {b} f g = greater_ind (λ y. y ⊑ x) a b (λ h. g) (λ h. f)

pub greater_ok : {a b : Frac} → Ok a → Ok b → Ok (greater a b)
greater_ok {a} {b} f g = greater_ind Ok a b (λ h. g) (λ h. f)

pub greater_lt : {a b : Frac} → a ⊏ b → greater a b ≡ b
unfolding greater
greater_lt h = simp (lt-ltb _ _ h.cross)

pub greater_ge : {a b : Frac} → b ⊑ a → greater a b ≡ a
unfolding greater
greater_ge h = simp (le-ltb _ _ h.cross)

-- finite fractions
pub no_bound_not_finite : Finite no_bound → ⊥
no_bound_not_finite f = omega (arith, f.pos)

pub finite_ok : {a : Frac} → Finite a → Ok a
finite_ok f = record { some = omega (arith, f.pos) }

pub finite_below : {a b : Frac} → Ok a → a ⊑ b → Finite b → Finite a
finite_below {a} {b} ok h f = go a.den refl
  where
    go : (d : ℕ) → a.den ≡ d → Finite a
    go zero e =
        let k : a.num * b.den ≤ b.num * 0 = rw e at h.cross in
        let z : b.den ≤ 0 = le_of_mul-le-mul_left {k = a.num} (omega arith) (omega arith) in
        absurd (omega arith)
    go (suc d) e = record { pos = omega arith }

-- the least over a range
pub record Reached (n : ℕ) (g : ℕ → Frac) (x : Frac) : Type 0 where
  pub at : ℕ
  pub above : 0 < at
  pub within : at ≤ n
  pub value : x ≡ g at
  pub before : (t : ℕ) → 0 < t → t < at → x ⊏ g t

module _ (g : ℕ → Frac) (ok : (t : ℕ) → 0 < t → Ok (g t)) where
  pub least_over_ok : (n : ℕ) → Ok (least_over n g)
  unfolding least_over
  least_over_ok zero = record { some = omega arith }
  least_over_ok (suc n) = lesser_ok (least_over_ok n) (ok (suc n) (omega arith))

  pub least_over_below : (n t : ℕ) → 0 < t → t ≤ n → least_over n g ⊑ g t
  unfolding least_over
  least_over_below zero t h k = absurd (omega arith)
  least_over_below (suc n) t h k =
      ⊎_elim (λ e. rw e (lesser_right _ _)) (λ l. ⊑_trans (least_over_ok n) (lesser_left _ _) (least_over_below n t h (omega arith))) (eq-or-lt_of_le k)

  pub least_over_above : {x : Frac} (n : ℕ) → ((t : ℕ) → 0 < t → t ≤ n → x ⊑ g t) → x ⊑ least_over n g
  unfolding least_over
  least_over_above zero f = ⊑-noBound _
  least_over_above (suc n) f = lesser_least (least_over_above n (λ t h k. f t h (omega arith))) (f (suc n) (omega arith) (le_refl _))

  pub least_over_mono : (h : ℕ → Frac) → ((t : ℕ) → g t ⊑ h t) → (n : ℕ) → least_over n g ⊑ least_over n h
  unfolding least_over
  least_over_mono h m zero = ⊑_refl _
  least_over_mono h m (suc n) =
      lesser_least (⊑_trans (least_over_ok n) (lesser_left _ _) (least_over_mono h m n))
      (⊑_trans (ok (suc n) (omega arith)) (lesser_right _ _) (m (suc n)))

  pub least_over_reached : (n : ℕ) → (least_over n g ≡ no_bound) ⊎ Reached n g (least_over n g)
  unfolding least_over
  least_over_reached zero = inl refl
  least_over_reached (suc n) =
      lesser_ind (λ x. (x ≡ no_bound) ⊎ Reached (suc n) g x) _ _
      (λ h. inr (record {
        at = suc n;
        above = omega arith;
        within = le_refl _;
        value = refl;
        before = λ t k l. ⊏-⊑-trans (ok t k) h (least_over_below n t k (omega arith));
      }))
      (λ _. ⊎_elim inl
      (λ r. inr (record { at = r.at; above = r.above; within = omega (arith, r.within); value = r.value; before = r.before }))
      (least_over_reached n))

module _ (g : ℕ → Frac) (n : ℕ) where
  -- later values that are no smaller leave the least as it is
  pub least_over_stays : (m : ℕ) → n ≤ m → ((u : ℕ) → n < u → u ≤ m → least_over n g ⊑ g u) → least_over m g ≡ least_over n g
  unfolding least_over
  least_over_stays zero l h = let e : 0 ≡ n = omega arith in ap (λ (k : ℕ). least_over k g) e
  least_over_stays (suc m) l h = go (eq-or-lt_of_le l) (λ k. least_over_stays m k (λ u p q. h u p (omega arith)))
    where
      go : (n ≡ suc m) ⊎ (n < suc m) → (n ≤ m → least_over m g ≡ least_over n g) → lesser (least_over m g) (g (suc m)) ≡ least_over n g
      go (inl e) ih = ap (λ (k : ℕ). least_over k g) (sym e)
      go (inr k) ih = rw (ih (omega arith)) (lesser_ge (h (suc m) k (le_refl _)))

  least_over_over : (y : Frac) (m : ℕ) → n ≤ m → y ⊏ least_over n g → ((u : ℕ) → n < u → u ≤ m → y ⊏ g u) → y ⊏ least_over m g
  unfolding least_over
  least_over_over y zero l k h = let e : n ≡ 0 = omega arith in subst (λ (i : ℕ). y ⊏ least_over i g) e k
  least_over_over y (suc m) l k h = go (eq-or-lt_of_le l) (λ j. least_over_over y m j k (λ u p q. h u p (omega arith)))
    where
      go : (n ≡ suc m) ⊎ (n < suc m) → (n ≤ m → y ⊏ least_over m g) → y ⊏ least_over (suc m) g
      go (inl e) ih = subst (λ (i : ℕ). y ⊏ least_over i g) e k
      go (inr j) ih = lesser_ind (λ x. y ⊏ x) _ _ (λ _. h (suc m) j (le_refl _)) (λ _. ih (omega arith))

  -- a value that is smaller than the least and than all between takes its place
  pub least_over_falls : (m : ℕ) → n < m → g m ⊏ least_over n g → ((u : ℕ) → n < u → u < m → g m ⊏ g u) → least_over m g ≡ g m
  unfolding least_over
  least_over_falls zero l k h = absurd (omega arith)
  least_over_falls (suc m) l k h = lesser_lt (least_over_over (g (suc m)) m (omega arith) k (λ u p q. h u p (omega arith)))

-- the greatest of a list
abbrev pub AllOk : List Frac → Type 0
AllOk xs = (x : Frac) → Memᴰ x xs → Ok x

rest_ok : {x : Frac} {xs : List Frac} → AllOk (x ∷ xs) → AllOk xs
rest_ok ok y m = ok y (Memᴰ.tail m)

pub greatest_of_ok : (xs : List Frac) → AllOk xs → Ok (greatest_of xs)
unfolding greatest_of
greatest_of_ok [] ok = record { some = omega arith }
greatest_of_ok (x ∷ xs) ok = greater_ok (ok x (Memᴰ.head refl)) (greatest_of_ok xs (rest_ok ok))

pub greatest_of_above : {x : Frac} {xs : List Frac} → AllOk xs → Memᴰ x xs → x ⊑ greatest_of xs
unfolding greatest_of
greatest_of_above ok (Memᴰ.head e) = rw e (greater_left _ _)
greatest_of_above ok (Memᴰ.tail {xs} m) = ⊑_trans (greatest_of_ok xs (rest_ok ok)) (greatest_of_above (rest_ok ok) m) (greater_right _ _)

pub greatest_of_member : (x : Frac) (xs : List Frac) → Memᴰ (greatest_of (x ∷ xs)) (x ∷ xs)
unfolding greatest_of
greatest_of_member x [] = greater_ind (λ y. Memᴰ y (x ∷ [])) x (frac 0 1) (λ h. absurd (omega arith)) (λ _. Memᴰ.head refl)
greatest_of_member x (y ∷ ys) =
    greater_ind (λ z. Memᴰ z (x ∷ y ∷ ys)) x (greatest_of (y ∷ ys)) (λ _. Memᴰ.tail (greatest_of_member y ys)) (λ _. Memᴰ.head refl)

-- j is the place, from 0, of the first element that reaches the greatest
pub record FirstGreatest (xs : List Frac) (j : ℕ) : Type 0 where
  pub within : j < length xs
  pub value : get_or xs j (frac 0 1) ≡ greatest_of xs
  pub before : (k : ℕ) → k < j → get_or xs k (frac 0 1) ⊏ greatest_of xs

greatest_of_later : (x : Frac) (xs : List Frac) (j : ℕ) → x ⊏ greatest_of xs → FirstGreatest xs j → FirstGreatest (x ∷ xs) (suc j)
unfolding greatest_of
greatest_of_later x xs j h f = record { within = omega arith; value = f.value ∙ sym (greater_lt h); before = before }
  where
    before : (k : ℕ) → k < suc j → get_or (x ∷ xs) k (frac 0 1) ⊏ greater x (greatest_of xs)
    before zero l = rw (greater_lt h) h
    before (suc k) l = rw (greater_lt h) (f.before k (omega arith))

greatest_of_here : (x : Frac) (xs : List Frac) → greatest_of xs ⊑ x → FirstGreatest (x ∷ xs) 0
unfolding greatest_of
greatest_of_here x xs h = record { within = omega arith; value = sym (greater_ge h); before = λ k l. absurd (omega arith) }

pub greatest_of_first : (x : Frac) (xs : List Frac) → (j : ℕ) × FirstGreatest (x ∷ xs) j
unfolding greatest_of
greatest_of_first x [] = (0, greatest_of_here x [] (record { cross = omega arith }))
greatest_of_first x (y ∷ ys) =
    let r = greatest_of_first y ys in
    ⊎_elim (λ h. (suc r.0, greatest_of_later x (y ∷ ys) r.0 h r.1)) (λ h. (0, greatest_of_here x (y ∷ ys) h)) (⊏-or-⊑ x (greatest_of (y ∷ ys)))

pub first_if_any : (xs : List Frac) → 1 ≤ length xs → (j : ℕ) × FirstGreatest xs j
first_if_any [] h = absurd (omega arith)
first_if_any (x ∷ xs) h = greatest_of_first x xs

-- the greatest of no greater fractions is no greater
pub greatest_of_mono : {xs ys : List Frac} → AllOk xs → AllOk ys → Each (λ x y. x ⊑ y) xs ys → greatest_of xs ⊑ greatest_of ys
unfolding greatest_of
greatest_of_mono okx oky none = ⊑_refl _
greatest_of_mono okx oky (more {x} {y} {xs} {ys} h hs) =
    greater_most (⊑_trans (oky y (Memᴰ.head refl)) h (greater_left _ _))
    (⊑_trans (greatest_of_ok ys (rest_ok oky)) (greatest_of_mono (rest_ok okx) (rest_ok oky) hs) (greater_right _ _))

-- the first i elements: j is the place of the first that reaches the greatest of them
pub record Leads (d : Frac) (xs : List Frac) (i j : ℕ) : Type 0 where
  pub within : j < i
  pub above : (k : ℕ) → k < i → get_or xs k d ⊑ get_or xs j d
  pub before : (k : ℕ) → k < j → get_or xs k d ⊏ get_or xs j d

module _ (d : Frac) (xs : List Frac) where
  -- one element more
  pub leads_on : (i j : ℕ) → Leads d xs i j → get_or xs i d ⊑ get_or xs j d → Leads d xs (i + 1) j
  leads_on i j f h = record { within = omega (arith, f.within); above = below_more (λ k. get_or xs k d ⊑ get_or xs j d) i f.above h; before = f.before }

  pub leads_over : (i j : ℕ) → ((k : ℕ) → k < i → Ok (get_or xs k d)) → Leads d xs i j → get_or xs j d ⊏ get_or xs i d → Leads d xs (i + 1) i
  leads_over i j ok f h = record {
    within = omega arith;
    above = below_more (λ k. get_or xs k d ⊑ get_or xs i d) i (λ k l. ⊏-⊑ (⊑-⊏-trans (ok k l) (f.above k l) h)) (⊑_refl _);
    before = λ k l. ⊑-⊏-trans (ok k l) (f.above k l) h;
  }

  leads_first : (i j m : ℕ) → Leads d xs i j → i ≡ length xs → AllOk xs → FirstGreatest xs m → Dec (j ≡ m) → j ≡ m
  leads_first i j m f e ok g (yes q) = q
  leads_first i j m f e ok g (no q) = absurd (go (dec_lt j m))
    where
      in_place : (k : ℕ) → k < length xs → get_or xs k d ≡ get_or xs k (frac 0 1)
      in_place k h = get_d_any xs k d (frac 0 1) h

      go : Dec (j < m) → ⊥
      go (yes h) = not-⊏ (g.before j h) (rw (sym g.value, ← in_place j (omega (arith, f.within)), ← in_place m g.within) (f.above m (omega (arith, g.within))))
      go (no h) =
          let k : m < j = omega arith in
          not-⊏ (rw (in_place m g.within, in_place j (omega (arith, f.within)), g.value) at (f.before m k)) (greatest_of_above ok (get_d_member xs j (frac 0 1) (omega (arith, f.within))))

  leads_end : (i j : ℕ) → Leads d xs i j → i ≡ length xs → AllOk xs → FirstGreatest xs j
  leads_end i j f e ok =
      let g = first_if_any xs (omega (arith, f.within)) in
      subst (FirstGreatest xs) (sym (leads_first i j g.0 f e ok g.1 (ℕ_discrete j g.0))) g.1

-- the first n elements of a list
pub leads_in : (d : Frac) (xs : List Frac) (n j : ℕ) → n ≤ length xs → ((k : ℕ) → k < n → Ok (get_or xs k d)) → Leads d xs n j → FirstGreatest (take n xs) j
leads_in d xs n j l ok f =
    let e : length (take n xs) ≡ n = length-take-le n xs l in
    leads_end d (take n xs) n j
    (record {
      within = f.within;
      above = λ k h. rw (get_or-take n xs k d h, get_or-take n xs j d f.within) (f.above k h);
      before = λ k h. rw (get_or-take n xs k d (omega (arith, f.within)), get_or-take n xs j d f.within) (f.before k h);
    })
    (sym e)
    (each_place d Ok (take n xs) (λ k h. let i : k < n = omega arith in rw (get_or-take n xs k d i) (ok k i)))
