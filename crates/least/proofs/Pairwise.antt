-- A relation between each element of a list and each that stands behind it. Where it never holds both ways round, the members of such a list are all there is to know of it.
-- Assumes nothing.
use mathlib.Core.Path.{◌≡◌, refl, sym, ap₂, ◌∙◌, subst}
use mathlib.Core.Bool.{Bool, true, false}
use mathlib.Core.Logic.{◌⊎◌, inl, inr, ⊎_elim}
use mathlib.Core.List.Memᴰ
use mathlib.Core.List.{List, [], ◌∷◌, ◌++◌, Memᴰ}
use Rattle.least.specs.Lists.{those}
use Rattle.least.proofs.Lists.{those_pass, those_fail, those_member}

pub data Pairwise {A : Type 0} (R : A → A → Type 0) : List A → Type 0 where
  none : Pairwise R []
  more : {x : A} {xs : List A} → ((y : A) → Memᴰ y xs → R x y) → Pairwise R xs → Pairwise R (x ∷ xs)

module _ {A : Type 0} {R : A → A → Type 0} where
  pub pairwise_those : (test : A → Bool) {xs : List A} → Pairwise R xs → Pairwise R (those test xs)
  unfolding those
  pairwise_those test none = none
  pairwise_those test (more {x} {xs} h p) = go (pairwise_those test p) (test x) refl
    where
      go : Pairwise R (those test xs) → (b : Bool) → test x ≡ b → Pairwise R (those test (x ∷ xs))
      go q true t = rw (those_pass test x xs t) (more (λ y m. h y (those_member test xs m).0) q)
      go q false t = rw (those_fail test x xs t) q

  -- another relation that holds between members wherever the first does
  pub pairwise_map : {S : A → A → Type 0} {xs : List A} → ((x y : A) → Memᴰ x xs → Memᴰ y xs → R x y → S x y) → Pairwise R xs → Pairwise S xs
  pairwise_map f none = none
  pairwise_map f (more {x} {xs} h p) =
      more (λ y m. f x y (Memᴰ.head refl) (Memᴰ.tail m) (h y m)) (pairwise_map (λ y z m k. f y z (Memᴰ.tail m) (Memᴰ.tail k)) p)

  -- one more element at the end
  pub pairwise_snoc : {y : A} {xs : List A} → Pairwise R xs → ((x : A) → Memᴰ x xs → R x y) → Pairwise R (xs ++ (y ∷ []))
  pairwise_snoc none l = more (λ z m. absurd (Memᴰ.not-nil m)) none
  pairwise_snoc {y} (more {x} {xs} h p) l = more behind (pairwise_snoc p (λ z m. l z (Memᴰ.tail m)))
    where
      behind : (z : A) → Memᴰ z (xs ++ (y ∷ [])) → R x z
      behind z m =
          ⊎_elim (λ (q : Memᴰ z xs). h z q) (λ (q : Memᴰ z (y ∷ [])). subst (R x) (sym (Memᴰ.eq_of_singleton q)) (l x (Memᴰ.head refl))) (Memᴰ.append_cases xs m)

  pub pairwise_front : (xs ys : List A) → Pairwise R (xs ++ ys) → Pairwise R xs
  pairwise_front [] ys p = none
  pairwise_front (x ∷ xs) ys (more h p) = more (λ y m. h y (Memᴰ.append_left ys m)) (pairwise_front xs ys p)

  pub pairwise_across : (xs : List A) {ys : List A} {x y : A} → Pairwise R (xs ++ ys) → Memᴰ x xs → Memᴰ y ys → R x y
  pairwise_across [] {ys = ys} {x = x} {y = y} _ x6 k = elim x6 [ ]
  pairwise_across (z ∷ xs) {ys} {x} {y} (more h p) (Memᴰ.head e) k = subst (λ (v : A). R v y) (sym e) (h y (Memᴰ.append_right xs k))
  pairwise_across (z ∷ xs) (more h p) (Memᴰ.tail m) k = pairwise_across xs p m k

  -- of two members, one stands behind the other or they are the same
  pub pairwise_members : {x y : A} {xs : List A} → Pairwise R xs → Memᴰ x xs → Memᴰ y xs → (x ≡ y) ⊎ (R x y ⊎ R y x)
  pairwise_members {x = x} {y = y} none x6 _ = elim x6 [ ]
  pairwise_members (more h p) (Memᴰ.head e) (Memᴰ.head f) = inl (e ∙ sym f)
  pairwise_members {x} {y} (more h p) (Memᴰ.head e) (Memᴰ.tail k) = inr (inl (subst (λ (v : A). R v y) (sym e) (h y k)))
  pairwise_members {x} {y} (more h p) (Memᴰ.tail m) (Memᴰ.head f) = inr (inr (subst (λ (v : A). R v x) (sym f) (h x m)))
  pairwise_members (more h p) (Memᴰ.tail m) (Memᴰ.tail k) = pairwise_members p m k

-- where R never holds both ways round
module _ {A : Type 0} (R : A → A → Type 0) (once : (x y : A) → R x y → R y x → ⊥) where
  abbrev pub Into : List A → List A → Type 0
  Into xs ys = (z : A) → Memᴰ z xs → Memᴰ z ys

  -- the first elements are the same, and so are the members behind them
  first_same : (x y : A) (xs ys : List A) → ((z : A) → Memᴰ z xs → R x z) → ((z : A) → Memᴰ z ys → R y z) → Into (x ∷ xs) (y ∷ ys) → Into (y ∷ ys) (x ∷ xs) → x ≡ y
  first_same x y xs ys h k to from = go (Memᴰ.cases_cons (to x (Memᴰ.head refl))) (Memᴰ.cases_cons (from y (Memᴰ.head refl)))
    where
      go : (x ≡ y) ⊎ Memᴰ x ys → (y ≡ x) ⊎ Memᴰ y xs → x ≡ y
      go (inl e) d = e
      go (inr m) (inl e) = sym e
      go (inr m) (inr n) = absurd (once x y (h y n) (k x m))

  behind_into : (x y : A) (xs ys : List A) → ((z : A) → Memᴰ z xs → R x z) → x ≡ y → Into (x ∷ xs) (y ∷ ys) → Into xs ys
  behind_into x y xs ys h e to z m = ⊎_elim same (λ (q : Memᴰ z ys). q) (Memᴰ.cases_cons (to z (Memᴰ.tail m)))
    where
      same : z ≡ y → Memᴰ z ys
      same q = let r : R x x = subst (R x) (q ∙ sym e) (h z m) in absurd (once x x r r)

  pub pairwise_unique : (xs ys : List A) → Pairwise R xs → Pairwise R ys → Into xs ys → Into ys xs → xs ≡ ys
  pairwise_unique [] [] p q to from = refl
  pairwise_unique [] (y ∷ ys) p q to from = absurd (Memᴰ.not-nil (from y (Memᴰ.head refl)))
  pairwise_unique (x ∷ xs) [] p q to from = absurd (Memᴰ.not-nil (to x (Memᴰ.head refl)))
  pairwise_unique (x ∷ xs) (y ∷ ys) (more h p) (more k q) to from =
      let e = first_same x y xs ys h k to from in
      ap₂ ◌∷◌ e (pairwise_unique xs ys p q (behind_into x y xs ys h e to) (behind_into y x ys xs k (sym e) from))
