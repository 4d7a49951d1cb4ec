-- Laws of `Each`: the relation may be weakened, each list is related to itself, both lists have one length, and the relation place by place.
-- Assumes nothing.
use mathlib.Core.Path.{◌≡◌, refl, ap}
use mathlib.Core.List.{List, [], ◌∷◌}
use Prim.Native.Nat.{ℕ, zero, suc, ◌<◌}
use native.Mathlib.Omega.{arith}
use lib.ListN.{length, drop, get_or}
use Rattle.least.specs.Each.{Each}
use Rattle.least.specs.Each.Each.{none, more}

pub each_map : {A B : Type 0} {R S : A → B → Type 0} → ((x : A) (y : B) → R x y → S x y) → {xs : List A} {ys : List B} → Each R xs ys → Each S xs ys
each_map f none = none
each_map f (more h hs) = more (f _ _ h) (each_map f hs)

pub each_refl : {A : Type 0} {R : A → A → Type 0} → ((x : A) → R x x) → (xs : List A) → Each R xs xs
each_refl f [] = none
each_refl f (x ∷ xs) = more (f x) (each_refl f xs)

pub length_equal : {A B : Type 0} {R : A → B → Type 0} {xs : List A} {ys : List B} → Each R xs ys → length xs ≡ length ys
length_equal none = refl
length_equal (more h hs) = ap suc (length_equal hs)

module _ {A B : Type 0} {R : A → B → Type 0} where
  pub each_drop : (k : ℕ) {xs : List A} {ys : List B} → Each R xs ys → Each R (drop k xs) (drop k ys)
  each_drop zero hs = hs
  each_drop (suc k) none = none
  each_drop (suc k) (more h hs) = each_drop k hs

  pub each_get : (d : A) (e : B) (k : ℕ) {xs : List A} {ys : List B} → Each R xs ys → k < length xs → R (get_or xs k d) (get_or ys k e)
  each_get d e k none l = absurd (omega arith)
  each_get d e zero (more h hs) l = h
  each_get d e (suc k) (more h hs) l = each_get d e k hs (omega arith)

  pub each_places : (d : A) (e : B) (xs : List A) (ys : List B) → length xs ≡ length ys → ((k : ℕ) → k < length xs → R (get_or xs k d) (get_or ys k e)) → Each R xs ys
  each_places d e [] [] q f = none
  each_places d e [] (y ∷ ys) q f = absurd (omega arith)
  each_places d e (x ∷ xs) [] q f = absurd (omega arith)
  each_places d e (x ∷ xs) (y ∷ ys) q f = more (f 0 (omega arith)) (each_places d e xs ys (omega arith) (λ k l. f (suc k) (omega arith)))
