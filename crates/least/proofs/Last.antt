-- Laws of the last element of a list: a list is what stands before its last element, and that element.
-- Assumes nothing.
use Prim.Native.Nat.{suc, ◌-◌, ◌≤◌}
use native.Mathlib.Omega.{arith}
use mathlib.Core.Path.{◌≡◌, refl, ap}
use mathlib.Core.List.Memᴰ
use mathlib.Core.List.{List, [], ◌∷◌, ◌++◌, map, drop_last, Memᴰ}
use lib.ListN.{length}
use Rattle.least.specs.Lists.{last_or, on_last}

module _ {A : Type 0} where
  pub last_split : (d : A) (xs : List A) → 1 ≤ length xs → xs ≡ drop_last xs ++ (last_or d xs ∷ [])
  unfolding last_or
  last_split d [] h = absurd (omega arith)
  last_split d (x ∷ []) h = refl
  last_split d (x ∷ y ∷ ys) h = ap (λ (l : List A). x ∷ l) (last_split x (y ∷ ys) (omega arith))

  pub on_last_split : (f : A → A) (d : A) (xs : List A) → 1 ≤ length xs → on_last f xs ≡ drop_last xs ++ (f (last_or d xs) ∷ [])
  unfolding last_or on_last
  on_last_split f d [] h = absurd (omega arith)
  on_last_split f d (x ∷ []) h = refl
  on_last_split f d (x ∷ y ∷ ys) h = ap (λ (l : List A). x ∷ l) (on_last_split f x (y ∷ ys) (omega arith))

  pub on_last_snoc : (f : A → A) (xs : List A) (x : A) → on_last f (xs ++ (x ∷ [])) ≡ xs ++ (f x ∷ [])
  unfolding on_last
  on_last_snoc f [] x = refl
  on_last_snoc f (y ∷ []) x = refl
  on_last_snoc f (y ∷ z ∷ zs) x = ap (λ (l : List A). y ∷ l) (on_last_snoc f (z ∷ zs) x)

  pub last_snoc : (d : A) (xs : List A) (x : A) → last_or d (xs ++ (x ∷ [])) ≡ x
  unfolding last_or
  last_snoc d [] x = refl
  last_snoc d (y ∷ ys) x = last_snoc y ys x

  pub drop_last_snoc : (xs : List A) (x : A) → drop_last (xs ++ (x ∷ [])) ≡ xs
  drop_last_snoc [] x = refl
  drop_last_snoc (y ∷ []) x = refl
  drop_last_snoc (y ∷ z ∷ zs) x = ap (λ (l : List A). y ∷ l) (drop_last_snoc (z ∷ zs) x)

  pub length_drop_last : (xs : List A) → length (drop_last xs) ≡ length xs - 1
  length_drop_last [] = refl
  length_drop_last (x ∷ []) = refl
  length_drop_last (x ∷ y ∷ ys) = omega (arith, length_drop_last (y ∷ ys))

  pub last_on_last : (f : A → A) (d : A) (xs : List A) → 1 ≤ length xs → last_or d (on_last f xs) ≡ f (last_or d xs)
  last_on_last f d xs h = rw (on_last_split f d xs h) (last_snoc d (drop_last xs) (f (last_or d xs)))

  pub drop_last_on_last : (f : A → A) (xs : List A) → drop_last (on_last f xs) ≡ drop_last xs
  unfolding on_last
  drop_last_on_last f [] = refl
  drop_last_on_last f (x ∷ []) = refl
  drop_last_on_last f (x ∷ y ∷ []) = refl
  drop_last_on_last f (x ∷ y ∷ z ∷ zs) = ap (λ (l : List A). x ∷ l) (drop_last_on_last f (y ∷ z ∷ zs))

  pub length_on_last : (f : A → A) (xs : List A) → length (on_last f xs) ≡ length xs
  unfolding on_last
  length_on_last f [] = refl
  length_on_last f (x ∷ []) = refl
  length_on_last f (x ∷ y ∷ ys) = ap suc (length_on_last f (y ∷ ys))

  pub last_member : (d : A) (xs : List A) → 1 ≤ length xs → Memᴰ (last_or d xs) xs
  unfolding last_or
  last_member d [] h = absurd (omega arith)
  last_member d (x ∷ []) h = Memᴰ.head refl
  last_member d (x ∷ y ∷ ys) h = Memᴰ.tail (last_member x (y ∷ ys) (omega arith))

  pub drop_last_member : {x : A} (xs : List A) → Memᴰ x (drop_last xs) → Memᴰ x xs
  drop_last_member (y ∷ []) m = elim m [ ]
  drop_last_member [] m = m
  drop_last_member (y ∷ z ∷ zs) (Memᴰ.head q) = Memᴰ.head q
  drop_last_member (y ∷ z ∷ zs) (Memᴰ.tail m) = Memᴰ.tail (drop_last_member (z ∷ zs) m)

  -- what holds of every element holds of every element with one more, or with another last one, of which it holds
  pub snoc_each : (P : A → Type 0) (xs : List A) (x : A) → ((y : A) → Memᴰ y xs → P y) → P x → (y : A) → Memᴰ y (xs ++ (x ∷ [])) → P y
  snoc_each P [] x all h y m = rw (Memᴰ.eq_of_singleton m) h
  snoc_each P (z ∷ zs) x all h y (Memᴰ.head q) = all y (Memᴰ.head q)
  snoc_each P (z ∷ zs) x all h y (Memᴰ.tail m) = snoc_each P zs x (λ u k. all u (Memᴰ.tail k)) h y m

  pub on_last_each : (P : A → Type 0) (f : A → A) (d : A) (xs : List A) → ((y : A) → Memᴰ y xs → P y) → (1 ≤ length xs → P (f (last_or d xs))) → (y : A) → Memᴰ y (on_last f xs) → P y
  unfolding last_or on_last
  on_last_each P f d [] all h y m = all y m
  on_last_each P f d (x ∷ []) all h y m = rw (Memᴰ.eq_of_singleton m) (h (omega arith))
  on_last_each P f d (x ∷ z ∷ zs) all h y (Memᴰ.head q) = all y (Memᴰ.head q)
  on_last_each P f d (x ∷ z ∷ zs) all h y (Memᴰ.tail m) = on_last_each P f x (z ∷ zs) (λ u k. all u (Memᴰ.tail k)) (λ k. h (omega arith)) y m

  pub map_on_last : {B : Type 0} (f : A → B) (g : A → A) (xs : List A) → ((x : A) → f (g x) ≡ f x) → map f (on_last g xs) ≡ map f xs
  unfolding on_last
  map_on_last f g [] h = refl
  map_on_last {B} f g (x ∷ []) h = ap (λ (y : B). y ∷ []) (h x)
  map_on_last {B} f g (x ∷ y ∷ ys) h = ap (λ (l : List B). f x ∷ l) (map_on_last f g (y ∷ ys) h)
