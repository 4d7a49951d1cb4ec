-- Members of a list by their places, of a part of a list, and of a list that is turned round.
-- Assumes nothing.
use Prim.Native.Nat.{ℕ, zero, suc, ◌<◌}
use native.Mathlib.Omega.{arith}
use mathlib.Core.Path.{◌≡◌, refl, sym, subst}
use mathlib.Core.Logic.{◌↔◌}
use mathlib.Core.List.Memᴰ
use mathlib.Core.List.{List, [], ◌∷◌, reverse, reverse-cons, reverse-reverse, Memᴰ}
use lib.ListN.{length, take, drop, get_or, take-append-drop}

module _ {A : Type 0} where
  pub place_of : (d : A) {x : A} (xs : List A) → Memᴰ x xs → (k : ℕ) × (k < length xs) × (x ≡ get_or xs k d)
  place_of d [] x'' = elim x'' [ ]
  place_of d (y ∷ ys) (Memᴰ.head q) = (0, omega arith, q)
  place_of d (y ∷ ys) (Memᴰ.tail m) = let h = place_of d ys m in (suc h.0, omega (arith, h.1), h.2)

  -- what holds at each place holds of each member
  pub each_place : (d : A) (P : A → Type 0) (xs : List A) → ((k : ℕ) → k < length xs → P (get_or xs k d)) → (x : A) → Memᴰ x xs → P x
  each_place d P xs h x m = let p = place_of d xs m in subst P (sym p.2) (h p.0 p.1)

  pub get_d_member : (xs : List A) (k : ℕ) (d : A) → k < length xs → Memᴰ (get_or xs k d) xs
  get_d_member [] k d h = absurd (omega arith)
  get_d_member (x ∷ xs) zero d h = Memᴰ.head refl
  get_d_member (x ∷ xs) (suc k) d h = Memᴰ.tail (get_d_member xs k d (omega arith))

  -- at a place of the list it does not matter what would stand behind its end
  pub get_d_any : (xs : List A) (k : ℕ) (d e : A) → k < length xs → get_or xs k d ≡ get_or xs k e
  get_d_any [] k d e h = absurd (omega arith)
  get_d_any (x ∷ xs) zero d e h = refl
  get_d_any (x ∷ xs) (suc k) d e h = get_d_any xs k d e (omega arith)

  pub take_member : (k : ℕ) {x : A} (xs : List A) → Memᴰ x (take k xs) → Memᴰ x xs
  take_member k {x} xs m = subst (Memᴰ x) (take-append-drop k xs) (Memᴰ.append_left (drop k xs) m)

  pub drop_member : (k : ℕ) {x : A} (xs : List A) → Memᴰ x (drop k xs) → Memᴰ x xs
  drop_member k {x} xs m = subst (Memᴰ x) (take-append-drop k xs) (Memᴰ.append_right (take k xs) m)

  turned : {x : A} (xs : List A) → Memᴰ x xs → Memᴰ x (reverse xs)
  turned {x = x} [] x'' = elim x'' [ ]
  turned {x} (y ∷ ys) (Memᴰ.head q) = rw (reverse-cons y ys) (Memᴰ.append_right (reverse ys) (Memᴰ.head q))
  turned {x} (y ∷ ys) (Memᴰ.tail m) = rw (reverse-cons y ys) (Memᴰ.append_left (y ∷ []) (turned ys m))

  pub reverse_iff : (x : A) (xs : List A) → Memᴰ x (reverse xs) ↔ Memᴰ x xs
  reverse_iff x xs = ((λ m. subst (Memᴰ x) (reverse-reverse xs) (turned (reverse xs) m)), turned xs)
