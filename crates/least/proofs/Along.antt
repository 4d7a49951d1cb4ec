-- Laws of `along`: what stands at a place. Laws of `every_along`: it passes just if the test passes at each way to part the list in what stands before, an element, and what stands behind.
-- Assumes nothing.
use Prim.Native.Nat.{ℕ, zero, suc, ◌<◌}
use native.Mathlib.Omega.{arith}
use mathlib.Core.Path.{◌≡◌, refl, sym, ap, ◌∙◌, subst}
use mathlib.Core.Bool.{Bool, true, false, false≢true}
use mathlib.Core.List.{List, [], ◌∷◌, ◌++◌, reverse, reverse_aux, reverse-reverse}
use mathlib.Core.Logic.{◌↔◌}
use lib.ListN.{length, take, drop, get_or, length-append}
use lib.Seq.{split_at, take-append_seam, get_or-append_seam}
use Rattle.least.specs.Lists.{behind, along, every_behind, every_along}

module _ {A : Type 0} where
  -- the test passes at each place of xs, where `before` stands before xs, nearest first
  abbrev pub PassesBehind : (List A → A → List A → Bool) → List A → List A → Type 0
  PassesBehind test before xs = (front : List A) (x : A) (higher : List A) → front ++ (x ∷ higher) ≡ xs → test (reverse_aux front before) x higher ≡ true

  -- the same of a whole list: `lower` stands before x, nearest first
  abbrev pub PassesAlong : (List A → A → List A → Bool) → List A → Type 0
  PassesAlong test xs = (lower : List A) (x : A) (higher : List A) → reverse lower ++ (x ∷ higher) ≡ xs → test lower x higher ≡ true

  drop_suc_seam : (front : List A) (x : A) (higher : List A) → drop (suc (length front)) (front ++ (x ∷ higher)) ≡ higher
  drop_suc_seam [] x higher = refl
  drop_suc_seam (y ∷ front) x higher = drop_suc_seam front x higher

module _ {A : Type 0} (test : List A → A → List A → Bool) where
  behind_passed : (before : List A) (x : A) (xs : List A) → test before x xs ≡ true → every_behind test before (x ∷ xs) ≡ every_behind test (x ∷ before) xs
  unfolding every_behind
  behind_passed before x xs t = rw (t, every_behind) refl

  behind_missed : (before : List A) (x : A) (xs : List A) → test before x xs ≡ false → every_behind test before (x ∷ xs) ≡ false
  unfolding every_behind
  behind_missed before x xs f = rw (f, every_behind) refl

  behind_true : (xs before : List A) → PassesBehind test before xs → every_behind test before xs ≡ true
  unfolding every_behind
  behind_true [] before h = refl
  behind_true (x ∷ xs) before h =
      behind_passed before x xs (h [] x xs refl)
      ∙ behind_true xs (x ∷ before) (λ front y higher e. h (x ∷ front) y higher (ap (λ (l : List A). x ∷ l) e))

  -- the first place, and the others
  behind_first : (before : List A) (x : A) (xs : List A) → every_behind test before (x ∷ xs) ≡ true → test before x xs ≡ true
  behind_first before x xs q = go (test before x xs) refl
    where
      go : (b : Bool) → test before x xs ≡ b → test before x xs ≡ true
      go true t = t
      go false f = absurd (false≢true (sym (behind_missed before x xs f) ∙ q))

  behind_each : (xs before : List A) → every_behind test before xs ≡ true → PassesBehind test before xs
  behind_each xs before q [] y higher e = behind_first before y higher (rw (← e) at q)
  behind_each xs before q (x ∷ front) y higher e =
      let q' : every_behind test before (x ∷ (front ++ (y ∷ higher))) ≡ true = rw (← e) at q in
      behind_each (front ++ (y ∷ higher)) (x ∷ before) (sym (behind_passed before x _ (behind_first before x _ q')) ∙ q') front y higher refl

  pub along_iff : (xs : List A) → (every_along test xs ≡ true) ↔ PassesAlong test xs
  along_iff xs = (to, from)
    where
      to : every_along test xs ≡ true → PassesAlong test xs
      to q lower x higher e = ap (λ (l : List A). test l x higher) (sym (reverse-reverse lower)) ∙ behind_each xs [] q (reverse lower) x higher e

      from : PassesAlong test xs → every_along test xs ≡ true
      from h = behind_true xs [] (λ front x higher e. h (reverse front) x higher (ap (λ (l : List A). l ++ (x ∷ higher)) (reverse-reverse front) ∙ e))

  -- the same by places
  abbrev pub PassesPlaces : A → List A → Type 0
  PassesPlaces d xs = (k : ℕ) → k < length xs → test (reverse (take k xs)) (get_or xs k d) (drop (suc k) xs) ≡ true

  places_seam : (d : A) (front : List A) (x : A) (higher : List A) → PassesPlaces d (front ++ (x ∷ higher)) → test (reverse front) x higher ≡ true
  places_seam d front x higher h =
      let t = h (length front) (omega (arith, length-append front (x ∷ higher))) in
      rw (take-append_seam front (x ∷ higher), get_or-append_seam front x higher d, drop_suc_seam front x higher) at t

  pub along_places : (d : A) (xs : List A) → (every_along test xs ≡ true) ↔ PassesPlaces d xs
  along_places d xs = (to, from)
    where
      to : every_along test xs ≡ true → PassesPlaces d xs
      to q k h =
          (along_iff xs).0 q (reverse (take k xs)) (get_or xs k d) (drop (suc k) xs) (ap (λ (l : List A). l ++ (get_or xs k d ∷ drop (suc k) xs)) (reverse-reverse (take k xs)) ∙ sym (split_at xs k d h))

      from : PassesPlaces d xs → every_along test xs ≡ true
      from h = (along_iff xs).1 (λ lower x higher e. ap (λ (l : List A). test l x higher) (sym (reverse-reverse lower)) ∙ places_seam d (reverse lower) x higher (subst (PassesPlaces d) (sym e) h))

-- what stands at the place k
module _ {A B : Type 0} (f : List A → A → List A → B) (d : A) (e : B) where
  behind_at : (before xs : List A) (k : ℕ) → k < length xs → get_or (behind f before xs) k e ≡ f (reverse_aux (take k xs) before) (get_or xs k d) (drop (suc k) xs)
  unfolding behind
  behind_at before [] k h = absurd (omega arith)
  behind_at before (x ∷ xs) zero h = refl
  behind_at before (x ∷ xs) (suc k) h = behind_at (x ∷ before) xs k (omega arith)

  pub along_at : (xs : List A) (k : ℕ) → k < length xs → get_or (along f xs) k e ≡ f (reverse (take k xs)) (get_or xs k d) (drop (suc k) xs)
  along_at xs k h = behind_at [] xs k h
