-- Laws of `zip3`.
-- Assumes nothing.
use Prim.Native.Nat.{ℕ, zero, suc, ◌<◌}
use native.Mathlib.Omega.{arith}
use mathlib.Core.Path.{◌≡◌, refl, sym, ap₂}
use mathlib.Core.List.{List, [], ◌∷◌, map}
use lib.ListN.{length, get_or}
use Rattle.least.specs.Lists.{zip3}

module _ {A B C D : Type 0} (f : A → B → C → D) where
  pub zip3_get : (u : D) (d : A) (e : B) (g : C) (k : ℕ) (xs : List A) (ys : List B) (zs : List C) → k < length xs → k < length ys → k < length zs
      → get_or (zip3 f xs ys zs) k u ≡ f (get_or xs k d) (get_or ys k e) (get_or zs k g)
  unfolding zip3
  zip3_get u d e g k [] ys zs h i j = absurd (omega arith)
  zip3_get u d e g k (x ∷ xs) [] zs h i j = absurd (omega arith)
  zip3_get u d e g k (x ∷ xs) (y ∷ ys) [] h i j = absurd (omega arith)
  zip3_get u d e g zero (x ∷ xs) (y ∷ ys) (z ∷ zs) h i j = refl
  zip3_get u d e g (suc k) (x ∷ xs) (y ∷ ys) (z ∷ zs) h i j = zip3_get u d e g k xs ys zs (omega arith) (omega arith) (omega arith)

  -- what is read off an element is the list that it came from
  pub zip3_second : (off : D → B) → ((x : A) (y : B) (z : C) → off (f x y z) ≡ y) → (xs : List A) (ys : List B) (zs : List C) → length xs ≡ length ys → length zs ≡ length ys → map off (zip3 f xs ys zs) ≡ ys
  unfolding zip3
  zip3_second off is [] [] zs h i = refl
  zip3_second off is [] (y ∷ ys) zs h i = absurd (omega arith)
  zip3_second off is (x ∷ xs) [] zs h i = refl
  zip3_second off is (x ∷ xs) (y ∷ ys) [] h i = absurd (omega arith)
  zip3_second off is (x ∷ xs) (y ∷ ys) (z ∷ zs) h i = ap₂ (λ (b : B) (bs : List B). b ∷ bs) (is x y z) (zip3_second off is xs ys zs (omega arith) (omega arith))

  pub zip3_third : (off : D → C) → ((x : A) (y : B) (z : C) → off (f x y z) ≡ z) → (xs : List A) (ys : List B) (zs : List C) → length xs ≡ length ys → length zs ≡ length ys → map off (zip3 f xs ys zs) ≡ zs
  unfolding zip3
  zip3_third off is [] ys [] h i = refl
  zip3_third off is [] ys (z ∷ zs) h i = absurd (omega arith)
  zip3_third off is (x ∷ xs) [] zs h i = absurd (omega arith)
  zip3_third off is (x ∷ xs) (y ∷ ys) [] h i = refl
  zip3_third off is (x ∷ xs) (y ∷ ys) (z ∷ zs) h i = ap₂ (λ (c : C) (cs : List C). c ∷ cs) (is x y z) (zip3_third off is xs ys zs (omega arith) (omega arith))

-- two lists of which the same is known, place by place, give the same where only that counts
module _ {A A' B C D K : Type 0} (f : A → B → C → D) (g : A' → B → C → D) (known : A → K) (known' : A' → K) (alike : (x : A) (x' : A') → known x ≡ known' x' → (y : B) (z : C) → f x y z ≡ g x' y z) where
  first_same : {x y : K} {xs ys : List K} → x ∷ xs ≡ y ∷ ys → x ≡ y
  first_same e = cc

  rest_same : {x y : K} {xs ys : List K} → x ∷ xs ≡ y ∷ ys → xs ≡ ys
  rest_same e = cc

  never_empty : {x : K} {xs : List K} → ◌≡◌ {A = List K} [] (x ∷ xs) → ⊥
  never_empty e = let z : ◌≡◌ {A = ℕ} 0 1 = cc in omega arith

  pub zip3_same : (xs : List A) (xs' : List A') (ys : List B) (zs : List C) → map known xs ≡ map known' xs' → zip3 f xs ys zs ≡ zip3 g xs' ys zs
  unfolding zip3
  zip3_same [] [] ys zs e = refl
  zip3_same [] (x' ∷ xs') ys zs e = absurd (never_empty e)
  zip3_same (x ∷ xs) [] ys zs e = absurd (never_empty (sym e))
  zip3_same (x ∷ xs) (x' ∷ xs') [] zs e = refl
  zip3_same (x ∷ xs) (x' ∷ xs') (y ∷ ys) [] e = refl
  zip3_same (x ∷ xs) (x' ∷ xs') (y ∷ ys) (z ∷ zs) e =
      ap₂ (λ (u : D) (us : List D). u ∷ us) (alike x x' (first_same e) y z) (zip3_same xs xs' ys zs (rest_same e))
