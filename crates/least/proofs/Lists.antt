-- Laws of lists: who is a member of a list that is made from others, what a test over a list says of its members, and when two lists or tests
-- are the same.
-- Assumes nothing.
use Prim.Native.Nat.{ℕ, zero, suc, ◌+◌, ◌-◌, ◌≤◌, ◌<◌, min}
use native.Mathlib.Nat.{eq-or-lt_of_le}
use native.Mathlib.Omega.{arith}
use native.Mathlib.Decide.{dec_le}
use mathlib.Core.Path.{◌≡◌, refl, sym, ap, ap₂, ◌∙◌, subst}
use mathlib.Core.Bool.{Bool, true, false, not, ◌&&◌, ◌||◌, false≢true}
use mathlib.Core.Logic.{◌⊎◌, inl, inr, ⊎_elim, ◌↔◌}
use mathlib.Core.List.Memᴰ
use mathlib.Core.List.{List, [], ◌∷◌, ◌++◌, map, Memᴰ}
use lib.ListN.{length, get_or}
use Rattle.least.specs.Lists.{smallest, count_from, range, is_empty, nth_or, every, some, those, joined, first_from, first_of}

-- two tests at once
pub and_iff : (a b : Bool) → ((a && b) ≡ true) ↔ ((a ≡ true) × (b ≡ true))
and_iff true b = ((λ e. (refl, e)), λ h. h.1)
and_iff false b = ((λ e. absurd (false≢true e)), λ h. h.0)

-- a, unless b does not hold
-- two tests that hold in the same cases are the same
pub same_test : (a b : Bool) → ((a ≡ true) ↔ (b ≡ true)) → a ≡ b
same_test true b h = sym (h.0 refl)
same_test false true h = h.1 refl
same_test false false h = refl

pub or_not_iff : (a b : Bool) → ((a || not b) ≡ true) ↔ (b ≡ true → a ≡ true)
or_not_iff true b = ((λ e h. refl), λ h. refl)
or_not_iff false true = ((λ e h. e), λ h. h refl)
or_not_iff false false = ((λ e h. h), λ h. refl)

pub or_not_false : (a b : Bool) → (a || not b) ≡ false → (a ≡ false) × (b ≡ true)
or_not_false true b e = absurd (false≢true (sym e))
or_not_false false true e = (refl, refl)
or_not_false false false e = absurd (false≢true (sym e))

-- the n numbers from a on
pub count_from_lem : (n a l : ℕ) → Memᴰ l (count_from a n) → (a ≤ l) × (l < a + n)
unfolding count_from
count_from_lem zero a l x' = elim x' [ ]
count_from_lem (suc n) a l (Memᴰ.head e) = (omega arith, omega arith)
count_from_lem (suc n) a l (Memᴰ.tail m) = let h = count_from_lem n (suc a) l m in (omega arith, omega arith)

pub count_to : (n a l : ℕ) → a ≤ l → l < a + n → Memᴰ l (count_from a n)
unfolding count_from
count_to zero a l h k = absurd (omega arith)
count_to (suc n) a l h k = go (λ q. count_to n (suc a) l q (omega arith)) (eq-or-lt_of_le h)
  where
    go : (a < l → Memᴰ l (count_from (suc a) n)) → (a ≡ l) ⊎ (a < l) → Memᴰ l (a ∷ count_from (suc a) n)
    go ih (inl e) = Memᴰ.head (sym e)
    go ih (inr q) = Memᴰ.tail (ih q)

pub range_iff : (a e l : ℕ) → Memᴰ l (range a e) ↔ ((a ≤ l) × (l ≤ e))
unfolding range
range_iff a e l = ((λ m. let h = count_from_lem (suc e - a) a l m in (h.0, omega arith)), λ h. count_to (suc e - a) a l h.0 (omega arith))

module _ {A : Type 0} where
  -- a list without an element, and one with some
  pub empty_none : (xs : List A) → length xs ≡ 0 → is_empty xs ≡ true
  unfolding is_empty
  empty_none [] e = refl
  empty_none (x ∷ xs) e = absurd (omega arith)

  pub some_filled : (xs : List A) → 1 ≤ length xs → is_empty xs ≡ false
  unfolding is_empty
  some_filled [] h = absurd (omega arith)
  some_filled (x ∷ xs) h = refl

  pub not_empty : (xs : List A) → not (is_empty xs) ≡ true → 1 ≤ length xs
  unfolding is_empty
  not_empty [] e = absurd (false≢true e)
  not_empty (x ∷ xs) e = omega arith

  -- every
  pub every_none : (test : A → Bool) → every test [] ≡ true
  unfolding every
  every_none test = refl

  pub every_pass : (test : A → Bool) (x : A) (xs : List A) → test x ≡ true → every test (x ∷ xs) ≡ every test xs
  unfolding every
  every_pass test x xs h = rw (h, every) refl

  pub every_fail : (test : A → Bool) (x : A) (xs : List A) → test x ≡ false → every test (x ∷ xs) ≡ false
  unfolding every
  every_fail test x xs h = rw (h, every) refl

  pub every_cons : (test : A → Bool) (x : A) (xs : List A) → every test (x ∷ xs) ≡ true → (test x ≡ true) × (every test xs ≡ true)
  every_cons test x xs e = go (test x) refl
    where
      go : (b : Bool) → test x ≡ b → (test x ≡ true) × (every test xs ≡ true)
      go true t = (t, sym (every_pass test x xs t) ∙ e)
      go false t = absurd (false≢true (sym (every_fail test x xs t) ∙ e))

  pub every_member : (test : A → Bool) {x : A} (xs : List A) → every test xs ≡ true → Memᴰ x xs → test x ≡ true
  every_member test [] e x3 = elim x3 [ ]
  every_member test (y ∷ ys) e (Memᴰ.head q) = ap test q ∙ (every_cons test y ys e).0
  every_member test (y ∷ ys) e (Memᴰ.tail m) = every_member test ys (every_cons test y ys e).1 m

  pub every_all : (test : A → Bool) (xs : List A) → ((x : A) → Memᴰ x xs → test x ≡ true) → every test xs ≡ true
  unfolding every
  every_all test [] h = refl
  every_all test (y ∷ ys) h = every_pass test y ys (h y (Memᴰ.head refl)) ∙ every_all test ys (λ x m. h x (Memᴰ.tail m))

  pub every_snoc : (test : A → Bool) (xs : List A) (x : A) → every test xs ≡ true → test x ≡ true → every test (xs ++ (x ∷ [])) ≡ true
  every_snoc test [] x e h = every_pass test x [] h ∙ every_none test
  every_snoc test (y ∷ ys) x e h = go (test y) refl (λ r. every_snoc test ys x r h)
    where
      go : (t : Bool) → test y ≡ t → (every test ys ≡ true → every test (ys ++ (x ∷ [])) ≡ true) → every test (y ∷ (ys ++ (x ∷ []))) ≡ true
      go true k ih = every_pass test y (ys ++ (x ∷ [])) k ∙ ih (sym (every_pass test y ys k) ∙ e)
      go false k ih = absurd (false≢true (sym (every_fail test y ys k) ∙ e))

  -- an element that does not pass
  pub every_not : (test : A → Bool) (xs : List A) → every test xs ≡ false → (x : A) × Memᴰ x xs × (test x ≡ false)
  unfolding every
  every_not test [] e = absurd (false≢true (sym e))
  every_not test (y ∷ ys) e = go (λ h. every_not test ys h) (test y) refl
    where
      go : (every test ys ≡ false → (x : A) × Memᴰ x ys × (test x ≡ false)) → (b : Bool) → test y ≡ b → (x : A) × Memᴰ x (y ∷ ys) × (test x ≡ false)
      go ih true t = let h = ih (sym (every_pass test y ys t) ∙ e) in (h.0, Memᴰ.tail h.1, h.2)
      go ih false t = (y, Memᴰ.head refl, t)

  pub every_same : (test other : A → Bool) (xs : List A) → ((x : A) → Memᴰ x xs → test x ≡ other x) → every test xs ≡ every other xs
  unfolding every
  every_same test other [] same = refl
  every_same test other (x ∷ xs) same =
      go (every_same test other xs (λ y m. same y (Memᴰ.tail m))) (test x) refl (same x (Memᴰ.head refl))
    where
      go : every test xs ≡ every other xs → (b : Bool) → test x ≡ b → test x ≡ other x → every test (x ∷ xs) ≡ every other (x ∷ xs)
      go ih true t s = every_pass test x xs t ∙ ih ∙ sym (every_pass other x xs (sym s ∙ t))
      go ih false t s = every_fail test x xs t ∙ sym (every_fail other x xs (sym s ∙ t))

  -- some
  pub some_pass : (test : A → Bool) (x : A) (xs : List A) → test x ≡ true → some test (x ∷ xs) ≡ true
  unfolding some
  some_pass test x xs h = rw (h, some) refl

  pub some_fail : (test : A → Bool) (x : A) (xs : List A) → test x ≡ false → some test (x ∷ xs) ≡ some test xs
  unfolding some
  some_fail test x xs h = rw (h, some) refl

  -- an element passes; no element does
  abbrev pub SomePasses : (A → Bool) → List A → Type 0
  SomePasses test xs = (x : A) × Memᴰ x xs × (test x ≡ true)

  abbrev pub NonePasses : (A → Bool) → List A → Type 0
  NonePasses test xs = (x : A) → Memᴰ x xs → test x ≡ false

  none_more : (test : A → Bool) (y : A) (ys : List A) → test y ≡ false → NonePasses test ys → NonePasses test (y ∷ ys)
  none_more test y ys t h x (Memᴰ.head q) = ap test q ∙ t
  none_more test y ys t h x (Memᴰ.tail m) = h x m

  abbrev SomeOrNone : (A → Bool) → List A → Type 0
  SomeOrNone test xs = ((some test xs ≡ true) × SomePasses test xs) ⊎ ((some test xs ≡ false) × NonePasses test xs)

  some_known : (test : A → Bool) (xs : List A) → SomeOrNone test xs
  unfolding some
  some_known test [] = inr (refl, λ x m. absurd (Memᴰ.not-nil m))
  some_known test (y ∷ ys) = go (some_known test ys) (test y) refl
    where
      go : SomeOrNone test ys → (b : Bool) → test y ≡ b → SomeOrNone test (y ∷ ys)
      go d true t = inl (some_pass test y ys t, (y, Memᴰ.head refl, t))
      go (inl d) false t = inl (some_fail test y ys t ∙ d.0, (d.1.0, Memᴰ.tail d.1.1, d.1.2))
      go (inr d) false t = inr (some_fail test y ys t ∙ d.0, none_more test y ys t d.1)

  pub some_iff : (test : A → Bool) (xs : List A) → (some test xs ≡ true) ↔ SomePasses test xs
  some_iff test xs = go (some_known test xs)
    where
      go : SomeOrNone test xs → (some test xs ≡ true) ↔ SomePasses test xs
      go (inl d) = ((λ e. d.1), λ h. d.0)
      go (inr d) = ((λ e. absurd (false≢true (sym d.0 ∙ e))), λ h. absurd (false≢true (sym (d.1 h.0 h.1) ∙ h.2)))

  pub some_none : (test : A → Bool) (xs : List A) → (some test xs ≡ false) ↔ NonePasses test xs
  some_none test xs = go (some_known test xs)
    where
      go : SomeOrNone test xs → (some test xs ≡ false) ↔ NonePasses test xs
      go (inl d) = ((λ e. absurd (false≢true (sym e ∙ d.0))), λ h. absurd (false≢true (sym (h d.1.0 d.1.1) ∙ d.1.2)))
      go (inr d) = ((λ e. d.1), λ h. d.0)

  -- those
  pub those_pass : (test : A → Bool) (x : A) (xs : List A) → test x ≡ true → those test (x ∷ xs) ≡ x ∷ those test xs
  unfolding those
  those_pass test x xs h = rw (h, those) refl

  pub those_fail : (test : A → Bool) (x : A) (xs : List A) → test x ≡ false → those test (x ∷ xs) ≡ those test xs
  unfolding those
  those_fail test x xs h = rw (h, those) refl

  pub those_member : (test : A → Bool) {x : A} (xs : List A) → Memᴰ x (those test xs) → Memᴰ x xs × (test x ≡ true)
  unfolding those
  those_member test {x} [] m = absurd (Memᴰ.not-nil m)
  those_member test {x} (y ∷ ys) m = go (λ q. those_member test ys q) (test y) refl
    where
      later : Memᴰ x ys × (test x ≡ true) → Memᴰ x (y ∷ ys) × (test x ≡ true)
      later h = (Memᴰ.tail h.0, h.1)

      go : (Memᴰ x (those test ys) → Memᴰ x ys × (test x ≡ true)) → (b : Bool) → test y ≡ b → Memᴰ x (y ∷ ys) × (test x ≡ true)
      go ih true t =
          ⊎_elim (λ (q : x ≡ y). (Memᴰ.head q, ap test q ∙ t)) (λ (q : Memᴰ x (those test ys)). later (ih q)) (Memᴰ.cases_cons (rw (those_pass test y ys t) at m))
      go ih false t = later (ih (rw (those_fail test y ys t) at m))

  pub those_passing : (test : A → Bool) {x : A} (xs : List A) → Memᴰ x xs → test x ≡ true → Memᴰ x (those test xs)
  those_passing test {x = x} [] x3 p = elim x3 [ ]
  those_passing test (y ∷ ys) (Memᴰ.head q) p = rw (those_pass test y ys (ap test (sym q) ∙ p)) (Memᴰ.head q)
  those_passing test {x} (y ∷ ys) (Memᴰ.tail m) p = go (those_passing test ys m p) (test y) refl
    where
      go : Memᴰ x (those test ys) → (b : Bool) → test y ≡ b → Memᴰ x (those test (y ∷ ys))
      go q true t = rw (those_pass test y ys t) (Memᴰ.tail q)
      go q false t = rw (those_fail test y ys t) q

  pub those_iff : (test : A → Bool) (x : A) (xs : List A) → Memᴰ x (those test xs) ↔ (Memᴰ x xs × (test x ≡ true))
  those_iff test x xs = (those_member test xs, λ h. those_passing test xs h.0 h.1)

  -- joined
  pub joined_member : {x : A} (xss : List (List A)) → Memᴰ x (joined xss) → (xs : List A) × Memᴰ xs xss × Memᴰ x xs
  unfolding joined
  joined_member {x} [] m = absurd (Memᴰ.not-nil m)
  joined_member {x} (ys ∷ yss) m = go (λ q. joined_member yss q) (Memᴰ.append_cases ys m)
    where
      go : (Memᴰ x (joined yss) → (xs : List A) × Memᴰ xs yss × Memᴰ x xs) → Memᴰ x ys ⊎ Memᴰ x (joined yss) → (xs : List A) × Memᴰ xs (ys ∷ yss) × Memᴰ x xs
      go ih (inl q) = (ys, Memᴰ.head refl, q)
      go ih (inr q) = let h = ih q in (h.0, Memᴰ.tail h.1, h.2)

  pub joined_of : {x : A} {xs : List A} (xss : List (List A)) → Memᴰ xs xss → Memᴰ x xs → Memᴰ x (joined xss)
  unfolding joined
  joined_of {x = x} {xs = xs} [] x3 m = elim x3 [ ]
  joined_of {x} (ys ∷ yss) (Memᴰ.head q) m = Memᴰ.append_left (joined yss) (subst (Memᴰ x) q m)
  joined_of (ys ∷ yss) (Memᴰ.tail k) m = Memᴰ.append_right ys (joined_of yss k m)

  -- a list without members
  pub no_member : (xs : List A) → ((x : A) → Memᴰ x xs → ⊥) → xs ≡ []
  no_member [] h = refl
  no_member (x ∷ xs) h = absurd (h x (Memᴰ.head refl))

  -- the k-th element
  pub nth_get : (d : A) (k : ℕ) (xs : List A) → nth_or d (suc k) xs ≡ get_or xs k d
  unfolding nth_or
  nth_get d k [] = refl
  nth_get d zero (x ∷ xs) = refl
  nth_get d (suc k) (x ∷ xs) = nth_get d k xs

  -- the k-th element passes, and none before it does
  pub record FirstAt (test : A → Bool) (xs : List A) (k : ℕ) : Type 0 where
    pub some : 1 ≤ k
    pub most : k ≤ length xs
    pub passes : (d : A) → test (nth_or d k xs) ≡ true
    pub before : (d : A) (j : ℕ) → 1 ≤ j → j < k → test (nth_or d j xs) ≡ false

  first_here : (test : A → Bool) (x : A) (xs : List A) → test x ≡ true → FirstAt test (x ∷ xs) 1
  unfolding nth_or
  first_here test x xs t = record { some = omega arith; most = omega arith; passes = λ d. t; before = λ d j h l. absurd (omega arith) }

  first_later : (test : A → Bool) (x : A) (xs : List A) (k : ℕ) → test x ≡ false → FirstAt test xs k → FirstAt test (x ∷ xs) (suc k)
  unfolding nth_or
  first_later test x xs zero t f = absurd (omega arith)
  first_later test x xs (suc k) t f = record { some = omega arith; most = omega arith; passes = f.passes; before = before }
    where
      before : (d : A) (j : ℕ) → 1 ≤ j → j < suc (suc k) → test (nth_or d j (x ∷ xs)) ≡ false
      before d zero h l = absurd (omega arith)
      before d (suc zero) h l = t
      before d (suc (suc j)) h l = f.before d (suc j) (omega arith) (omega arith)

  -- counted from the number suc i on
  abbrev FirstOrNone : (A → Bool) → ℕ → List A → Type 0
  FirstOrNone test i xs = ((k : ℕ) × (first_from (suc i) test xs ≡ i + k) × FirstAt test xs k) ⊎ ((first_from (suc i) test xs ≡ 0) × NonePasses test xs)

  first_known : (test : A → Bool) (i : ℕ) (xs : List A) → FirstOrNone test i xs
  unfolding first_from
  first_known test i [] = inr (refl, λ x m. absurd (Memᴰ.not-nil m))
  first_known test i (y ∷ ys) = go (first_known test (suc i) ys) (test y) refl
    where
      go : FirstOrNone test (suc i) ys → (b : Bool) → test y ≡ b → FirstOrNone test i (y ∷ ys)
      go d true t = inl (1, rw (t, first_from) (omega arith), first_here test y ys t)
      go (inl d) false t = inl (suc d.0, rw (t, first_from) (omega (arith, d.1)), first_later test y ys d.0 t d.2)
      go (inr d) false t = inr (rw (t, first_from) d.0, none_more test y ys t d.1)

  pub nth_member : (d : A) (k : ℕ) (xs : List A) → 1 ≤ k → k ≤ length xs → Memᴰ (nth_or d k xs) xs
  unfolding nth_or
  nth_member d zero xs l h = absurd (omega arith)
  nth_member d (suc k) [] l h = absurd (omega arith)
  nth_member d (suc zero) (x ∷ xs) l h = Memᴰ.head refl
  nth_member d (suc (suc k)) (x ∷ xs) l h = Memᴰ.tail (nth_member d (suc k) xs (omega arith) (omega arith))

  some_first : (test : A → Bool) (xs : List A) (k : ℕ) → FirstAt test xs k → NonePasses test xs → ⊥
  some_first test [] k f none = omega arith
  some_first test (x ∷ xs) k f none = false≢true (sym (none _ (nth_member x k (x ∷ xs) f.some f.most)) ∙ f.passes x)

  -- a number from 1 on is that of the first element that passes; it is 0 just if none does
  pub first_at : (test : A → Bool) (xs : List A) → 1 ≤ first_of test xs → FirstAt test xs (first_of test xs)
  first_at test xs l = go (first_known test 0 xs)
    where
      go : FirstOrNone test 0 xs → FirstAt test xs (first_of test xs)
      go (inl d) = let e : d.0 ≡ first_of test xs = omega (arith, d.1) in subst (FirstAt test xs) e d.2
      go (inr d) = absurd (omega (arith, d.0))

  pub first_none : (test : A → Bool) (xs : List A) → (first_of test xs ≡ 0) ↔ NonePasses test xs
  first_none test xs = go (first_known test 0 xs)
    where
      go : FirstOrNone test 0 xs → (first_of test xs ≡ 0) ↔ NonePasses test xs
      go (inl d) = ((λ e. absurd (omega (arith, d.1, d.2.some))), λ h. absurd (some_first test xs d.0 d.2 h))
      go (inr d) = ((λ e. d.1), λ h. d.0)

module _ {A B : Type 0} where
  -- map
  pub map_iff : (f : A → B) (y : B) (xs : List A) → Memᴰ y (map f xs) ↔ ((x : A) × Memᴰ x xs × (f x ≡ y))
  map_iff f y xs = (Memᴰ.of_map f xs, λ h. Memᴰ.cast (sym h.2) (Memᴰ.map f h.1))

  pub map_same : (f g : A → B) (xs : List A) → ((x : A) → Memᴰ x xs → f x ≡ g x) → map f xs ≡ map g xs
  map_same f g [] same = refl
  map_same f g (x ∷ xs) same = ap₂ ◌∷◌ (same x (Memᴰ.head refl)) (map_same f g xs (λ y m. same y (Memᴰ.tail m)))

  -- the lists that f makes of the elements, one behind another
  pub joined_map_iff : (f : A → List B) (y : B) (xs : List A) → Memᴰ y (joined (map f xs)) ↔ ((x : A) × Memᴰ x xs × Memᴰ y (f x))
  joined_map_iff f y xs = (to, λ h. joined_of (map f xs) (Memᴰ.map f h.1) h.2)
    where
      to : Memᴰ y (joined (map f xs)) → (x : A) × Memᴰ x xs × Memᴰ y (f x)
      to m =
          let j = joined_member (map f xs) m in
          let k = Memᴰ.of_map f xs j.1 in
          (k.0, k.1, subst (Memᴰ y) (sym k.2) j.2)

-- the k-th element of a list that f makes
pub nth_of_map : {A B : Type 0} (f : A → B) (d : A) (k : ℕ) (xs : List A) → nth_or (f d) k (map f xs) ≡ f (nth_or d k xs)
unfolding nth_or
nth_of_map f d k [] = refl
nth_of_map f d zero (x ∷ xs) = refl
nth_of_map f d (suc zero) (x ∷ xs) = refl
nth_of_map f d (suc (suc k)) (x ∷ xs) = nth_of_map f d (suc k) xs

-- every number of a range passes
pub every_range : (test : ℕ → Bool) (a e : ℕ) → (every test (range a e) ≡ true) ↔ ((l : ℕ) → a ≤ l → l ≤ e → test l ≡ true)
every_range test a e = ((λ t l h k. every_member test (range a e) t ((range_iff a e l).1 (h, k))), λ h. every_all test (range a e) (λ l m. let r = (range_iff a e l).0 m in h l r.0 r.1))

-- the smallest number of a list is no greater than any of them, and is one of them
pub smallest_le : {x : ℕ} (xs : List ℕ) → Memᴰ x xs → smallest xs ≤ x
unfolding smallest
smallest_le [] m = elim m [ ]
smallest_le (y ∷ []) m = omega (arith, Memᴰ.eq_of_singleton m)
smallest_le (y ∷ z ∷ zs) (Memᴰ.head q) = omega arith
smallest_le (y ∷ z ∷ zs) (Memᴰ.tail m) = omega (arith, smallest_le (z ∷ zs) m)

pub smallest_member : {x : ℕ} (xs : List ℕ) → Memᴰ x xs → Memᴰ (smallest xs) xs
unfolding smallest
smallest_member [] m = elim m [ ]
smallest_member (y ∷ []) m = Memᴰ.head refl
smallest_member (y ∷ z ∷ zs) m = go (smallest_member (z ∷ zs) (Memᴰ.head refl)) (dec_le y (smallest (z ∷ zs)))
  where
    go : Memᴰ (smallest (z ∷ zs)) (z ∷ zs) → Dec (y ≤ smallest (z ∷ zs)) → Memᴰ (min y (smallest (z ∷ zs))) (y ∷ z ∷ zs)
    go q (yes l) = let e : min y (smallest (z ∷ zs)) ≡ y = omega arith in Memᴰ.head e
    go q (no l) = Memᴰ.tail (Memᴰ.cast (omega arith) q)
