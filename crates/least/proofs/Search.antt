-- Laws of the bounded searches: what a search finds is known, and a search is known by what it finds. The laws at the end say it in the paper's words.
-- Assumes nothing.
use Rattle.std.specs.Prelude.{Some, None}
use Prim.Native.Nat.{ℕ, zero, suc, ◌+◌, ◌-◌, ◌≤◌, ◌<◌}
use native.Mathlib.Nat.{le_refl, le_of_lt, eq-or-lt_of_le}
use native.Mathlib.Omega.{arith}
use native.Mathlib.Decide.{dec_le}
use mathlib.Core.Path.{◌≡◌, refl, sym, ◌∙◌, ap, subst}
use mathlib.Core.Bool.{Bool, true, false, false≢true}
use mathlib.Core.Logic.{◌⊎◌, inl, inr, ◌↔◌}
use lib.Dec.{leb}
use borrow.Author.Tests.{le-leb, lt-leb, leb-true, leb-false}
use Rattle.least.specs.Search.{least_from, any_from, least_up_to, any_up_to}
use Rattle.least.specs.Code.Search.{IsLeast}

-- two comparisons that hold together
pub same_tests : (a b c d : ℕ) → (a ≤ b → c ≤ d) → (c ≤ d → a ≤ b) → leb a b ≡ leb c d
same_tests a b c d f g = go (leb a b) refl
  where
    go : (t : Bool) → leb a b ≡ t → leb a b ≡ leb c d
    go true e = e ∙ sym (le-leb c d (f (leb-true a b e)))
    go false e = e ∙ sym (lt-leb c d (past (leb c d) refl))
      where
        past : (t : Bool) → leb c d ≡ t → d < c
        past true h = absurd (false≢true (sym e ∙ le-leb a b (g (leb-true c d h))))
        past false h = leb-false c d h

-- no number from a up to e, e left out, passes the test
abbrev pub NoneIn : (ℕ → Bool) → ℕ → ℕ → Type 0
NoneIn test a e = (v : ℕ) → a ≤ v → v < e → test v ≡ false

-- w is the least number from a up to e, e left out, that passes the test
pub record LeastIn (test : ℕ → Bool) (a e w : ℕ) : Type 0 where
  pub from : a ≤ w
  pub below : w < e
  pub passes : test w ≡ true
  pub before : NoneIn test a w

-- a search of the n numbers from a on finds the least that passes, or nothing where none does
abbrev pub Known : (ℕ → Bool) → ℕ → ℕ → Type 0
Known test n a = ((w : ℕ) × LeastIn test a (a + n) w × (least_from test a n ≡ Some w)) ⊎ (NoneIn test a (a + n) × (least_from test a n ≡ None))

module _ (test : ℕ → Bool) where
  -- one number less at the front
  later : (a e : ℕ) → NoneIn test a e → NoneIn test (suc a) e
  later a e none v l = none v (le_of_lt l)

  -- one number more at the front
  sooner : (a e : ℕ) → test a ≡ false → NoneIn test (suc a) e → NoneIn test a e
  sooner a e f none v l h = at (eq-or-lt_of_le l)
    where
      at : (a ≡ v) ⊎ (a < v) → test v ≡ false
      at (inl q) = ap test (sym q) ∙ f
      at (inr q) = none v q h

  -- one number more at the end
  pub none_next : (a e : ℕ) → NoneIn test a e → test e ≡ false → NoneIn test a (e + 1)
  none_next a e none f v l h = at (eq-or-lt_of_le (omega arith))
    where
      at : (v ≡ e) ⊎ (v < e) → test v ≡ false
      at (inl q) = ap test q ∙ f
      at (inr q) = none v l q

  found : (n a w : ℕ) → a ≡ w → test w ≡ true → least_from test a (suc n) ≡ Some w
  unfolding least_from
  found n a w e p = let h : test a ≡ true = ap test e ∙ p in rw (h, least_from) (ap Some e)

  passed : (n a : ℕ) → test a ≡ false → least_from test a (suc n) ≡ least_from test (suc a) n
  unfolding least_from
  passed n a f = rw (f, least_from) refl

  -- the least number is what the search answers
  pub least_at : (n a w : ℕ) → LeastIn test a (a + n) w → least_from test a n ≡ Some w
  least_at zero a w l = absurd (omega arith)
  least_at (suc n) a w l = go (λ h. least_at n (suc a) w h) (eq-or-lt_of_le l.from)
    where
      go : (LeastIn test (suc a) (suc a + n) w → least_from test (suc a) n ≡ Some w) → (a ≡ w) ⊎ (a < w) → least_from test a (suc n) ≡ Some w
      go ih (inl e) = found n a w e l.passes
      go ih (inr h) =
          passed n a (l.before a (le_refl a) h) ∙ ih (record { from = h; below = omega arith; passes = l.passes; before = later a w l.before })

  -- where none passes it answers Nothing
  pub least_nothing : (n a : ℕ) → NoneIn test a (a + n) → least_from test a n ≡ None
  unfolding least_from
  least_nothing zero a none = refl
  least_nothing (suc n) a none =
      passed n a (none a (le_refl a) (omega arith)) ∙ least_nothing n (suc a) (λ v l h. none v (le_of_lt l) (omega arith))

  -- and so every search is one of the two
  pub least_known : (n a : ℕ) → Known test n a
  unfolding least_from
  least_known zero a = inr ((λ v l h. absurd (omega arith)), refl)
  least_known (suc n) a = go (least_known n (suc a)) (test a) refl
    where
      go : Known test n (suc a) → (b : Bool) → test a ≡ b → Known test (suc n) a
      go d true e = inl (a, record { from = le_refl a; below = omega arith; passes = e; before = λ v l h. absurd (omega arith) }, found n a a refl e)
      go (inl d) false e =
          inl (d.0, record { from = le_of_lt d.1.from; below = omega (arith, d.1.below); passes = d.1.passes; before = sooner a d.0 e d.1.before }, passed n a e ∙ d.2)
      go (inr d) false e =
          inr ((λ v l h. sooner a (suc a + n) e d.0 v l (omega arith)), passed n a e ∙ d.1)

  -- numbers at the front that do not pass may be left out
  pub least_skip : (n a b : ℕ) → a ≤ b → b ≤ a + n → NoneIn test a b → least_from test a n ≡ least_from test b (a + n - b)
  least_skip n a b l h none = go (least_known (a + n - b) b)
    where
      before : (w : ℕ) → NoneIn test b w → (v : ℕ) → a ≤ v → v < w → test v ≡ false
      before w later v p q = at (dec_le b v)
        where
          at : Dec (b ≤ v) → test v ≡ false
          at (yes r) = later v r q
          at (no r) = none v p (omega arith)

      go : Known test (a + n - b) b → least_from test a n ≡ least_from test b (a + n - b)
      go (inl d) =
          let k = d.1 in
          least_at n a d.0 (record { from = omega (arith, k.from); below = omega (arith, k.below); passes = k.passes; before = before d.0 k.before }) ∙ sym d.2
      go (inr d) = least_nothing n a (before (a + n) (λ v p q. d.0 v p (omega arith))) ∙ sym d.1

  any_hit : (n a : ℕ) → test a ≡ true → any_from test a (suc n) ≡ true
  unfolding any_from
  any_hit n a f = rw (f, any_from) refl

  any_passed : (n a : ℕ) → test a ≡ false → any_from test a (suc n) ≡ any_from test (suc a) n
  unfolding any_from
  any_passed n a f = rw (f, any_from) refl

  -- some number of the range passes
  pub any_true : (n a v : ℕ) → a ≤ v → v < a + n → test v ≡ true → any_from test a n ≡ true
  any_true zero a v l h p = absurd (omega arith)
  any_true (suc n) a v l h p = go (λ q. any_true n (suc a) v q (omega arith) p) (test a) refl (eq-or-lt_of_le l)
    where
      go : (a < v → any_from test (suc a) n ≡ true) → (b : Bool) → test a ≡ b → (a ≡ v) ⊎ (a < v) → any_from test a (suc n) ≡ true
      go ih true e d = any_hit n a e
      go ih false e (inl q) = any_hit n a (ap test q ∙ p)
      go ih false e (inr q) = any_passed n a e ∙ ih q

  -- none does
  pub any_false : (n a : ℕ) → NoneIn test a (a + n) → any_from test a n ≡ false
  unfolding any_from
  any_false zero a none = refl
  any_false (suc n) a none =
      any_passed n a (none a (le_refl a) (omega arith)) ∙ any_false n (suc a) (λ v l h. none v (le_of_lt l) (omega arith))

-- two tests that agree on the range find the same
pub any_same : (test other : ℕ → Bool) (n a : ℕ) → ((v : ℕ) → a ≤ v → v < a + n → test v ≡ other v) → any_from test a n ≡ any_from other a n
unfolding any_from
any_same test other zero a same = refl
any_same test other (suc n) a same =
    go (any_same test other n (suc a) (λ v l h. same v (le_of_lt l) (omega arith))) (test a) (other a) refl refl (same a (le_refl a) (omega arith))
  where
    go : any_from test (suc a) n ≡ any_from other (suc a) n → (b d : Bool) → test a ≡ b → other a ≡ d → test a ≡ other a → any_from test a (suc n) ≡ any_from other a (suc n)
    go ih true d e o s = any_hit test n a e ∙ sym (any_hit other n a (sym s ∙ e))
    go ih false d e o s = any_passed test n a e ∙ ih ∙ sym (any_passed other n a (sym s ∙ e))

-- a test that passes wherever another does finds something where the other does
pub any_more : (test other : ℕ → Bool) (n a : ℕ) → ((v : ℕ) → test v ≡ true → other v ≡ true) → any_from test a n ≡ true → any_from other a n ≡ true
unfolding any_from
any_more test other zero a more e = absurd (false≢true e)
any_more test other (suc n) a more e = go (λ h. any_more test other n (suc a) more h) (test a) refl (other a) refl
  where
    go : (any_from test (suc a) n ≡ true → any_from other (suc a) n ≡ true) → (b : Bool) → test a ≡ b → (d : Bool) → other a ≡ d → any_from other a (suc n) ≡ true
    go ih true h d o = any_hit other n a (more a h)
    go ih false h true o = any_hit other n a o
    go ih false h false o = any_passed other n a o ∙ ih (sym (any_passed test n a h) ∙ e)

-- what an answer says
module _ (test : ℕ → Bool) (n a : ℕ) where
  pub least_found : (w : ℕ) → least_from test a n ≡ Some w → LeastIn test a (a + n) w
  least_found w e = go (least_known test n a)
    where
      go : Known test n a → LeastIn test a (a + n) w
      go (inl d) = let same : d.0 ≡ w = cc d.2 in subst (LeastIn test a (a + n)) same d.1
      go (inr d) = let z : ◌≡◌ {A = ℕ} 0 1 = cc d.1 in absurd (omega arith)

  pub least_missed : least_from test a n ≡ None → NoneIn test a (a + n)
  least_missed e = go (least_known test n a)
    where
      go : Known test n a → NoneIn test a (a + n)
      go (inl d) = let z : ◌≡◌ {A = ℕ} 0 1 = cc d.2 in absurd (omega arith)
      go (inr d) = d.0

pub least_same : (test other : ℕ → Bool) (n a : ℕ) → ((v : ℕ) → a ≤ v → v < a + n → test v ≡ other v) → least_from test a n ≡ least_from other a n
unfolding least_from
least_same test other zero a same = refl
least_same test other (suc n) a same =
    go (least_same test other n (suc a) (λ v l h. same v (le_of_lt l) (omega arith))) (test a) refl (same a (le_refl a) (omega arith))
  where
    go : least_from test (suc a) n ≡ least_from other (suc a) n → (b : Bool) → test a ≡ b → test a ≡ other a → least_from test a (suc n) ≡ least_from other a (suc n)
    go ih true e s = found test n a a refl e ∙ sym (found other n a a refl (sym s ∙ e))
    go ih false e s = passed test n a e ∙ ih ∙ sym (passed other n a (sym s ∙ e))

-- a number that passes: the search finds it or one before it
pub least_upto : (test : ℕ → Bool) (n a w : ℕ) → a ≤ w → w < a + n → test w ≡ true → (r : ℕ) × LeastIn test a (a + n) r × (least_from test a n ≡ Some r) × (r ≤ w)
least_upto test n a w l u t = go (least_known test n a)
  where
    before : (r : ℕ) → LeastIn test a (a + n) r → Dec (r ≤ w) → r ≤ w
    before r f (yes h) = h
    before r f (no h) = absurd (false≢true (sym (f.before w l (omega arith)) ∙ t))

    go : Known test n a → (r : ℕ) × LeastIn test a (a + n) r × (least_from test a n ≡ Some r) × (r ≤ w)
    go (inl d) = (d.0, d.1, d.2, before d.0 d.1 (dec_le _ _))
    go (inr d) = absurd (false≢true (sym (d.0 w l u) ∙ t))

-- the paper's words, of the numbers from 1 on
module _ (test : ℕ → Bool) where
  pub least_unique : (v w : ℕ) → IsLeast test v → IsLeast test w → v ≡ w
  least_unique v w a b = omega (arith, a.first w b.positive b.passes, b.first v a.positive a.passes)

  -- what is first has none before it, and the other way round
  none_before : (w : ℕ) → IsLeast test w → NoneIn test 1 w
  none_before w l v p h = go (test v) refl
    where
      go : (b : Bool) → test v ≡ b → test v ≡ false
      go true t = absurd (omega (arith, l.first v p t))
      go false t = t

  pub first_of : (w : ℕ) → NoneIn test 1 w → (v : ℕ) → 1 ≤ v → test v ≡ true → w ≤ v
  first_of w none v p t = go (dec_le w v)
    where
      go : Dec (w ≤ v) → w ≤ v
      go (yes h) = h
      go (no h) = absurd (false≢true (sym (none v p (omega arith)) ∙ t))

  pub least_iff : (e w : ℕ) → (least_up_to test e ≡ Some w) ↔ (IsLeast test w × (w ≤ e))
  least_iff e w = (to, from)
    where
      to : least_up_to test e ≡ Some w → IsLeast test w × (w ≤ e)
      to q =
          let l = least_found test e 1 w q in
          (record { positive = l.from; passes = l.passes; first = first_of w l.before }, omega (arith, l.below))

      from : IsLeast test w × (w ≤ e) → least_up_to test e ≡ Some w
      from (l, h) = least_at test e 1 w (record { from = l.positive; below = omega arith; passes = l.passes; before = none_before w l })

  pub none_iff : (e : ℕ) → (least_up_to test e ≡ None) ↔ ((v : ℕ) → 1 ≤ v → v ≤ e → test v ≡ false)
  none_iff e = ((λ q v p h. least_missed test e 1 q v p (omega arith)), (λ none. least_nothing test e 1 (λ v p h. none v p (omega arith))))

  pub any_found : (n a : ℕ) → any_from test a n ≡ true → (t : ℕ) × (a ≤ t) × (t < a + n) × (test t ≡ true)
  any_found n a q = go (least_known test n a)
    where
      go : Known test n a → (t : ℕ) × (a ≤ t) × (t < a + n) × (test t ≡ true)
      go (inl d) = (d.0, d.1.from, d.1.below, d.1.passes)
      go (inr d) = absurd (false≢true (sym (any_false test n a d.0) ∙ q))

  pub any_iff : (e : ℕ) → (any_up_to test e ≡ true) ↔ ((t : ℕ) × (1 ≤ t) × (t ≤ e) × (test t ≡ true))
  any_iff e = ((λ q. let d = any_found e 1 q in (d.0, d.1, omega (arith, d.2), d.3)), (λ d. any_true test e 1 d.0 d.1 (omega (arith, d.2)) d.3))
