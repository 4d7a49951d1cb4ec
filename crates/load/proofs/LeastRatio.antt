-- The least ratio L(t)/t over 1 ≤ t ≤ P, for a monotone L from 1 on, in steps that pass over many times. A ratio num/den to begin with is one that some
-- time attains, or 1/1. With `wait` 0 a time that reaches it is looked for, with `wait` 1 a time below it: one with den × L(t) + wait ≤ num × t. A time that is
-- found is moved to the end of its stretch, and its ratio taken; or a smaller one that some time attains, which is again to be reached.
--   Sought num den wait == no time has reached num/den yet, but one will, or it is 1/1
--   Found num den wait  == num/den is L(den)/den, and the times before den are above it
--   Best n num den wait == no time up to n is looked for, and num/den is sought or found
-- Assumes nothing.
use Prim.Native.Nat.{ℕ, ◌+◌, ◌*◌, ◌≤◌, ◌<◌}
use native.Mathlib.Nat.{mul_comm, mul_left_comm, mul_right_comm, mul-add, mul-le-mul_left, mul-le-mul_right, mul-lt-mul_of_pos_left, mul-lt-mul_of_pos_right, le_of_mul-le-mul_left, lt_of_mul-lt-mul_left, lt_of_mul-lt-mul_right}
use native.Mathlib.Omega.{arith}
use native.Mathlib.Decide.{dec_le, dec_lt}
use mathlib.Core.Path.{◌≡◌, refl, sym, ap, ◌∙◌}
use mathlib.Core.Logic.{◌⊎◌, inl, inr, ⊎_elim}
use Rattle.least.specs.declared.Frac.{Frac}
use Rattle.least.specs.Fraction.{frac, no_bound, ◌⊑◌, ◌⊏◌, least_over}
use Rattle.least.proofs.Iterate.{Mono}
use Rattle.least.proofs.Fraction.{cond_le, ⊑-noBound, least_over_stays, least_over_falls}
use Rattle.load.specs.Load.{ratio}
use Rattle.load.proofs.Load.{ratio_is, ratio_none}

-- a ratio that is no smaller, and one that is
no_smaller : (num den l u : ℕ) → num * u ≤ den * l → frac num den ⊑ ratio l u
unfolding ratio
no_smaller num den l u h = cond_le (λ x. frac num den ⊑ x) l u (λ k. record { cross = omega (arith, mul_comm den l) }) (λ _. ⊑-noBound _)

smaller : (num den l u : ℕ) → 1 ≤ den → num * u < den * l → frac num den ⊏ ratio l u
unfolding ratio
smaller num den l u o h = cond_le (λ x. frac num den ⊏ x) l u (λ k. record { cross = omega (arith, mul_comm den l) }) (λ _. record { cross = omega arith })

module _ (L : ℕ → ℕ) (P : ℕ) where
  pub record Sought (num den wait : ℕ) : Type 0 where
    pub attained : ((num ≡ 1) × (den ≡ 1)) ⊎ (num ≡ L den)
    pub unreached : wait ≡ 0

  pub record Found (num den wait : ℕ) : Type 0 where
    pub is : num ≡ L den
    pub first : (u : ℕ) → 1 ≤ u → u < den → num * u < den * L u
    pub reached : wait ≡ 1

  pub record Best (n num den wait : ℕ) : Type 0 where
    pub within : n ≤ P
    pub some : 1 ≤ num
    pub reach : num ≤ den
    pub small : den ≤ P
    pub none : (u : ℕ) → 1 ≤ u → u ≤ n → num * u < den * L u + wait
    pub came : Sought num den wait ⊎ Found num den wait

  pub wait_most : {n num den wait : ℕ} → Best n num den wait → wait ≤ 1
  wait_most b = ⊎_elim (λ k. omega (arith, k.unreached)) (λ k. omega (arith, k.reached)) b.came

  pub best_start : (num den : ℕ) → 1 ≤ num → num ≤ den → den ≤ P → ((num ≡ 1) × (den ≡ 1)) ⊎ (num ≡ L den) → Best 0 num den 0
  best_start num den o r l at =
      record { within = omega arith; some = o; reach = r; small = l; none = λ u p q. absurd (omega arith); came = inl (record { attained = at; unreached = refl }) }

  -- a smaller ratio that some time attains
  pub best_lower : (n l e num den : ℕ) → Best n l e 1 → 1 ≤ num → num ≤ den → den ≤ P → num ≡ L den → num * e < l * den → Best n num den 0
  best_lower n l e num den b o r k at h =
      record { within = b.within; some = o; reach = r; small = k; none = above; came = inl (record { attained = inr at; unreached = refl }) }
    where
      above : (u : ℕ) → 1 ≤ u → u ≤ n → num * u < den * L u + 0
      above u p q =
          let g : num * u * e < den * L u * e = omega (arith, mul-lt-mul_of_pos_right h p, mul_right_comm num u e, mul_right_comm l den u, mul-le-mul_left {m = l * u} {n = e * L u} den (omega (arith, b.none u p q)), mul_comm den (l * u), mul_left_comm den e (L u), mul_comm e (den * L u)) in
          omega (arith, lt_of_mul-lt-mul_right e g)

  module _ (n num den wait : ℕ) (best : Best n num den wait) where
    pos : 1 ≤ den
    pos = omega (arith, best.some, best.reach)

    -- up to m, m left out, no time is looked for
    none_before : (m : ℕ) → ((u : ℕ) → n < u → u < m → num * u < den * L u + wait) → (u : ℕ) → 1 ≤ u → u < m → num * u < den * L u + wait
    none_before m on u p q = go (dec_le u n)
      where
        go : Dec (u ≤ n) → num * u < den * L u + wait
        go (yes a) = best.none u p a
        go (no a) = on u (omega arith) q

    -- the first time that is looked for is t, and L does not change from t to e
    module _ (mono : Mono L) (t e l : ℕ) (after : n < t) (upto : t ≤ e) (most : e ≤ P) (before : (u : ℕ) → n < u → u < t → num * u < den * L u + wait)
        (met : den * l + wait ≤ num * t) (is : l ≡ L t) (same : L e ≡ L t) (pos-l : 1 ≤ l) where
      low : l ≤ t
      low = le_of_mul-le-mul_left {m = l} {n = t} {k = den} (omega (arith, mul-le-mul_right t best.reach)) pos

      -- the times before t are above its ratio
      earlier : (u : ℕ) → 1 ≤ u → u < t → l * u < t * L u
      earlier u p r =
          let h = none_before t before u p r in
          let once : t * wait < u * wait + t = ⊎_elim (λ k. omega (arith, ap (λ (x : ℕ). t * x) k.unreached)) (λ k. omega (arith, ap (λ (x : ℕ). t * x) k.reached, ap (λ (x : ℕ). u * x) k.reached)) best.came in
          lt_of_mul-lt-mul_left den (omega (arith, once, mul-le-mul_left {m = num * u + 1} {n = den * L u + wait} t (omega arith), mul-add t (num * u) 1, mul-add t (den * L u) wait, mul-le-mul_left u met, mul-add u (den * l) wait, mul_left_comm t den (L u), mul_left_comm u den l, mul_left_comm t num u, mul_left_comm u num t, ap (λ (x : ℕ). num * x) (mul_comm u t), ap (λ (x : ℕ). den * x) (mul_comm u l)))

      -- L is the same from t to e
      later : (u : ℕ) → t ≤ u → u ≤ e → e * L u ≡ l * e
      later u p q = let flat : L u ≡ l = omega (arith, mono t u p, mono u e q) in ap (λ (x : ℕ). e * x) flat ∙ mul_comm e l

      -- so its ratio is least at e
      strict : (u : ℕ) → 1 ≤ u → u < e → l * u < e * L u
      strict u p r = go (dec_lt u t)
        where
          go : Dec (u < t) → l * u < e * L u
          go (yes a) = omega (arith, earlier u p a, mul-le-mul_right (L u) upto)
          go (no a) = omega (arith, later u (omega arith) (omega arith), mul-lt-mul_of_pos_left r pos-l)

      no_less : (u : ℕ) → 1 ≤ u → u ≤ e → l * u < e * L u + 1
      no_less u p r = go (dec_lt u e)
        where
          go : Dec (u < e) → l * u < e * L u + 1
          go (yes a) = omega (arith, strict u p a)
          go (no a) = omega (arith, later u (omega arith) r, mul-le-mul_left l r)

      pub best_found : Best e l e 1
      best_found = record {
        within = most;
        some = pos-l;
        reach = omega (arith, low);
        small = most;
        none = no_less;
        came = inr (record { is = is ∙ sym same; first = strict; reached = refl });
      }

    -- no time is looked for: the ratio is the least, or there is none
    module _ (all : (u : ℕ) → n < u → u ≤ P → num * u < den * L u + wait) where
      none_up : (u : ℕ) → 1 ≤ u → u ≤ P → num * u < den * L u + wait
      none_up u p q = none_before (P + 1) (λ v a b. all v a (omega arith)) u p (omega arith)

      least_found : Found num den wait → least_over P (λ t. ratio (L t) t) ≡ frac num den
      unfolding least_over
      least_found f = least_over_stays g den P best.small (λ u p q. rw falls (no_smaller num den (L u) u (omega (arith, f.reached, none_up u (omega arith) q)))) ∙ falls
        where
          g : ℕ → Frac
          g = λ (t : ℕ). ratio (L t) t

          at : ratio (L den) den ≡ frac num den
          at = rw (← f.is) (ratio_is num den best.reach)

          falls : least_over den g ≡ frac num den
          falls = least_over_falls g 0 den pos (rw at (record { cross = omega (arith, pos) })) (λ u p q. rw at (smaller num den (L u) u pos (f.first u p q))) ∙ at

      none_found : Sought num den wait → least_over P (λ t. ratio (L t) t) ≡ no_bound
      unfolding least_over
      none_found b = least_over_stays (λ t. ratio (L t) t) 0 P (omega arith) (λ u p q. rw (ratio_none (L u) u (far u p q b.attained)) (⊑-noBound _))
        where
          far : (u : ℕ) → 1 ≤ u → u ≤ P → ((num ≡ 1) × (den ≡ 1)) ⊎ (num ≡ L den) → u < L u
          far u p q (inl k) = omega (arith, b.unreached, none_up u p q, ap (λ (x : ℕ). x * u) k.0, ap (λ (x : ℕ). x * L u) k.1)
          far u p q (inr k) = absurd (omega (arith, b.unreached, none_up den pos best.small, ap (λ (x : ℕ). den * x) k, mul_comm num den))

      pub best_settled : 0 < wait → least_over P (λ t. ratio (L t) t) ≡ frac num den
      best_settled z = ⊎_elim (λ b. absurd (omega (arith, b.unreached))) least_found best.came

      pub best_none : wait ≤ 0 → least_over P (λ t. ratio (L t) t) ≡ no_bound
      best_none z = ⊎_elim none_found (λ f. absurd (omega (arith, f.reached))) best.came
