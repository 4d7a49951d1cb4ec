-- The demand of columns, place by place, and of a list.
--   demand_over period cost xs t == Σ ⌈t/P⌉×C over the elements of a list, each with its period and its cost
-- Assumes nothing.
use Prim.Native.Nat.{ℕ, zero, suc, ◌+◌, ◌-◌, ◌*◌, ◌≤◌, ◌<◌}
use native.Mathlib.Nat.{le_trans, mul-le-mul_right}
use native.Mathlib.Numerals.{add-one}
use native.Mathlib.Omega.{arith}
use native.Mathlib.Decide.{dec_lt}
use mathlib.Core.Path.{◌≡◌, refl, sym, ◌∙◌}
use mathlib.Core.List.{List, map, Memᴰ}
use lib.ListN.{length, drop, get_or, drop_of_length-le}
use lib.Seq.{drop-cons}
use Rattle.least.specs.Round.{ceil_div}
use Rattle.least.specs.Lists.{sum, count_from}
use Rattle.least.proofs.Round.{ceil_le, ceil_mono, product}
use Rattle.least.proofs.Lists.{count_from_lem}
use Rattle.least.proofs.Sums.{sum_mono, sum_most, length_count}
use Rattle.refusal.specs.Limits.{number_limit}
use Rattle.demand.specs.Code.Demand.{demand_from, cost_limit, demand_limit, FinePeriods, FineDemand}

module _ (periods costs : List ℕ) (n : ℕ) where
  pub demand_next : (k t : ℕ) → k < n → demand_from periods costs n k t ≡ ceil_div t (get_or periods k 0) * get_or costs k 0 + demand_from periods costs n (suc k) t
  unfolding demand_from count_from sum
  demand_next k t h = let e : n - k ≡ suc (n - suc k) = omega arith in rw e refl

  pub demand_turn : (k t m : ℕ) → k < n → m ≡ ceil_div t (get_or periods k 0) → demand_from periods costs n k t ≡ m * get_or costs k 0 + demand_from periods costs n (k + 1) t
  demand_turn k t m h e = rw (e, add-one) (demand_next k t h)

  pub demand_none : (k t : ℕ) → n ≤ k → demand_from periods costs n k t ≡ 0
  unfolding demand_from count_from sum
  demand_none k t h = let e : n - k ≡ 0 = omega arith in rw e refl

  module _ (fine : FineDemand periods costs n) (t : ℕ) (l : t ≤ number_limit) where
    each_most : (k : ℕ) → k < n → ceil_div t (get_or periods k 0) * get_or costs k 0 ≤ number_limit * cost_limit
    each_most k h = product number_limit cost_limit (le_trans (ceil_le t (get_or periods k 0) (fine.fine.some k h)) l) (fine.most k h)

    pub demand_most : (k : ℕ) → demand_from periods costs n k t ≤ demand_limit
    unfolding demand_from
    demand_most k =
        let most = sum_most (λ j. ceil_div t (get_or periods j 0) * get_or costs j 0) (number_limit * cost_limit) (count_from k (n - k)) (λ j m. each_most j (omega (arith, count_from_lem (n - k) k j m))) in
        omega (arith, most, length_count (n - k) k, fine.fine.few)

  -- it does not fall in t
  pub demand_rises : FinePeriods periods n → (k t u : ℕ) → t ≤ u → demand_from periods costs n k t ≤ demand_from periods costs n k u
  unfolding demand_from
  demand_rises fine k t u l =
      sum_mono (λ j. ceil_div t (get_or periods j 0) * get_or costs j 0) (λ j. ceil_div u (get_or periods j 0) * get_or costs j 0) (count_from k (n - k))
      (λ j m. mul-le-mul_right (get_or costs j 0) (ceil_mono t u (get_or periods j 0) (fine.some j (omega (arith, count_from_lem (n - k) k j m))) l))

  -- if each comes as often in e ticks as in t, they ask for the same
  module _ (s t e : ℕ) (same : (k : ℕ) → s ≤ k → k < n → ceil_div e (get_or periods k 0) ≡ ceil_div t (get_or periods k 0)) where
    same_from : (d k : ℕ) → n ≤ k + d → s ≤ k → demand_from periods costs n k e ≡ demand_from periods costs n k t
    same_from zero k h l = demand_none k e (omega arith) ∙ sym (demand_none k t (omega arith))
    same_from (suc d) k h l = go (dec_lt k n) (same_from d (suc k) (omega arith) (omega arith))
      where
        go : Dec (k < n) → demand_from periods costs n (suc k) e ≡ demand_from periods costs n (suc k) t → demand_from periods costs n k e ≡ demand_from periods costs n k t
        go (yes q) ih = demand_next k e q ∙ rw (same k l q, ih) (sym (demand_next k t q))
        go (no q) ih = demand_none k e (omega arith) ∙ sym (demand_none k t (omega arith))

    pub demand_same : demand_from periods costs n s e ≡ demand_from periods costs n s t
    demand_same = same_from n s (omega arith) (omega arith)

-- a turn of a loop that sums up the demand, its end, and its limit
pub ruleset demand_laws = (demand_turn, demand_none, demand_most)

module _ {A : Type 0} (period cost : A → ℕ) where
  -- what the elements of a list ask for
  abbrev pub demand_over : List A → ℕ → ℕ
  demand_over xs t = sum (map (λ x. ceil_div t (period x) * cost x) xs)

  -- it does not fall in t
  pub demand_mono : (xs : List A) → ((x : A) → Memᴰ x xs → 1 ≤ period x) → (t u : ℕ) → t ≤ u → demand_over xs t ≤ demand_over xs u
  demand_mono xs some t u h =
      sum_mono (λ x. ceil_div t (period x) * cost x) (λ x. ceil_div u (period x) * cost x) xs (λ x m. mul-le-mul_right (cost x) (ceil_mono t u (period x) (some x m) h))

  -- a list whose periods and costs stand in columns asks for what the columns ask for
  module _ (blank : A) (xs : List A) (periods costs : List ℕ) (n : ℕ) (count : length xs ≡ n)
      (periods-are : (k : ℕ) → k < n → period (get_or xs k blank) ≡ get_or periods k 0)
      (costs-are : (k : ℕ) → k < n → cost (get_or xs k blank) ≡ get_or costs k 0) (t : ℕ) where
    list_next : (k : ℕ) → k < n → demand_over (drop k xs) t ≡ ceil_div t (get_or periods k 0) * get_or costs k 0 + demand_over (drop (suc k) xs) t
    unfolding sum
    list_next k h = rw (drop-cons xs k blank (omega arith), periods-are k h, costs-are k h) refl

    list_none : (k : ℕ) → n ≤ k → demand_over (drop k xs) t ≡ 0
    unfolding sum
    list_none k h = rw (drop_of_length-le xs {i = k} (omega arith)) refl

    list_from : (d k : ℕ) → n ≤ k + d → demand_over (drop k xs) t ≡ demand_from periods costs n k t
    list_from zero k h = list_none k (omega arith) ∙ sym (demand_none periods costs n k t (omega arith))
    list_from (suc d) k h = go (dec_lt k n) (list_from d (suc k) (omega arith))
      where
        go : Dec (k < n) → demand_over (drop (suc k) xs) t ≡ demand_from periods costs n (suc k) t → demand_over (drop k xs) t ≡ demand_from periods costs n k t
        go (yes q) ih = list_next k q ∙ rw ih (sym (demand_next periods costs n k t q))
        go (no q) ih = list_none k (omega arith) ∙ sym (demand_none periods costs n k t (omega arith))

    pub list_demand : (k : ℕ) → demand_over (drop k xs) t ≡ demand_from periods costs n k t
    list_demand k = list_from n k (omega arith)
