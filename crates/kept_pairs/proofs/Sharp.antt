-- A part with n tasks has at most n kept pairs (crate candidates, law `kept_n`), and no smaller bound holds: for each n from 1 on some part with n tasks has n.
--   step n m  == the pair of the ceiling n − m: the budget 8n − 2m with X = 4n + m
--   steps n k == these pairs from m = k − 1 down to m = 0
-- Assumes nothing.
use Rattle.std.specs.Prelude.{Option, Some}
use Prim.Native.Nat.{ℕ, zero, suc, ◌+◌, ◌-◌, ◌*◌, ◌≤◌, ◌<◌}
use native.Mathlib.Nat.{le_refl, eq-or-lt_of_le}
use native.Mathlib.Omega.{arith}
use mathlib.Core.Path.{◌≡◌, refl, sym, ap, ◌∙◌, subst}
use mathlib.Core.Bool.{true}
use mathlib.Core.Logic.{◌⊎◌, inl, inr, ◌↔◌}
use mathlib.Core.List.{List, [], ◌∷◌, Memᴰ}
use lib.ListN.{length}
use Rattle.least.specs.Lists.{nth_or}
use Rattle.least.proofs.Pairwise.{Pairwise}
use Rattle.task_set.specs.Partition.{Partition, is_shared}
use Rattle.task_set.specs.Blocking.{Setting}
use Rattle.holding.specs.Holding.{highest_ceiling, in_range}
use Rattle.holding.proofs.Holding.{Ranged, in_range_paper, highest_shared}
use Rattle.candidates.specs.declared.Pair.{Pair}
use Rattle.candidates.specs.Candidates.{pair, kept_list}
use Rattle.candidates.specs.Statement.{Candidate}
use Rattle.candidates.proofs.Keeping.{pair_same, Covered}
use Rattle.candidates.proofs.Walk.{Behind, kept_criterion}
use Rattle.kept_pairs.proofs.Family.{stairs, stairs_length, ceiling_lowest}
use Rattle.kept_pairs.proofs.Ceilings.{stairs_budget, stairs_permitted, stairs_time}

at_same : (a b : ℕ) → ◌≡◌ {A = Option ℕ} (Some a) (Some b) → a ≡ b
at_same a b e = cc

-- the pairs
module _ (n : ℕ) where
  abbrev pub step : ℕ → Pair
  step m = pair (8 * n - 2 * m) (4 * n + m)

  unfoldable pub steps : ℕ → List Pair
  steps zero = []
  steps (suc m) = step m ∷ steps m

  steps_length : (k : ℕ) → length (steps k) ≡ k
  unfolding steps
  steps_length zero = refl
  steps_length (suc k) = ap suc (steps_length k)

  steps_from : (k : ℕ) (c : Pair) → Memᴰ c (steps k) → (m : ℕ) × (m < k) × (c ≡ step m)
  unfolding steps
  steps_from zero c x' = elim x' [ ]
  steps_from (suc k) c (Memᴰ.head e) = (k, omega arith, e)
  steps_from (suc k) c (Memᴰ.tail q) = let h = steps_from k c q in (h.0, omega (arith, h.1), h.2)

  steps_to : (k m : ℕ) → m < k → Memᴰ (step m) (steps k)
  unfolding steps
  steps_to zero m h = absurd (omega arith)
  steps_to (suc k) m h = go (λ l. steps_to k m l) (eq-or-lt_of_le h)
    where
      go : (m < k → Memᴰ (step m) (steps k)) → (suc m ≡ suc k) ⊎ (suc m < suc k) → Memᴰ (step m) (step k ∷ steps k)
      go ih (inl e) = let same : m ≡ k = omega arith in Memᴰ.head (ap step same)
      go ih (inr l) = Memᴰ.tail (ih (omega arith))

  -- along them X falls and Q+X rises
  steps_ordered : (k : ℕ) → k ≤ n → Pairwise Behind (steps k)
  unfolding steps
  steps_ordered zero u = Pairwise.none
  steps_ordered (suc k) u = Pairwise.more behind (steps_ordered k (omega arith))
    where
      behind : (d : Pair) → Memᴰ d (steps k) → Behind (step k) d
      behind d q =
          let h = steps_from k d q in
          let x = ap (λ (p : Pair). p.holding) h.2 in
          let b = ap (λ (p : Pair). p.budget) h.2 in
          record { holding = omega (arith, h.1, x); sum = omega (arith, h.1, x, b) }

  module _ (some : 1 ≤ n) where
    ceiling_highest : highest_ceiling (stairs n) 1 ≡ n
    unfolding is_shared nth_or
    ceiling_highest = highest_shared (stairs n) 1 refl ∙ stairs_length n some

    -- a setting of the part has a ceiling from 1 to n for its lock
    setting_iff : (σ : Setting) → (in_range (stairs n) σ ≡ true) ↔ ((1 ≤ σ 1) × (σ 1 ≤ n))
    setting_iff σ = (to, λ h. (in_range_paper (stairs n) σ).1 (from h))
      where
        to : in_range (stairs n) σ ≡ true → (1 ≤ σ 1) × (σ 1 ≤ n)
        to e = let h = (in_range_paper (stairs n) σ).0 e 1 (omega arith) (omega arith) in (omega (arith, h.0, ceiling_lowest n some), omega (arith, h.1, ceiling_highest))

        from : (1 ≤ σ 1) × (σ 1 ≤ n) → Ranged (stairs n) σ
        from h l a b = let one : l ≡ 1 = omega arith in rw one (omega (arith, h.0, ceiling_lowest n some), omega (arith, h.1, ceiling_highest))

    step_candidate : (m : ℕ) → m < n → Candidate (stairs n) (step m)
    step_candidate m h = record {
      setting = λ l. n - m;
      allowed = record { ranged = (setting_iff (λ l. n - m)).1 (omega arith, omega arith); held = stairs_permitted n some (λ l. n - m) m (omega arith) (omega arith) };
      holding = stairs_time n some (λ l. n - m) m (omega arith) (omega arith);
      budget = stairs_budget n some (λ l. n - m) m (omega arith) (omega arith);
    }

    -- each candidate is one of them
    candidate_step : (d : Pair) → Candidate (stairs n) d → (m : ℕ) × (m < n) × (d ≡ step m)
    candidate_step d q =
        let σ = q.setting in
        let r = (setting_iff σ).0 q.allowed.ranged in
        let X = stairs_time n some σ (n - σ 1) r.0 (omega (arith, r.1)) in
        let Q = stairs_budget n some σ (n - σ 1) r.0 (omega (arith, r.1)) in
        (n - σ 1, omega (arith, r.0, r.1), pair_same d (step (n - σ 1)) (at_same _ _ (sym q.budget ∙ Q)) (sym q.holding ∙ X))

    pub stairs_kept : steps n ≡ kept_list (stairs n)
    stairs_kept = kept_criterion (stairs n) (steps n) candidates (steps_ordered n (le_refl n)) covers
      where
        candidates : (c : Pair) → Memᴰ c (steps n) → Candidate (stairs n) c
        candidates c k = let h = steps_from n c k in subst (Candidate (stairs n)) (sym h.2) (step_candidate h.0 h.1)

        covers : (d : Pair) → Candidate (stairs n) d → Covered (steps n) d
        covers d q =
            let h = candidate_step d q in
            (d, subst (λ (c : Pair). Memᴰ c (steps n)) (sym h.2) (steps_to n h.0 h.1), record { holding = le_refl _; sum = le_refl _ })

    pub stairs_count : length (kept_list (stairs n)) ≡ n
    stairs_count = ap length (sym stairs_kept) ∙ steps_length n

-- as many kept pairs as tasks
pub reached : (n : ℕ) → 1 ≤ n → (v : Partition) × (length v.tasks ≡ n) × (length (kept_list v) ≡ n)
reached n h = (stairs n, stairs_length n h, stairs_count n h)
