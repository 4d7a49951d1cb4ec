-- The kept list, made by trying every setting on a list, is what the paper says of every setting and every budget.
-- Assumes nothing.
use Rattle.std.specs.Prelude.{Option, Some, None}
use Prim.Native.Nat.{ℕ, ◌≤◌}
use native.Mathlib.Omega.{arith}
use mathlib.Core.Path.{◌≡◌, refl, sym, ap, ◌∙◌, subst}
use mathlib.Core.Bool.{Bool, true, false, cond}
use mathlib.Core.Logic.{◌↔◌}
use mathlib.Core.List.Memᴰ
use mathlib.Core.List.{[], Memᴰ}
use Rattle.least.proofs.Search.{least_upto, least_iff}
use Rattle.least.proofs.Lists.{joined_map_iff, no_member}
use Rattle.task_set.specs.Partition.{Partition}
use Rattle.task_set.specs.Blocking.{Setting}
use Rattle.task_set.proofs.SettingsAgree.{Agree}
use Rattle.holding.specs.Holding.{permitted, holding_time_of}
use Rattle.holding.proofs.SettingsAgree.{permitted_agree, holding_time_agree}
use Rattle.budget.specs.Budget.{passes, least_budget}
use Rattle.budget.proofs.SettingsAgree.{least_budget_agree}
use Rattle.candidates.specs.declared.Pair.{Pair}
use Rattle.candidates.specs.Candidates.{pair, pair_with, settings, candidate_of, candidates_in, kept_list}
use Rattle.candidates.specs.Statement.{Permitted, Candidate, IsKept}
use Rattle.candidates.proofs.Settings.{settings_ranged, settings_all}
use Rattle.candidates.proofs.Falling.{Falling}
use Rattle.candidates.proofs.Keeping.{pair_same, Covered, kept_among_iff, kept_among_falls, kept_among_covers}

pair_with_iff : (X : ℕ) (a : Option ℕ) (c : Pair) → Memᴰ c (pair_with X a) ↔ ((X ≡ c.holding) × (a ≡ Some c.budget))
pair_with_iff X (Some Q) c = (to, λ h. Memᴰ.head (pair_same c (pair Q X) (cc h.1) (sym h.0)))
  where
    to : Memᴰ c (pair_with X (Some Q)) → (X ≡ c.holding) × (Some Q ≡ Some c.budget)
    to m = let e = Memᴰ.eq_of_singleton m in (ap (λ p. p.holding) (sym e), ap (λ p. Some p.budget) (sym e))
pair_with_iff X None c = ((λ m. absurd (Memᴰ.not-nil m)), λ h. let z : ◌≡◌ {A = ℕ} 0 1 = cc h.1 in absurd (omega arith))

module _ (v : Partition) where
  -- σ is permitted, and c is its X with its least passing Q
  pub record PairOf (σ : Setting) (c : Pair) : Type 0 where
    pub held : permitted v σ ≡ true
    pub holding : holding_time_of v σ ≡ c.holding
    pub budget : least_budget v σ ≡ Some c.budget

  candidate_of_iff : (σ : Setting) (c : Pair) → Memᴰ c (candidate_of v σ) ↔ PairOf σ c
  unfolding candidate_of
  candidate_of_iff σ c = (to, from)
    where
      to : Memᴰ c (candidate_of v σ) → PairOf σ c
      to k = go (permitted v σ) refl k
        where
          go : (b : Bool) → permitted v σ ≡ b → Memᴰ c (cond b (pair_with (holding_time_of v σ) (least_budget v σ)) []) → PairOf σ c
          go true e q = let h = (pair_with_iff _ _ c).0 q in record { held = e; holding = h.0; budget = h.1 }
          go false e q = absurd (Memᴰ.not-nil q)

      from : PairOf σ c → Memᴰ c (candidate_of v σ)
      from h = rw h.held ((pair_with_iff _ _ c).1 (h.holding, h.budget))

  pair_of_agree : (τ σ : Setting) (c : Pair) → Agree v.locks τ σ → PairOf σ c → PairOf τ c
  pair_of_agree τ σ c same h = record {
    held = permitted_agree v τ σ same ∙ h.held;
    holding = holding_time_agree v τ σ same ∙ h.holding;
    budget = least_budget_agree v τ σ same ∙ h.budget;
  }

  pub candidate_iff : (c : Pair) → Memᴰ c (candidates_in v) ↔ Candidate v c
  unfolding candidates_in
  candidate_iff c = (to, from)
    where
      to : Memᴰ c (candidates_in v) → Candidate v c
      to k =
          let j = (joined_map_iff (candidate_of v) c (settings v)).0 k in
          let h = (candidate_of_iff j.0 c).0 j.2 in
          record {
            setting = j.0;
            allowed = record { ranged = settings_ranged v j.0 j.1; held = h.held };
            holding = h.holding;
            budget = h.budget;
          }

      from : Candidate v c → Memᴰ c (candidates_in v)
      from d =
          let t = settings_all v d.setting d.allowed.ranged in
          let h : PairOf d.setting c = record { held = d.allowed.held; holding = d.holding; budget = d.budget } in
          (joined_map_iff (candidate_of v) c (settings v)).1 (t.0, t.1, (candidate_of_iff t.0 c).1 (pair_of_agree t.0 d.setting c t.2 h))

  pub kept_iff : (c : Pair) → Memᴰ c (kept_list v) ↔ IsKept v c
  unfolding kept_list
  kept_iff c = (to, from)
    where
      to : Memᴰ c (kept_list v) → IsKept v c
      to k =
          let h = (kept_among_iff (candidates_in v) c).0 k in
          record { candidate = (candidate_iff c).0 h.0; alone = λ d q x s. h.1 d ((candidate_iff d).1 q) (record { holding = x; sum = s }) }

      from : IsKept v c → Memᴰ c (kept_list v)
      from h = (kept_among_iff (candidates_in v) c).1 ((candidate_iff c).1 h.candidate, λ d q w. h.alone d ((candidate_iff d).0 q) w.holding w.sum)

  pub kept_falls : Falling (kept_list v)
  unfolding kept_list
  kept_falls = kept_among_falls (candidates_in v)

  -- each candidate has a kept pair beside it that is no worse
  pub kept_beside : (c : Pair) → Candidate v c → Covered (kept_list v) c
  unfolding kept_list
  kept_beside c d = kept_among_covers (candidates_in v) c ((candidate_iff c).1 d)

  none_beside : (c : Pair) → Covered (kept_list v) c → kept_list v ≡ [] → ⊥
  none_beside c k e = Memᴰ.not-nil (subst (Memᴰ k.0) e k.1)

  pub kept_empty : (kept_list v ≡ []) ↔ ((c : Pair) → Candidate v c → ⊥)
  kept_empty = ((λ e c d. none_beside c (kept_beside c d) e), λ none. no_member (kept_list v) (λ c k. none c ((kept_iff c).0 k).candidate))

  -- a budget that passes under a permitted setting makes a candidate of the least one
  least_candidate : (σ : Setting) (Q : ℕ) → Permitted v σ → 1 ≤ Q → Q ≤ v.period → passes v σ Q ≡ true → (q : ℕ) × (q ≤ Q) × Candidate v (pair q (holding_time_of v σ))
  unfolding least_budget
  least_candidate σ Q ok a b t =
      let l = least_upto (passes v σ) v.period 1 Q a (omega arith) t in
      (l.0, l.3, record { setting = σ; allowed = ok; holding = refl; budget = l.2 })

  pub kept_covers : (σ : Setting) (Q : ℕ) → Permitted v σ → 1 ≤ Q → Q ≤ v.period → passes v σ Q ≡ true → Covered (kept_list v) (pair Q (holding_time_of v σ))
  kept_covers σ Q ok a b t =
      let l = least_candidate σ Q ok a b t in
      let k = kept_beside (pair l.0 (holding_time_of v σ)) l.2 in
      (k.0, k.1, record { holding = k.2.holding; sum = omega (arith, k.2.sum, l.1) })

  -- the same of settings and budgets: no budget passes under any permitted setting
  abbrev pub NothingPasses : Type 0
  NothingPasses = (σ : Setting) (Q : ℕ) → Permitted v σ → 1 ≤ Q → Q ≤ v.period → passes v σ Q ≡ true → ⊥

  pub kept_none : (kept_list v ≡ []) ↔ NothingPasses
  unfolding least_budget
  kept_none = ((λ e σ Q ok a b t. none_beside (pair Q (holding_time_of v σ)) (kept_covers σ Q ok a b t) e), λ none. kept_empty.1 (no_candidate none))
    where
      no_candidate : NothingPasses → (c : Pair) → Candidate v c → ⊥
      no_candidate none c d =
          let l = (least_iff (passes v d.setting) v.period c.budget).0 d.budget in
          none d.setting c.budget d.allowed l.0.positive l.1 l.0.passes
