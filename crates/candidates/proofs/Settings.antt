-- The list of all settings: each on it is in range, and each that is in range agrees on the locks with one on it.
-- Assumes nothing.
use Prim.Native.Nat.{ℕ, zero, suc, ◌≤◌}
use native.Mathlib.Omega.{arith}
use native.Mathlib.Decide.{ℕ_discrete}
use mathlib.Core.Path.{◌≡◌, refl, sym, ap, ◌∙◌, subst}
use mathlib.Core.Bool.{Bool, true, cond}
use mathlib.Core.List.Memᴰ
use mathlib.Core.List.{Memᴰ}
use borrow.Author.Tests.{eq-eqb, ne_eqb}
use Rattle.least.specs.Lists.{range}
use Rattle.least.proofs.Lists.{range_iff, joined_map_iff}
use Rattle.task_set.specs.Tasks.{lowest_ceiling}
use Rattle.task_set.specs.Partition.{Partition}
use Rattle.task_set.specs.Blocking.{Setting}
use Rattle.task_set.proofs.SettingsAgree.{Agree}
use Rattle.holding.specs.Holding.{highest_ceiling, in_range}
use Rattle.holding.proofs.Holding.{in_range_paper}
use Rattle.candidates.specs.Candidates.{with_ceiling, settings_to, settings}

-- lock l has the ceiling r, and the others keep theirs
with_here : (σ : Setting) (l r k : ℕ) → k ≡ l → with_ceiling σ l r k ≡ r
with_here σ l r k e = ap (λ (b : Bool). cond b r (σ k)) (eq-eqb k l e)

with_other : (σ : Setting) (l r k : ℕ) → (k ≡ l → ⊥) → with_ceiling σ l r k ≡ σ k
with_other σ l r k n = ap (λ (b : Bool). cond b r (σ k)) (ne_eqb k l n)

-- a setting of the locks 1 to m + 1: one of the locks 1 to m with a ceiling for the last
with_agree : (m : ℕ) (τ σ : Setting) → Agree m τ σ → Agree (suc m) (with_ceiling τ (suc m) (σ (suc m))) σ
with_agree m τ σ same l a b = go (ℕ_discrete l (suc m))
  where
    go : Dec (l ≡ suc m) → with_ceiling τ (suc m) (σ (suc m)) l ≡ σ l
    go (yes e) = with_here τ (suc m) (σ (suc m)) l e ∙ ap σ (sym e)
    go (no n) = with_other τ (suc m) (σ (suc m)) l n ∙ same l a (omega arith)

module _ (v : Partition) where
  -- the ceilings of the locks 1 to m are in range
  abbrev RangedTo : ℕ → Setting → Type 0
  RangedTo m σ = (l : ℕ) → 1 ≤ l → l ≤ m → (lowest_ceiling l v.tasks ≤ σ l) × (σ l ≤ highest_ceiling v l)

  with_ranged : (m : ℕ) (σ : Setting) (r : ℕ) → RangedTo m σ → lowest_ceiling (suc m) v.tasks ≤ r → r ≤ highest_ceiling v (suc m) → RangedTo (suc m) (with_ceiling σ (suc m) r)
  with_ranged m σ r h a b l c d = go (ℕ_discrete l (suc m))
    where
      go : Dec (l ≡ suc m) → (lowest_ceiling l v.tasks ≤ with_ceiling σ (suc m) r l) × (with_ceiling σ (suc m) r l ≤ highest_ceiling v l)
      go (yes e) = rw (with_here σ (suc m) r l e, e) (a, b)
      go (no n) = rw (with_other σ (suc m) r l n) (h l c (omega arith))

  of_ranged : (m : ℕ) (σ : Setting) → RangedTo m σ → (τ : Setting) × Memᴰ τ (settings_to v m) × Agree m τ σ
  unfolding settings_to
  of_ranged zero σ h = ((λ l. 0), Memᴰ.head refl, λ l a b. absurd (omega arith))
  of_ranged (suc m) σ h =
      let t = of_ranged m σ (λ l a b. h l a (omega arith)) in
      let r = (range_iff (lowest_ceiling (suc m) v.tasks) (highest_ceiling v (suc m)) (σ (suc m))).1 (h (suc m) (omega arith) (omega arith)) in
      (with_ceiling t.0 (suc m) (σ (suc m)), (joined_map_iff _ _ _).1 (σ (suc m), r, Memᴰ.map _ t.1), with_agree m t.0 σ t.2)

  pub settings_all : (σ : Setting) → in_range v σ ≡ true → (τ : Setting) × Memᴰ τ (settings v) × Agree v.locks τ σ
  settings_all σ e = of_ranged v.locks σ ((in_range_paper v σ).0 e)

  ranged : (m : ℕ) (σ : Setting) → Memᴰ σ (settings_to v m) → RangedTo m σ
  unfolding settings_to
  ranged zero σ k = λ l a b. absurd (omega arith)
  ranged (suc m) σ k =
      let j = (joined_map_iff _ σ (range (lowest_ceiling (suc m) v.tasks) (highest_ceiling v (suc m)))).0 k in
      let r = (range_iff (lowest_ceiling (suc m) v.tasks) (highest_ceiling v (suc m)) j.0).0 j.1 in
      let t = Memᴰ.of_map _ (settings_to v m) j.2 in
      subst (RangedTo (suc m)) t.2 (with_ranged m t.0 j.0 (ranged m t.0 t.1) r.0 r.1)

  pub settings_ranged : (σ : Setting) → Memᴰ σ (settings v) → in_range v σ ≡ true
  settings_ranged σ k = (in_range_paper v σ).1 (ranged v.locks σ k)
