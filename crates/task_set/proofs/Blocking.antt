-- Laws of blocking: the paper's sentence, and that higher ceilings block no less.
--   Reaches m σ i l == lock l, one of 1 to m, has a ceiling ≥ i
-- Assumes nothing.
use Prim.Native.Nat.{ℕ, suc, ◌≤◌, ◌<◌}
use native.Mathlib.Nat.{le_trans}
use native.Mathlib.Omega.{arith}
use native.Mathlib.Decide.{dec_le}
use mathlib.Core.Path.{◌≡◌, refl, ◌∙◌}
use mathlib.Core.Bool.{cond}
use mathlib.Core.List.{List, [], Memᴰ}
use mathlib.Core.Logic.{◌⊎◌, inl, inr, ⊎_elim}
use lib.Dec.{leb}
use lib.ListN.{length}
use borrow.Author.Tests.{le-leb, lt-leb}
use Rattle.least.specs.Lists.{greatest, range}
use Rattle.least.proofs.Lists.{range_iff}
use Rattle.least.proofs.Greatest.{greatest_each, greatest_reached, greatest_mono}
use Rattle.task_set.specs.declared.Task.{Task}
use Rattle.task_set.specs.Tasks.{held_for}
use Rattle.task_set.specs.Blocking.{Setting, blocked_by, blocking_of}

-- what task h holds lock l for, where the lock's ceiling is at least i
abbrev reaching : Setting → ℕ → Task → ℕ → ℕ
reaching σ i h l = cond (leb i (σ l)) (held_for l h) 0

reaching_is : (σ : Setting) (i : ℕ) (h : Task) (l : ℕ) → i ≤ σ l → reaching σ i h l ≡ held_for l h
reaching_is σ i h l u = rw (le-leb i (σ l) u) refl

reaching_not : (σ : Setting) (i : ℕ) (h : Task) (l : ℕ) → σ l < i → reaching σ i h l ≡ 0
reaching_not σ i h l u = rw (lt-leb i (σ l) u) refl

reaching_mono : (σ τ : Setting) (i : ℕ) (h : Task) (l : ℕ) → σ l ≤ τ l → reaching σ i h l ≤ reaching τ i h l
reaching_mono σ τ i h l u = go (dec_le i (σ l))
  where
    go : Dec (i ≤ σ l) → reaching σ i h l ≤ reaching τ i h l
    go (yes a) = omega (arith, reaching_is σ i h l a, reaching_is τ i h l (le_trans a u))
    go (no a) = omega (arith, reaching_not σ i h l (omega arith))

pub record Reaches (m : ℕ) (σ : Setting) (i l : ℕ) : Type 0 where
  pub from : 1 ≤ l
  pub upto : l ≤ m
  pub ceiling : i ≤ σ l

-- the time that one lower task blocks task i
module _ (m : ℕ) (σ : Setting) (i : ℕ) (h : Task) where
  -- b is 0 or the time that h holds a lock which reaches i
  abbrev pub HeldOr0 : ℕ → Type 0
  HeldOr0 b = (b ≡ 0) ⊎ ((l : ℕ) × Reaches m σ i l × (b ≡ held_for l h))

  reached_by : (b l : ℕ) → Memᴰ l (range 1 m) → b ≡ reaching σ i h l → HeldOr0 b
  reached_by b l k e = go ((range_iff 1 m l).0 k) (dec_le i (σ l))
    where
      go : (1 ≤ l) × (l ≤ m) → Dec (i ≤ σ l) → HeldOr0 b
      go r (yes u) = inr (l, record { from = r.0; upto = r.1; ceiling = u }, e ∙ reaching_is σ i h l u)
      go r (no u) = inl (e ∙ reaching_not σ i h l (omega arith))

  pub blocked_reached : HeldOr0 (blocked_by m σ i h)
  unfolding blocked_by
  blocked_reached = ⊎_elim inl (λ r. reached_by (blocked_by m σ i h) r.0 r.1 r.2) (greatest_reached (reaching σ i h) (range 1 m))

  pub blocked_each : (l : ℕ) → Reaches m σ i l → held_for l h ≤ blocked_by m σ i h
  unfolding blocked_by
  blocked_each l r =
      omega (arith, reaching_is σ i h l r.ceiling, greatest_each (reaching σ i h) (range 1 m) l ((range_iff 1 m l).1 (r.from, r.upto)))

pub blocking_lowest : (m : ℕ) (σ : Setting) → blocking_of m σ [] ≡ 0
unfolding blocking_of greatest
blocking_lowest m σ = refl

-- the time that the tasks `lower` block the task above them
module _ (m : ℕ) (σ : Setting) (lower : List Task) where
  -- task h, one of `lower`, and lock l, which reaches the task above them
  abbrev pub Blocks : Task → ℕ → Type 0
  Blocks h l = Memᴰ h lower × Reaches m σ (suc (length lower)) l

  -- b is 0 or the c of such a task on such a lock
  abbrev pub BlocksOr0 : ℕ → Type 0
  BlocksOr0 b = (b ≡ 0) ⊎ ((h : Task) × (l : ℕ) × Blocks h l × (b ≡ held_for l h))

  reached_of : (b : ℕ) (h : Task) → Memᴰ h lower → b ≡ blocked_by m σ (suc (length lower)) h → BlocksOr0 b
  reached_of b h k e = ⊎_elim (λ z. inl (e ∙ z)) (λ r. inr (h, r.0, (k, r.1), e ∙ r.2)) (blocked_reached m σ (suc (length lower)) h)

  blocking_reached : BlocksOr0 (blocking_of m σ lower)
  unfolding blocking_of
  blocking_reached =
      ⊎_elim inl (λ r. reached_of (blocking_of m σ lower) r.0 r.1 r.2) (greatest_reached (blocked_by m σ (suc (length lower))) lower)

  blocking_each : (h : Task) (l : ℕ) → Blocks h l → held_for l h ≤ blocking_of m σ lower
  unfolding blocking_of
  blocking_each h l (k, r) =
      le_trans (blocked_each m σ (suc (length lower)) h l r) (greatest_each (blocked_by m σ (suc (length lower))) lower h k)

  -- the greatest c of a lower task on a lock with a ceiling of at least the task's number, else 0
  pub blocking_paper : ((h : Task) (l : ℕ) → Blocks h l → held_for l h ≤ blocking_of m σ lower) × BlocksOr0 (blocking_of m σ lower)
  blocking_paper = (blocking_each, blocking_reached)

  -- no lock reaches the task above: it is not blocked
  pub blocking_above : ((l : ℕ) → 1 ≤ l → l ≤ m → σ l < suc (length lower)) → blocking_of m σ lower ≡ 0
  blocking_above low = ⊎_elim (λ z. z) (λ r. let k = r.2.1 in absurd (omega (arith, low r.1 k.from k.upto, k.ceiling))) blocking_reached

-- higher ceilings block no less
pub blocking_mono : (m : ℕ) (σ τ : Setting) (lower : List Task) → ((l : ℕ) → 1 ≤ l → l ≤ m → σ l ≤ τ l) → blocking_of m σ lower ≤ blocking_of m τ lower
unfolding blocking_of blocked_by
blocking_mono m σ τ lower up = greatest_mono _ _ lower each
  where
    at : (h : Task) (l : ℕ) → Memᴰ l (range 1 m) → reaching σ (suc (length lower)) h l ≤ reaching τ (suc (length lower)) h l
    at h l k = let r = (range_iff 1 m l).0 k in reaching_mono σ τ (suc (length lower)) h l (up l r.0 r.1)

    each : (h : Task) → Memᴰ h lower → blocked_by m σ (suc (length lower)) h ≤ blocked_by m τ (suc (length lower)) h
    each h k = greatest_mono (reaching σ (suc (length lower)) h) (reaching τ (suc (length lower)) h) (range 1 m) (at h)
