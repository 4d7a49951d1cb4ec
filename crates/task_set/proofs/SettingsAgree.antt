-- Two settings that agree on the locks 1 to m block alike.
-- Assumes nothing.
use Prim.Native.Nat.{ℕ, suc, ◌≤◌}
use mathlib.Core.Path.{◌≡◌, ap, fun_ext}
use mathlib.Core.Bool.{cond}
use mathlib.Core.List.{List, map, Memᴰ}
use lib.Dec.{leb}
use lib.ListN.{length}
use Rattle.least.specs.Lists.{greatest, range}
use Rattle.least.proofs.Lists.{range_iff, map_same}
use Rattle.task_set.specs.declared.Task.{Task}
use Rattle.task_set.specs.Tasks.{held_for}
use Rattle.task_set.specs.Blocking.{Setting, blocked_by, blocking_of}

abbrev pub Agree : ℕ → Setting → Setting → Type 0
Agree m σ τ = (l : ℕ) → 1 ≤ l → l ≤ m → σ l ≡ τ l

module _ (m : ℕ) (σ τ : Setting) (same : Agree m σ τ) where
  pub agree_in : (l : ℕ) → Memᴰ l (range 1 m) → σ l ≡ τ l
  agree_in l k = let h = (range_iff 1 m l).0 k in same l h.0 h.1

  pub blocked_by_agree : (i : ℕ) (h : Task) → blocked_by m σ i h ≡ blocked_by m τ i h
  unfolding blocked_by
  blocked_by_agree i h = ap greatest (map_same _ _ (range 1 m) (λ l k. ap (λ c. cond (leb i c) (held_for l h) 0) (agree_in l k)))

  pub blocking_of_agree : (lower : List Task) → blocking_of m σ lower ≡ blocking_of m τ lower
  unfolding blocking_of
  blocking_of_agree lower = ap (λ blocked. greatest (map blocked lower)) (fun_ext (blocked_by_agree (suc (length lower))))
