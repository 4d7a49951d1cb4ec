-- Two settings that agree on the locks 1 to m are in range, are permitted and have the same X alike.
-- Assumes nothing.
use Prim.Native.Nat.{ℕ}
use mathlib.Core.Path.{◌≡◌, ap}
use mathlib.Core.List.{Memᴰ}
use Rattle.least.specs.Search.{number_or0}
use Rattle.least.specs.Lists.{greatest}
use Rattle.least.proofs.Lists.{every_same, map_same}
use Rattle.task_set.specs.Partition.{Partition, shared_locks}
use Rattle.task_set.specs.Blocking.{Setting}
use Rattle.task_set.proofs.SettingsAgree.{Agree}
use Rattle.holding.specs.Holding.{holding_of, exists, permitted, holding_time_of}
use Rattle.holding.proofs.Holding.{shared_iff}

module _ (v : Partition) (σ τ : Setting) (same : Agree v.locks σ τ) where
  agree_shared : (l : ℕ) → Memᴰ l (shared_locks v) → σ l ≡ τ l
  agree_shared l k = let m = (shared_iff v l).0 k in same l m.0 m.1

  pub permitted_agree : permitted v σ ≡ permitted v τ
  unfolding permitted
  permitted_agree = every_same _ _ (shared_locks v) (λ l k. ap (λ c. exists (holding_of v.tasks l c)) (agree_shared l k))

  pub holding_time_agree : holding_time_of v σ ≡ holding_time_of v τ
  unfolding holding_time_of
  holding_time_agree = ap greatest (map_same _ _ (shared_locks v) (λ l k. ap (λ c. number_or0 (holding_of v.tasks l c)) (agree_shared l k)))
