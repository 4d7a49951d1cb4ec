-- The local test in the paper's words: of a lock among the tasks `ts`, and of a partition v under the setting σ.
--   LockHolding ts l r w   == w is the holding time of lock l at r: the least whole number w ≥ 1 with g + Σ ⌈w/T_k⌉×C_k ≤ w, summed over tasks k > r
--   PermittedAt v l r      == a shared lock l may have the ceiling r: it is from the lock's lowest to n, and w exists and is at most the smallest deadline among the users
--   CeilingFits v l r      == r is a ceiling of lock l: a shared lock may have it, a private lock keeps its lowest ceiling and asks no permission
--   SharedLock v l         == l is the number of a shared lock
--   PartHolding v σ X      == X is the greatest w of the shared locks, or 0 without shared locks
--   BlockingIs m σ lower b == b is the blocking of task i, where the i − 1 tasks before it are `lower`: the greatest c of one of them on a lock with ceiling ≥ i, else 0
--   PassesBy got v σ       == for each i some t, 1 ≤ t ≤ D_i, has C_i + Σ_{k>i} ⌈t/T_k⌉×C_k + blocking ≤ got(t)
--   Passes v σ Q           == the same with supply(t)
--   LeastPassing v σ Q     == Q is the least budget, 1 ≤ Q ≤ P, that passes
--   ShownAt v x l r        == r is the ceiling shown of a shared lock l for x: the lowest whose w is at most x and permitted
--   LocalTest              == these are the permitted settings, holding times, blockings, budgets, candidates and ceilings that the answers are made of
-- Assumes nothing.
use Rattle.std.specs.Prelude.{ℕ, suc, ◌+◌, ◌≤◌, ◌≡◌, true, false, ◌⊎◌, ◌↔◌, length}
use mathlib.Core.List.{List, ◌∷◌, ◌++◌, Memᴰ}
use Rattle.supply.specs.Supply.{supply_of}
use Rattle.task_set.specs.declared.Task.{Task}
use Rattle.task_set.specs.Tasks.{held_for, higher, demand_in, lowest_ceiling, greatest_held, smallest_deadline}
use Rattle.task_set.specs.Blocking.{Setting, blocking_of}
use Rattle.task_set.specs.Partition.{Partition, is_shared}
use Rattle.holding.specs.Holding.{holding_time_of}
use Rattle.budget.specs.Budget.{passes}
use Rattle.candidates.specs.declared.Pair.{Pair}
use Rattle.candidates.specs.Candidates.{shown_ceiling}
use Rattle.candidates.specs.Statement.{Permitted, Candidate}

pub record LockHolding (ts : List Task) (l r w : ℕ) : Type 0 where
  pub some : 1 ≤ w
  pub held : greatest_held l ts + demand_in (higher r ts) w ≤ w
  pub least : (v : ℕ) → 1 ≤ v → greatest_held l ts + demand_in (higher r ts) v ≤ v → w ≤ v

pub record PermittedAt (v : Partition) (l r : ℕ) : Type 0 where
  pub lowest : lowest_ceiling l v.tasks ≤ r
  pub most : r ≤ length v.tasks
  pub time : ℕ
  pub holds : LockHolding v.tasks l r time
  pub in_time : time ≤ smallest_deadline l v.tasks

pub record CeilingFits (v : Partition) (l r : ℕ) : Type 0 where
  pub if_shared : is_shared v l ≡ true → PermittedAt v l r
  pub if_private : is_shared v l ≡ false → r ≡ lowest_ceiling l v.tasks

pub record SharedLock (v : Partition) (l : ℕ) : Type 0 where
  pub from : 1 ≤ l
  pub to : l ≤ v.locks
  pub shared : is_shared v l ≡ true

pub record PartHolding (v : Partition) (σ : Setting) (X : ℕ) : Type 0 where
  pub each : (l w : ℕ) → SharedLock v l → LockHolding v.tasks l (σ l) w → w ≤ X
  pub one : (((l : ℕ) → SharedLock v l → ⊥) × (X ≡ 0)) ⊎ ((l : ℕ) × SharedLock v l × LockHolding v.tasks l (σ l) X)

-- task h, one of `lower`, and a lock l with ceiling ≥ i
pub record Blocks (m : ℕ) (σ : Setting) (lower : List Task) (h : Task) (l : ℕ) : Type 0 where
  pub below : Memᴰ h lower
  pub from : 1 ≤ l
  pub to : l ≤ m
  pub ceiling : suc (length lower) ≤ σ l

pub record BlockingIs (m : ℕ) (σ : Setting) (lower : List Task) (b : ℕ) : Type 0 where
  pub each : (h : Task) (l : ℕ) → Blocks m σ lower h l → held_for l h ≤ b
  pub one : (b ≡ 0) ⊎ ((h : Task) × (l : ℕ) × Blocks m σ lower h l × (b ≡ held_for l h))

abbrev pub PassesBy : (ℕ → ℕ) → Partition → Setting → Type 0
PassesBy got v σ =
    (lower : List Task) (task : Task) (higher : List Task) → lower ++ (task ∷ higher) ≡ v.tasks
    → (t : ℕ) × (1 ≤ t) × (t ≤ task.deadline) × (task.cost + demand_in higher t + blocking_of v.locks σ lower ≤ got t)

abbrev pub Passes : Partition → Setting → ℕ → Type 0
Passes v σ Q = PassesBy (supply_of v.period Q) v σ

pub record LeastPassing (v : Partition) (σ : Setting) (Q : ℕ) : Type 0 where
  pub some : 1 ≤ Q
  pub most : Q ≤ v.period
  pub passing : Passes v σ Q
  pub least : (R : ℕ) → 1 ≤ R → Passes v σ R → Q ≤ R

pub record ShownAt (v : Partition) (x l r : ℕ) : Type 0 where
  pub permitted : PermittedAt v l r
  pub most : permitted.time ≤ x
  pub lowest : (q : ℕ) (p : PermittedAt v l q) → p.time ≤ x → r ≤ q

pub record LocalTest : Type 0 where
  -- a setting is permitted if each shared lock's w exists and is at most the smallest deadline among its users; a private lock keeps its lowest ceiling
  pub permitted : (v : Partition) (σ : Setting) → Permitted v σ ↔ ((l : ℕ) → 1 ≤ l → l ≤ v.locks → CeilingFits v l (σ l))
  -- X, the part's holding time
  pub holding : (v : Partition) (σ : Setting) → Permitted v σ → PartHolding v σ (holding_time_of v σ)
  -- the blocking of a task, by private locks too
  pub blocking : (m : ℕ) (σ : Setting) (lower : List Task) → BlockingIs m σ lower (blocking_of m σ lower)
  -- a budget passes
  pub budget : (v : Partition) (σ : Setting) (Q : ℕ) → (passes v σ Q ≡ true) ↔ Passes v σ Q
  -- a candidate is a permitted setting's X with its least passing Q
  pub candidate : (v : Partition) (c : Pair) → Candidate v c ↔ ((σ : Setting) × Permitted v σ × (holding_time_of v σ ≡ c.holding) × LeastPassing v σ c.budget)
  -- the ceilings shown are, lock by lock, the lowest whose w is at most X and permitted, where there is one
  pub shown : (v : Partition) (x l r : ℕ) → is_shared v l ≡ true → (p : PermittedAt v l r) → p.time ≤ x → ShownAt v x l (shown_ceiling v x l)
  -- a private lock is listed with its lowest ceiling
  pub listed : (v : Partition) (x l : ℕ) → is_shared v l ≡ false → shown_ceiling v x l ≡ lowest_ceiling l v.tasks
