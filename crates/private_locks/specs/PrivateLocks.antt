-- Request M-100: private locks, sentence by sentence.
--   PrivateLock v l     == l is the number of a private lock
--   lock_name p l       == the name of lock l of the part p, counted from 1
--   SharedAlike v σ τ   == two settings give the shared locks the same ceilings
--   keeps_private v τ   == the setting that has the ceilings of τ for the shared locks, and every private lock at its lowest ceiling
--   with_shared v marks == the partition v, where these of its locks are shared
--   FewerShared v marks == no lock is shared then that was not before
--   Relieved p q        == the part q has the numbers of the part p, and no lock is shared that was not
--   no_ceiling          == what stands for a `ceiling` line that there is not
--   PrivateLocks        == what a private lock is, and what it does
-- Assumes nothing.
use Rattle.std.specs.Prelude.{ℕ, suc, ◌≤◌, ◌≡◌, ◌↔◌, Bool, true, false, cond, length}
use mathlib.Core.List.{List, [], Memᴰ}
use Rattle.least.specs.Lists.{nth_or}
use Rattle.least.specs.Each.{Each}
use Rattle.least.specs.Fraction.{◌⊑◌}
use Rattle.refusal.specs.Questions.Answer.{answered}
use Rattle.task_set.specs.declared.Task.{Task}
use Rattle.task_set.specs.Tasks.{held_for, lowest_ceiling}
use Rattle.task_set.specs.Partition.{Partition, is_shared}
use Rattle.task_set.specs.Blocking.{Setting, blocking_of}
use Rattle.load.specs.declared.Row.{Row}
use Rattle.load.specs.Load.{load_of}
use Rattle.holding.specs.Holding.{permitted, holding_time_of}
use Rattle.candidates.specs.Statement.{Permitted}
use Rattle.plan_file.specs.Numbers.{PlanPart, parts_of, part_at}
use Rattle.plan_file.specs.Statement.{NamedByAnother}
use Rattle.listing.specs.Listing.{Ceiling, Share}
use Rattle.answers.specs.Choice.{Budgeted, PassingChoice}
use Rattle.planner.specs.LocalTest.{PermittedAt, SharedLock}
use Rattle.planner.specs.Demand3.{PrintedShare}

pub record PrivateLock (v : Partition) (l : ℕ) : Type 0 where
  pub from : 1 ≤ l
  pub to : l ≤ v.locks
  pub private : is_shared v l ≡ false

abbrev pub lock_name : PlanPart → ℕ → List ℕ
lock_name p l = nth_or [] l p.locks

abbrev pub SharedAlike : Partition → Setting → Setting → Type 0
SharedAlike v σ τ = (l : ℕ) → SharedLock v l → σ l ≡ τ l

unfoldable pub keeps_private : Partition → Setting → Setting
keeps_private v τ l = cond (is_shared v l) (τ l) (lowest_ceiling l v.tasks)

abbrev pub with_shared : Partition → List Bool → Partition
with_shared v marks = record { period = v.period; tasks = v.tasks; locks = v.locks; shared = marks }

abbrev pub FewerShared : Partition → List Bool → Type 0
FewerShared v marks = (l : ℕ) → SharedLock (with_shared v marks) l → SharedLock v l

abbrev pub Relieved : PlanPart → PlanPart → Type 0
Relieved p q = (marks : List Bool) × FewerShared p.numbers marks × (q.numbers ≡ with_shared p.numbers marks)

abbrev pub no_ceiling : Ceiling
no_ceiling = record { lock = []; number = 0 }

pub record PrivateLocks : Type 0 where
  -- a private lock does not add to the holding time: what passed with it as a shared lock passes with the same budget, and X is no greater
  pub relieves : (v : Partition) (marks : List Bool) → FewerShared v marks → (σ : Setting) (Q : ℕ) → Budgeted v σ Q
      → Budgeted (with_shared v marks) (keeps_private (with_shared v marks) σ) Q × (holding_time_of (with_shared v marks) (keeps_private (with_shared v marks) σ) ≤ holding_time_of v σ)
  -- and squeezes nobody: for each choice that passed with it there is one that passes, with a load no greater
  pub lighter : (ps qs : List PlanPart) → Each Relieved ps qs → (rs : List Row) → PassingChoice ps rs → (ss : List Row) × PassingChoice qs ss × (load_of ss ⊑ load_of rs)
  -- a lock named in just one part of the file is private: any other is shared
  pub one_part : (s : List ℕ) (ps : List PlanPart) (k l : ℕ) → parts_of s ≡ answered ps → 1 ≤ k → k ≤ length ps → 1 ≤ l → l ≤ (part_at ps k).numbers.locks
      → (is_shared (part_at ps k).numbers l ≡ false) ↔ (NamedByAnother ps k (lock_name (part_at ps k) l) → ⊥)
  -- it keeps its lowest ceiling, in every choice
  pub lowest : (v : Partition) (σ : Setting) → Permitted v σ → (l : ℕ) → PrivateLock v l → σ l ≡ lowest_ceiling l v.tasks
  -- it has no holding time, asks no permission and does not enter X: what is permitted and X depend on the ceilings of the shared locks alone
  pub no_permission : (v : Partition) (σ τ : Setting) → SharedAlike v σ τ → permitted v σ ≡ permitted v τ
  pub no_holding : (v : Partition) (σ τ : Setting) → SharedAlike v σ τ → holding_time_of v σ ≡ holding_time_of v τ
  pub none_shared : (v : Partition) (σ : Setting) → ((l : ℕ) → SharedLock v l → ⊥) → (permitted v σ ≡ true) × (holding_time_of v σ ≡ 0)
  -- but it still blocks tasks inside its part: task i above the tasks `lower`, by the c of each of them, up to the lowest ceiling
  pub blocks : (v : Partition) (σ : Setting) → Permitted v σ → (l : ℕ) → PrivateLock v l → (lower : List Task) (h : Task) → Memᴰ h lower
      → suc (length lower) ≤ lowest_ceiling l v.tasks → held_for l h ≤ blocking_of v.locks σ lower
  -- it is listed with that lowest ceiling, in its place in order of first mention
  pub listed : (p : PlanPart) (s : Share) → PrintedShare p s → (l : ℕ) → PrivateLock p.numbers l → l ≤ length p.locks
      → nth_or no_ceiling l s.ceilings ≡ record { lock = lock_name p l; number = lowest_ceiling l p.numbers.tasks }
  -- least load is over the ceilings of shared locks only: each permitted choice of these is that of one permitted setting, and of no other
  pub shared_only : (v : Partition) (τ : Setting) → ((l : ℕ) → SharedLock v l → PermittedAt v l (τ l)) → Permitted v (keeps_private v τ) × SharedAlike v (keeps_private v τ) τ
  pub no_other : (v : Partition) (σ τ : Setting) → Permitted v σ → Permitted v τ → SharedAlike v σ τ → (l : ℕ) → 1 ≤ l → l ≤ v.locks → σ l ≡ τ l
