-- The users of a lock: none has a number above the lock's lowest ceiling. So a lock that reaches a task above all its users blocks it for its greatest c.
-- Assumes nothing.
use Prim.Native.Nat.{ℕ, ◌≤◌, ◌<◌}
use native.Mathlib.Omega.{arith}
use native.Mathlib.Decide.{dec_le}
use mathlib.Core.Path.{◌≡◌, ◌∙◌}
use mathlib.Core.Logic.{⊎_elim}
use mathlib.Core.List.{List, Memᴰ}
use lib.ListN.{length, take, length-take, length-reverse}
use borrow.Author.Tests.{le-leb}
use Rattle.least.proofs.Greatest.{Reached, greatest_each, greatest_reached}
use Rattle.least.proofs.Numbers.{numbers_front}
use Rattle.least.proofs.Members.{take_member, reverse_iff}
use Rattle.task_set.specs.declared.Task.{Task}
use Rattle.task_set.specs.Tasks.{held_for, uses, lowest_ceiling, greatest_held}
use Rattle.task_set.specs.Blocking.{Setting, blocking_of}
use Rattle.task_set.specs.Code.ByLock.{lower_than}
use Rattle.task_set.proofs.Blocking.{blocking_paper}

-- no task holds a lock for longer than its greatest c
pub held_greatest : (l : ℕ) (ts : List Task) (h : Task) → Memᴰ h ts → held_for l h ≤ greatest_held l ts
unfolding greatest_held
held_greatest l ts h k = greatest_each (held_for l) ts h k

module _ (ts : List Task) (i : ℕ) where
  pub lower_among : (h : Task) → Memᴰ h (lower_than i ts) → Memᴰ h ts
  lower_among h k = take_member i ts ((reverse_iff h (take i ts)).0 k)

  pub lower_count : i ≤ length ts → length (lower_than i ts) ≡ i
  lower_count u = length-reverse (take i ts) ∙ omega (arith, length-take i ts)

  -- a lock whose lowest ceiling is at most i
  module _ (l : ℕ) (low : lowest_ceiling l ts ≤ i) where
    users_lower : (h : Task) → Memᴰ h ts → 1 ≤ held_for l h → Memᴰ h (lower_than i ts)
    unfolding lowest_ceiling
    users_lower h k u = (reverse_iff h (take i ts)).1 (numbers_front (uses l) i ts k (le-leb 1 (held_for l h) u) low)

    pub blocking_longest : (m : ℕ) (σ : Setting) → 1 ≤ l → l ≤ m → i < σ l → i ≤ length ts → greatest_held l ts ≤ blocking_of m σ (lower_than i ts)
    unfolding greatest_held
    blocking_longest m σ a b up u = ⊎_elim (λ z. omega (arith, z)) longest (greatest_reached (held_for l) ts)
      where
        longest : Reached (held_for l) ts (greatest_held l ts) → greatest_held l ts ≤ blocking_of m σ (lower_than i ts)
        longest (h, k, e) = go (dec_le 1 (held_for l h))
          where
            go : Dec (1 ≤ held_for l h) → greatest_held l ts ≤ blocking_of m σ (lower_than i ts)
            go (no z) = omega (arith, e)
            go (yes s) =
                omega (arith, e, (blocking_paper m σ (lower_than i ts)).0 h l (users_lower h k s, record { from = a; upto = b; ceiling = omega (arith, lower_count u) }))
