-- The linear value of (P,Q) at t, a straight line under the supply (in the field: linear supply bound function): Q/P × (t − 2(P−Q)). Document 000, paper C, equation (3).
-- 1 ≤ Q ≤ P is understood.
--   linear_times_p P Q t == P times the linear value, in signed whole numbers
--   LinearUnderSupply    == the linear value is never above the supply, and meets it at t = 2(P−Q) + kP, for every k (request M-108)
-- Assumes nothing.
use Rattle.std.specs.Prelude.{ℕ, ◌+◌, ◌-◌, ◌*◌, ◌≤◌, ◌≡◌, ℤ, pos, ◌-ℤ◌, ◌*ℤ◌, ◌≤ℤ◌}
use Rattle.supply.specs.Supply.{supply_of}

unfoldable pub linear_times_p : ℤ → ℤ → ℤ → ℤ
linear_times_p P Q t = Q *ℤ (t -ℤ pos 2 *ℤ (P -ℤ Q))

pub record LinearUnderSupply : Type 0 where
  -- P times both, for every t; where the linear value is not positive, this says nothing
  pub never_above : (P Q t : ℕ) → 1 ≤ Q → Q ≤ P → linear_times_p (pos P) (pos Q) (pos t) ≤ℤ pos (P * supply_of P Q t)
  -- behind two waits of P − Q ticks and k whole periods the two are the same
  pub meets : (P Q k : ℕ) → 1 ≤ Q → Q ≤ P → linear_times_p (pos P) (pos Q) (pos (2 * (P - Q) + k * P)) ≡ pos (P * supply_of P Q (2 * (P - Q) + k * P))
