-- The time by which a supply reaches so many ticks.
--   ReachIs P Q x r == r is the least t in which (P,Q) supplies x ticks
-- Assumes nothing.
use Rattle.std.specs.Prelude.{ℕ, ◌≤◌, ◌↔◌}
use Rattle.supply.specs.Supply.{supply_of}

pub record ReachIs (P Q x r : ℕ) : Type 0 where
  pub least : (t : ℕ) → (x ≤ supply_of P Q t) ↔ (r ≤ t)
