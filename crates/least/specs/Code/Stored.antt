-- Numbers stored in an array one behind another.
--   Stored value first n before after == `after` is `before` with the n values from the place `first` on, and every other place as it was
-- Assumes nothing.
use Rattle.std.specs.Prelude.{ℕ, ◌+◌, ◌≤◌, ◌<◌, ◌≡◌, ◌⊎◌, List, length, get_or}

pub record Stored (value : ℕ → ℕ) (first n : ℕ) (before after : List ℕ) : Type 0 where
  pub each : (i : ℕ) → i < n → get_or after (first + i) 0 ≡ value i
  pub others : (j : ℕ) → (j < first) ⊎ (first + n ≤ j) → get_or after j 0 ≡ get_or before j 0
  pub room : length after ≡ length before
