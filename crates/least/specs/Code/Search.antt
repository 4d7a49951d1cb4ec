-- The least of all numbers with a property.
--   IsLeast test w == w is the least of all numbers from 1 on that pass the test
-- Assumes nothing.
use Rattle.std.specs.Prelude.{ℕ, ◌≤◌, ◌≡◌, Bool, true}

pub record IsLeast (test : ℕ → Bool) (w : ℕ) : Type 0 where
  pub positive : 1 ≤ w
  pub passes : test w ≡ true
  pub first : (v : ℕ) → 1 ≤ v → test v ≡ true → w ≤ v
