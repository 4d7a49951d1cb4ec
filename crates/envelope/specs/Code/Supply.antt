-- What is fine of a linear supply.
--   FineSupply times wait rate == it gives at most a tick in every tick, and its numbers are in range
-- Assumes nothing.
use Rattle.std.specs.Prelude.{ℕ, ◌*◌, ◌≤◌}
use Rattle.refusal.specs.Limits.{number_limit}

pub record FineSupply (times wait rate : ℕ) : Type 0 where
  pub some : 1 ≤ rate
  pub slow : rate ≤ times
  pub times_most : times ≤ number_limit
  pub wait_most : wait ≤ number_limit * number_limit
