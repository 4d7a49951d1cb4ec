-- Demand 2 as a statement: every supply, holding time, budget, blocking, candidate list, load and name equals the equations as paper 01 fixes them in
-- whole ticks, and each refusal comes if its question has the answer no and those before it have yes, and in no other case. The printed lines are in
-- demand 3.
-- Assumes nothing.
use Rattle.planner.specs.Refusals.{EveryRefusal}
use Rattle.planner.specs.Numbers.{EveryNumber}
use Rattle.planner.specs.LocalTest.{LocalTest}
use Rattle.planner.specs.SystemTest.{SystemTest}

pub record Demand2 : Type 0 where
  -- of each operation, in which case each refusal comes
  pub refusals : EveryRefusal
  -- of each operation, what every number in its answer is
  pub numbers : EveryNumber
  -- the holding times, blockings and budgets that these are made of
  pub local : LocalTest
  -- the system test, bounds and load of a choice
  pub system : SystemTest
