-- Demand 2 is met.
-- Assumes nothing.
use Rattle.planner.specs.Demand2.{Demand2}
use Rattle.planner.proofs.Refusals.{every_refusal}
use Rattle.planner.proofs.Numbers.{every_number}
use Rattle.planner.proofs.LocalTest.{local_test}
use Rattle.planner.proofs.SystemTest.{system_test}

pub demand_2 : Demand2
demand_2 = record { refusals = every_refusal; numbers = every_number; local = local_test; system = system_test }
