-- `fields::read_number` meets its contract. The invariant: the digits so far spell v, and what is left decides.
-- Assumes nothing.
use Prim.Native.Nat.{◌≤◌}
use mathlib.Core.Path.{◌≡◌}
use lib.ListN.{drop}
use Rattle.refusal.specs.Limits.{number_limit}
use Rattle.fields.specs.Code.Fields.{number_in}
use Rattle.fields.proofs.Reading.{number_from}
use Rattle.fields.proofs.read_number.Given as goal

abbrev pub invariant-loop-b : goal.invariant-loop-b
invariant-loop-b l = (l.v ≤ number_limit) × (number_in l.f ≡ number_from l.v (drop l.b-index l.f))
