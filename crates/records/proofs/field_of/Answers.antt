-- `records::field_of` meets its contract.
-- Assumes nothing.
use Prim.Native.Nat.{◌-◌}
use native.Mathlib.Omega.{arith}
use Rattle.records.specs.Code.Shapes.{field}
use Rattle.records.proofs.field_of.Goals as goal

pub overflow_add-l : goal.overflow_add-l
overflow_add-l c = omega (arith, c.requires.2 (c.args.k - 1))

pub returns : goal.returns
unfolding field
returns c = cc
