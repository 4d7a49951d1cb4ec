-- `fields::same_bytes` meets its contract.
-- Assumes nothing.
use native.Mathlib.Omega.{arith}
use Rattle.fields.proofs.Bytewise.{same_pointwise, same_parts, take_whole}
use Rattle.fields.proofs.same_bytes.Goals as goal

pub returns : goal.returns
returns c = grind (arith, same_pointwise, take_whole, same_parts c.args.a.now c.args.b.now)
