-- `stretch::stretch_of` meets its contract: its answer is a part of the slice, from the start of the stretch or from the end of the slice on.
-- Assumes nothing.
use native.Mathlib.Omega.{arith}
use mathlib.Core.Path.{refl}
use Rattle.stretch.proofs.Stretch.{bytes_between}
use Rattle.stretch.proofs.stretch_of.Goals as goal

pub returns : goal.returns
returns c = record { block = refl; offset = omega arith; bytes = bytes_between _ _ _ _ (omega (arith, c.min-start.ensures)) (omega (arith, c.min.ensures, c.min-start.ensures)) }
