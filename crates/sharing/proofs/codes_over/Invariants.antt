-- `sharing::codes_over` meets its contract: each turn fills one place.
-- Assumes nothing.
use mathlib.Core.Path.{◌≡◌}
use mathlib.Core.List.{◌++◌, map}
use lib.ListN.{take, drop}
use Rattle.stretch.specs.Stretch.{bytes_of}
use Rattle.sharing.specs.Code.Sharing.{code_or0}
use Rattle.sharing.proofs.codes_over.Given as goal

abbrev pub invariant-loop-j : goal.invariant-loop-j
invariant-loop-j l = l.codes ≡ take l.j (map (λ p. code_or0 (bytes_of l.s p)) l.name-items) ++ drop l.j l.fn.before
