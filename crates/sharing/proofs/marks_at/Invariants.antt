-- `sharing::marks_at` meets its contract: each turn fills one place.
-- Assumes nothing.
use mathlib.Core.Path.{◌≡◌}
use mathlib.Core.Bool.{false}
use mathlib.Core.List.{[], map}
use lib.ListN.{take, get_or}
use Rattle.least.specs.Lists.{pad}
use Rattle.refusal.specs.Limits.{lock_limit}
use Rattle.sharing.specs.Code.Sharing.{code_shared}
use Rattle.sharing.proofs.marks_at.Given as goal

abbrev pub invariant-loop-j : goal.invariant-loop-j
invariant-loop-j l = l.marks ≡ pad lock_limit false (take l.j (map (code_shared l.parts) (get_or l.parts l.k [])))
