-- `sharing::marks_by_number` meets its contract: each turn fills one place.
-- Assumes nothing.
use mathlib.Core.Path.{◌≡◌}
use mathlib.Core.Bool.{false}
use mathlib.Core.List.{[]}
use lib.ListN.{take, get_or}
use Rattle.least.specs.Lists.{pad}
use Rattle.refusal.specs.Limits.{lock_limit}
use Rattle.sharing.specs.Code.Sharing.{marks_of}
use Rattle.sharing.proofs.marks_by_number.Given as goal

abbrev pub invariant-loop-j : goal.invariant-loop-j
invariant-loop-j l = l.marks ≡ pad lock_limit false (take l.j (marks_of (take l.n l.parts) (get_or l.parts l.k [])))
