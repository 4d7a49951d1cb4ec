-- `shown::show_ceilings` meets its contract: each turn fills one place, and what the hint says is so.
-- Assumes nothing.
use Prim.Native.Nat.{suc, ◌*◌}
use Rattle.least.specs.Code.Stored.{Stored}
use Rattle.refusal.specs.Limits.{lock_limit}
use Rattle.task_set.specs.Code.Partition.{partition_of}
use Rattle.task_set.specs.Code.ByColumn.{times_of}
use Rattle.holding.specs.Code.Search.{HintIs}
use Rattle.candidates.specs.Candidates.{shown_ceiling}
use Rattle.shown.proofs.show_ceilings.Given as goal

abbrev pub invariant-loop-j : goal.invariant-loop-j
invariant-loop-j l =
    Stored (λ i. shown_ceiling (partition_of l.part) l.x (suc i)) (lock_limit * l.k) l.j l.initial.ceilings l.ceilings × HintIs (times_of l.columns.times) l.hint
