-- `task_set::longest_below` meets its contract: each turn of the inner loop fills one place of the table, each of the outer a row.
-- Assumes nothing.
use Prim.Native.Nat.{◌+◌, ◌*◌}
use Rattle.least.proofs.Fill.{Filled}
use Rattle.task_set.proofs.Below.{longest_at}
use Rattle.task_set.proofs.longest_below.Given as goal

abbrev pub invariant-loop-j : goal.invariant-loop-j
invariant-loop-j l = Filled 0 (longest_at l.part) 128 l.table (8 * l.i + l.j)

abbrev pub invariant-loop-i : goal.invariant-loop-i
invariant-loop-i l = Filled 0 (longest_at l.part) 128 l.table (8 * l.i)
