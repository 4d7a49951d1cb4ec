-- `task_set::locks_of` meets its contract: each turn of the inner loop counts a task in one lock, each of the outer in all of them.
-- Assumes nothing.
use Rattle.task_set.proofs.Walk.{Walked}
use Rattle.task_set.proofs.locks_of.Given as goal

abbrev pub invariant-loop-j : goal.invariant-loop-j
invariant-loop-j l = Walked l.part l.k l.j l.lock-items

abbrev pub invariant-loop-k : goal.invariant-loop-k
invariant-loop-k l = Walked l.part l.k 0 l.locks
