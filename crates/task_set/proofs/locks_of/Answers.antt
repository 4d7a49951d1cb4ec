-- `task_set::locks_of` meets its contract: each turn of the inner loop counts a task in one lock, each of the outer in all of them.
-- Assumes nothing.
use native.Mathlib.Omega.{arith}
use Rattle.task_set.proofs.Walk.{walked_start, walked_step, walked_end}
use Rattle.task_set.proofs.locks_of.Goals as goal

pub loop-k-init : goal.loop-k-init
loop-k-init c = walked_start c.args.part.now c.requires

pub loop-j-preserved : goal.loop-j-preserved
loop-j-preserved c =
    let k = c.loop-k.k in
    let l = c.loop-j in
    walked_step c.args.part.now c.requires k l.j l.lock-items l.invariant (omega arith) (omega arith) c.count_user.new.self c.count_user.ensures

pub returns : goal.returns
returns c =
    let l = c.loop-k in
    walked_end c.args.part.now c.requires l.k l.locks (omega arith) l.invariant
