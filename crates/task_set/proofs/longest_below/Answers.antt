-- `task_set::longest_below` meets its contract: each turn of the inner loop fills one place of the table, each of the outer a row.
-- Assumes nothing.
use Prim.Native.Nat.{◌+◌, ◌-◌, ◌*◌}
use native.Mathlib.Omega.{arith}
use mathlib.Core.Path.{◌≡◌}
use Rattle.least.proofs.Fill.{fill_step}
use Rattle.task_set.proofs.Below.{longest_at, below_start, below_next}
use Rattle.task_set.proofs.longest_below.Goals as goal

pub loop-i-init : goal.loop-i-init
loop-i-init c = below_start c.args.part.now

pub loop-j-preserved : goal.loop-j-preserved
loop-j-preserved c =
    let part = c.args.part.now in
    let i = c.loop-i.i in
    let l = c.loop-j in
    let e : 8 * i + l.j + 1 ≡ 8 * i + (l.j + 1) = omega arith in
    let left = l.invariant.each (8 * i + l.j - 8) (omega arith) in
    rw e at (fill_step 0 (longest_at part) 128 l.table (8 * i + l.j) c.max.result l.invariant (omega arith) (omega (arith, c.max.ensures, left, below_next part i l.j (omega arith) (omega arith))))
