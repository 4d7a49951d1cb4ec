-- `utilisation::share_of` meets its contract. The invariant: what is summed and the share of the tasks from the index on make up the whole.
-- Assumes nothing.
use Prim.Native.Nat.{◌<◌}
use native.Mathlib.Numerals.{add-one}
use native.Mathlib.Omega.{arith}
use lib.ListN.{get_or}
use Rattle.task_set.specs.Code.Fine.{blank_task}
use Rattle.utilisation.proofs.Shares.{share_most, share_next, share_end}
use Rattle.utilisation.proofs.share_of.Goals as goal

pub loop-k-preserved : goal.loop-k-preserved
loop-k-preserved c =
    let part = c.args.part.now in
    let at = c.loop-k in
    let k = at.k in
    let h : k < part.count = omega arith in
    let task = get_or part.tasks k blank_task in
    let fine = c.requires.each k h in
    let next = rw (← add-one k) at (share_next part c.requires k h) in
    let most = share_most task.cost task.separation (omega (arith, fine.cost_most, fine.deadline_most)) in
    (omega (arith, at.invariant.0, next), omega (arith, at.invariant.1, most), omega (arith, c.requires.few))

pub returns : goal.returns
returns c =
    let part = c.args.part.now in
    let at = c.loop-k in
    record { value = omega (arith, at.invariant.0, share_end part c.requires at.k (omega arith)); most = omega (arith, at.invariant.1, at.invariant.2) }
