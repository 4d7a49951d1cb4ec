-- `task_set::longest_blocked` meets its contract. The invariant: the greatest so far and that of the locks that are left make up the whole.
-- Assumes nothing.
use Prim.Native.Nat.{ℕ, ◌-◌}
use native.Mathlib.Numerals.{add-one}
use native.Mathlib.Omega.{arith}
use mathlib.Core.Path.{◌≡◌, refl}
use mathlib.Core.List.{List}
use Rattle.least.proofs.Greatest.{greatest_from, greatest_past}
use Rattle.task_set.specs.Code.ByLock.{blocking_by}
use Rattle.task_set.proofs.longest_blocked.Goals as goal
use Rattle.task_set.proofs.longest_blocked.Invariants.{by, left}

left_all : (below ceilings : List ℕ) (m i : ℕ) → left below ceilings m i 0 ≡ blocking_by below ceilings m i
unfolding blocking_by
left_all below ceilings m i = let e : m - 0 ≡ m = omega arith in rw e refl

pub loop-j-init : goal.loop-j-init
loop-j-init c = let a = c.args in omega (arith, left_all a.below.now a.ceilings.now a.m a.i)

pub loop-j-preserved : goal.loop-j-preserved
loop-j-preserved c =
    let a = c.args in
    let l = c.loop-j in
    rw (add-one) (omega (arith, c.max-greatest.ensures, c.blocked_for.ensures, greatest_from (by a.below.now a.ceilings.now a.i) l.j a.m (omega arith), l.invariant))

pub returns : goal.returns
returns c =
    let a = c.args in
    let l = c.loop-j in
    omega (arith, l.invariant, greatest_past (by a.below.now a.ceilings.now a.i) l.j a.m (omega arith))
