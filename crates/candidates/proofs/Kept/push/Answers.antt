-- `candidates::Kept::push` meets its contract. The invariant: the first pairs are left, and no other was lighter.
-- Assumes nothing.
use Prim.Native.Nat.{◌-◌}
use native.Mathlib.Omega.{arith}
use mathlib.Core.Path.{◌≡◌, ap}
use lib.ListN.{take}
use Rattle.candidates.specs.Code.KeptSearch.{sum_of, pairs_of, lighter}
use Rattle.candidates.proofs.Pairs.{popped_start, popped_get, popped_next, popped_light, popped_room, popped_push}
use Rattle.candidates.proofs.Kept.push.Goals as goal
use Rattle.candidates.proofs.Kept.push.Goals.{Left-loop-self, then-loop-self-test+else-sum, else-loop-self-test}

pub loop-self-init : goal.loop-self-init
loop-self-init c = popped_start c.requires

pub sum-requires-in-loop-self : goal.sum-requires-in-loop-self
sum-requires-in-loop-self c =
    let l = c.loop-self in
    omega (arith, ap sum_of (popped_get c.requires l.invariant (l.self.count - 1) (omega arith)), c.requires.most (l.self.count - 1) (omega (arith, l.invariant.few)))

pub loop-self-preserved : goal.loop-self-preserved
loop-self-preserved c =
    let l = c.loop-self in
    popped_next c.requires l.invariant (l.self.count - 1) (omega arith) (omega (arith, c.sum.ensures, c.sum-in-loop-self.ensures, c.if-sum.true))

-- all that is left is lighter
light : (c : Left-loop-self) → lighter (sum_of c.args.pair) (pairs_of c.args.self.now) ≡ take c.loop-self.self.count c.args.self.now.pairs
light c =
    let l = c.loop-self in
    popped_light c.requires l.invariant (λ n e.
    let last : n ≡ l.self.count - 1 = omega arith in
    elim c.loop-self-test.branch [
      | then-loop-self-test+else-sum w ↦ rw last (omega (arith, w.sum.ensures, w.sum-in-loop-self.ensures, w.if-sum.false))
      | else-loop-self-test w ↦ absurd (omega arith)
    ])

pub bounds-self-self-2 : goal.bounds-self-self-2
bounds-self-self-2 c = popped_room c.requires c.loop-self.invariant (light (goal.at.bounds-self-self-2 c).Left-loop-self)

pub returns : goal.returns
returns c = popped_push c.requires c.loop-self.invariant (light (goal.at.returns c).Left-loop-self)
