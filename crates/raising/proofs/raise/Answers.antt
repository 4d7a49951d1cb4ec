-- `raising::raise` meets its contract. The invariant: the locks up to the place j have their next ceiling, the others still the old one, and
-- what the hint says is so.
-- Assumes nothing.
use Prim.Native.Nat.{ℕ, ◌+◌, max}
use native.Mathlib.Omega.{arith}
use borrow.Author.Rules.{rules}
use mathlib.Core.Path.{◌≡◌, sym, ap₂, ◌∙◌, subst}
use lib.ListN.{get_or}
use Rattle.task_set.specs.Code.ByColumn.{times_of}
use Rattle.task_set.specs.Code.ByLock.{lock_at}
use Rattle.holding.specs.Code.Search.{HintIs}
use Rattle.raising.specs.declared.Raised.{Raised}
use Rattle.raising.specs.Code.Raising.{next_ceiling, ceiling_at}
use Rattle.raising.proofs.Raising.{RaisedTo, next_keeps, raised_start, raised_step, raised_stay, raised_next, raised_end}
use Rattle.raising.proofs.raise.Goals as goal
use Rattle.raising.proofs.raise.Goals.{then-x-raised+in-Some, else-x-raised}

pub loop-j-init : goal.loop-j-init
loop-j-init c = (raised_start _ c.args.m c.args.ceilings.now c.args.times.now (search rules) (search rules), c.no_hint-hint.ensures _)

pub loop-j-preserved : goal.loop-j-preserved
loop-j-preserved c =
    let a = c.args in
    let ts = times_of a.tasks.now in
    let lock = lock_at a.locks.now c.loop-j.j in
    let l = c.loop-j in
    let s = l.invariant.0 in
    let next : ℕ → _ = ceiling_at ts a.locks.now a.ceilings.now a.times.now a.x in
    let now : next_ceiling ts lock (get_or l.raised.ceilings l.j 0) (get_or l.raised.times l.j 0) a.x ≡ next l.j =
    ap₂ (λ (r w : ℕ). next_ceiling ts lock r w a.x) (s.ceilings_left l.j (omega arith)) (s.times_left_is l.j (omega arith)) in
    let To : Raised → Type 0 = λ r. RaisedTo next a.m a.ceilings.now a.times.now r (l.j + 1) l.j in
    let raised : To c.if-x-raised.raised =
    elim c.if-x-raised.branch [
      | then-x-raised+in-Some w ↦
          subst To (sym w.raised-is)
          (raised_step next a.m a.ceilings.now a.times.now l.raised l.j _ _ s (omega (arith, c.requires.1.few)) (sym now ∙ sym w.next_ceiling-next.ensures.found ∙ w.in-Some.is))
      | else-x-raised w ↦
          subst To (sym w.raised-is)
          (raised_stay next a.m a.ceilings.now a.times.now l.raised l.j s (sym now ∙ next_keeps ts lock _ _ a.x (omega arith)))
    ] in
    let told : HintIs ts c.if-x-raised.hint =
    elim c.if-x-raised.branch [
      | then-x-raised+in-Some w ↦ subst (HintIs ts) (sym w.hint-is) w.next_ceiling-next.ensures.told
      | else-x-raised w ↦ subst (HintIs ts) (sym w.hint-is) l.invariant.1
    ] in
    let most : c.max.result ≡ max c.if-x-raised.raised.holding (get_or c.if-x-raised.raised.times l.j 0) = omega (arith, c.max.ensures) in
    (rw most (raised_next next a.m a.ceilings.now a.times.now c.if-x-raised.raised l.j raised (omega arith)), told)

pub next_ceiling-next-requires : goal.next_ceiling-next-requires
next_ceiling-next-requires c =
    let l = c.loop-j in
    let f = c.requires.1 in
    (c.requires.0, f.each l.j (omega arith), omega (arith, l.invariant.0.ceilings_left l.j (omega arith), f.ceilings_most l.j (omega arith)), omega arith, l.invariant.1)

-- a lock that is held for more than x at every ceiling has none
pub returns-in_default : goal.returns-in_default
returns-in_default c =
    let a = c.args in
    let l = c.loop-j in
    let s = l.invariant.0 in
    let ts = times_of a.tasks.now in
    let lock = lock_at a.locks.now l.j in
    let now : next_ceiling ts lock (get_or l.raised.ceilings l.j 0) (get_or l.raised.times l.j 0) a.x ≡ ceiling_at ts a.locks.now a.ceilings.now a.times.now a.x l.j =
    ap₂ (λ (r w : ℕ). next_ceiling ts lock r w a.x) (s.ceilings_left l.j (omega arith)) (s.times_left_is l.j (omega arith)) in
    (l.j, omega arith, sym now ∙ sym c.next_ceiling-next.ensures.found ∙ c.in_default.is)

pub returns : goal.returns
returns c = let l = c.loop-j in raised_end _ c.args.m c.args.ceilings.now c.args.times.now l.raised l.j l.invariant.0 (omega arith)
