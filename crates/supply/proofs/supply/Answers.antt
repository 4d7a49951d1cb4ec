-- `supply::supply` meets its contract: nothing in the first P − Q ticks; past them the round's number gives the supply as one sum (`steps` of Small).
-- Assumes nothing.
use mathlib.Core.Path.{sym, ◌∙◌}
use native.Mathlib.Omega.{arith}
use Rattle.least.proofs.Round.{div_ceil_is}
use Rattle.supply.proofs.SupplyLaws.{supply_early}
use Rattle.supply.proofs.Small.{steps}
use Rattle.supply.proofs.supply.Goals as goal

pub returns-then-t-gap : goal.returns-then-t-gap
returns-then-t-gap c = sym (supply_early _ _ _ (omega arith) (omega arith) c.if-t-gap.true)

pub returns : goal.returns
returns c =
    let a = c.args in
    let all = steps a.p a.q a.t c.div_ceil-k.result (omega arith) (omega arith) (omega arith) (omega arith) c.if-t-gap.false (c.div_ceil-k.ensures ∙ div_ceil_is _ _ (omega arith)) in
    omega (arith, c.saturating_sub.ensures, all.is)
