-- `holding::Hint::begin` meets its contract.
-- Assumes nothing.
use native.Mathlib.Omega.{arith}
use Rattle.holding.proofs.Searching.{searched_larger, searched_longer}
use Rattle.holding.proofs.Hint.begin.Goals as goal

pub returns-then-r-self : goal.returns-then-r-self
returns-then-r-self c =
    let a = c.args in
    let h = a.self.now in
    λ ts told. (omega arith, rw c.max.ensures (searched_larger ts a.g a.most a.r h.ceiling h.time (searched_longer ts h.longest a.g (omega arith) h.most a.most h.from a.r h.ceiling h.time (omega arith) (omega arith) told)))
