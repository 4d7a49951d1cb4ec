-- `supply::reach_at` meets its contract: it is the inverse of the supply.
-- Assumes nothing.
use Prim.Native.Nat.{ℕ, ◌≤◌}
use mathlib.Core.Path.{◌≡◌, ap, ◌∙◌}
use native.Mathlib.Omega.{arith}
use Rattle.std.specs.Int.{div_ceil}
use Rattle.least.specs.Round.{ceil_div}
use Rattle.least.proofs.Round.{div_ceil_is}
use Rattle.supply.proofs.SupplyLaws.{reach, reach_iff}
use Rattle.supply.proofs.reach_at.Goals as goal

-- a number that is x is divided as x is
divided : (n x q r : ℕ) → r ≡ div_ceil n q → n ≡ x → 1 ≤ q → r ≡ ceil_div x q
divided n x q r e same h = e ∙ ap (λ (k : ℕ). div_ceil k q) same ∙ div_ceil_is x q h

pub returns : goal.returns
unfolding reach
returns c =
    let a = c.args in
    record { least = λ t. rw (divided _ a.x a.q _ c.div_ceil.ensures (omega arith) (omega arith)) (reach_iff a.p a.q t a.x (omega arith) (omega arith) (omega arith)) }
