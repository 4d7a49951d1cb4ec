-- The supply of (P,Q) in t ticks (in the field: supply bound function): the least number of ticks that a budget of Q in every period of P gives in any t ticks.
-- Document 001, section 3.1, as paper 01 writes it in whole ticks; that this formula is the least number is proved in crate first_principles.
-- 1 ≤ Q ≤ P is understood.
--   round_of P Q t  == k: the larger of ⌈(t − (P−Q))/P⌉ and 1
--   supply_of P Q t == the supply of (P,Q) in t ticks
-- A difference is cut off at 0, which changes nothing: Signed.antt has the formula in signed numbers, and law `supply_signed` says that both agree.
-- Assumes nothing.
use Rattle.std.specs.Prelude.{ℕ, ◌+◌, ◌-◌, ◌*◌, max, cond, ◌&&◌, leb}
use Rattle.least.specs.Round.{ceil_div}

unfoldable pub round_of : ℕ → ℕ → ℕ → ℕ
round_of P Q t = max (ceil_div (t - (P - Q)) P) 1

-- the supply in t ticks, given k
unfoldable pub supply_at : ℕ → ℕ → ℕ → ℕ → ℕ
supply_at P Q t k =
    cond (leb ((k + 1) * P - 2 * Q) t && leb t ((k + 1) * P - Q))
    (t - (k + 1) * (P - Q))
    ((k - 1) * Q)

unfoldable pub supply_of : ℕ → ℕ → ℕ → ℕ
supply_of P Q t = supply_at P Q t (round_of P Q t)
