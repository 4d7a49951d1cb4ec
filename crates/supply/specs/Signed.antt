-- Paper 01's sentence on the supply in signed whole numbers, where no difference is cut off at 0.
--   larger a b            == the larger of two numbers
--   ceil_of z d           == ⌈z/d⌉, for d from 1 on: the least c with z ≤ c × d (laws `ceil_signed_covers`, `ceil_signed_least`)
--   signed_round P Q t    == k: the larger of ⌈(t − (P−Q))/P⌉ and 1
--   signed_supply P Q t   == the supply of (P,Q) in t ticks
--   SignsMakeNoDifference == `supply_of` is this supply (law `supply_signed`)
-- Assumes nothing.
use Rattle.std.specs.Prelude.{ℕ, ◌≤◌, ◌≡◌, cond, ◌&&◌, ℤ, pos, ◌+ℤ◌, ◌-ℤ◌, ◌*ℤ◌}
use Rattle.std.specs.Int.Signed.{le_z, quot_z}
use Rattle.supply.specs.Supply.{supply_of}

abbrev pub larger : ℤ → ℤ → ℤ
larger a b = cond (le_z a b) b a

-- `quot_z` rounds toward 0: that is up where z is at most 0, and down above
unfoldable pub ceil_of : ℤ → ℤ → ℤ
ceil_of z d = cond (le_z z (pos 0)) (quot_z z d) (quot_z (z +ℤ (d -ℤ pos 1)) d)

unfoldable pub signed_round : ℤ → ℤ → ℤ → ℤ
signed_round P Q t = larger (ceil_of (t -ℤ (P -ℤ Q)) P) (pos 1)

-- the supply in t ticks, given k
unfoldable pub signed_at : ℤ → ℤ → ℤ → ℤ → ℤ
signed_at P Q t k =
    cond (le_z ((k +ℤ pos 1) *ℤ P -ℤ pos 2 *ℤ Q) t && le_z t ((k +ℤ pos 1) *ℤ P -ℤ Q))
    (t -ℤ (k +ℤ pos 1) *ℤ (P -ℤ Q))
    ((k -ℤ pos 1) *ℤ Q)

unfoldable pub signed_supply : ℤ → ℤ → ℤ → ℤ
signed_supply P Q t = signed_at P Q t (signed_round P Q t)

abbrev pub SignsMakeNoDifference : Type 0
SignsMakeNoDifference = (P Q t : ℕ) → 1 ≤ Q → Q ≤ P → signed_supply (pos P) (pos Q) (pos t) ≡ pos (supply_of P Q t)
