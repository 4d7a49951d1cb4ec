-- Rows that pass the system test have budgets of at most the whole processor together: Σ Q/P ≤ 1. So have shares that the budgets are not below.
-- Assumes nothing.
use Prim.Native.Nat.{ℕ, ◌*◌, ◌≤◌}
use native.Mathlib.Nat.{mul_comm, mul_assoc, mul_left_comm, mul-add, add-mul, zero-mul, mul-le-mul_left, le_of_mul-le-mul_right}
use native.Mathlib.Omega.{arith}
use mathlib.Core.Path.{◌≡◌, refl}
use mathlib.Core.Bool.{true}
use mathlib.Core.List.{List, [], ◌∷◌}
use Rattle.least.specs.Each.{Each, none, more}
use Rattle.least.specs.Lists.{sum, greatest}
use Rattle.least.specs.Round.{ceil_div}
use Rattle.least.proofs.Round.{ceil_covers}
use Rattle.envelope.specs.Code.Envelope.{slope_scale}
use Rattle.load.specs.declared.Row.{Row}
use Rattle.load.specs.Load.{row_sum, demand_of, load_at, passes_system}
use Rattle.load.proofs.Load.{passes_paper}

-- the row's budget is not below the share s of the processor
abbrev pub AtLeast : Row → ℕ → Type 0
AtLeast r s = (1 ≤ r.period) × (r.period * s ≤ r.budget * slope_scale)

-- such rows ask for at least these shares of any time
demand_shares : (rows : List Row) (shares : List ℕ) → Each AtLeast rows shares → (t : ℕ) → sum shares * t ≤ slope_scale * demand_of rows t
unfolding demand_of sum
demand_shares [] (s ∷ shares) x'' t = elim x'' [ ]
demand_shares (r ∷ rows) [] x3 t = elim x3 [ ]
demand_shares [] [] none t = omega (arith, zero-mul t)
demand_shares (r ∷ rows) (s ∷ shares) (more a rest) t =
    let n = ceil_div t r.period in
    let first : s * t ≤ slope_scale * (n * row_sum r) =
    omega (
      arith,
      mul-le-mul_left s (ceil_covers t r.period a.0),
      mul_comm r.period s,
      mul_left_comm s n r.period,
      mul_comm s r.period,
      mul-le-mul_left n a.1,
      mul_assoc n r.budget slope_scale,
      mul_comm (n * r.budget) slope_scale,
      mul-add n r.budget r.holding,
    ) in
    omega (arith, first, demand_shares rows shares rest t, add-mul s (sum shares) t)

pub rows_share : (rows : List Row) (shares : List ℕ) → Each AtLeast rows shares → passes_system rows ≡ true → sum shares ≤ slope_scale
unfolding sum load_at greatest
rows_share [] (s ∷ shares) x4 p = elim x4 [ ]
rows_share (r ∷ rows) [] x4 p = elim x4 [ ]
rows_share [] [] none p = omega arith
rows_share (r ∷ rows) (s ∷ shares) (more a rest) p = at ((passes_paper (r ∷ rows)).0 p [] r rows refl)
  where
    at : (t : ℕ) × (1 ≤ t) × (t ≤ r.period) × (load_at [] r rows t ≤ t) → sum (s ∷ shares) ≤ slope_scale
    at (t, from, upto, passes) =
        let first : s * t ≤ slope_scale * r.budget = omega (arith, mul-le-mul_left s upto, mul_comm s r.period, a.1, mul_comm r.budget slope_scale) in
        le_of_mul-le-mul_right {k = t} (omega (arith, first, demand_shares rows shares rest t, add-mul s (sum shares) t, passes)) from
