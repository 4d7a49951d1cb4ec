-- A straight line under the demand, made up task by task.
--   Under fixed slope k == this line, and what those from the place k on ask for, are not above the whole from t on
-- Assumes nothing.
use Prim.Native.Nat.{ℕ, suc, ◌+◌, ◌-◌, ◌*◌, ◌/◌, min, ◌≤◌, ◌<◌}
use native.Mathlib.Nat.{le_refl, mul_comm, mul_assoc, add-mul, mul-le-mul_left, mul-le-mul_right, div-mul-le_self}
use native.Mathlib.Omega.{arith}
use mathlib.Core.Path.{◌≡◌}
use mathlib.Core.List.{List}
use lib.ListN.{get_or}
use Rattle.least.specs.Round.{ceil_div}
use Rattle.least.proofs.Round.{ceil_covers, ceil_mono}
use Rattle.demand.specs.Code.Demand.{demand_from, FineDemand}
use Rattle.demand.proofs.Demand.{demand_next}
use Rattle.envelope.specs.Code.Envelope.{slope_scale}

-- one task as a slope: it asks for no less
pub slope_under : (T C v : ℕ) → 1 ≤ T → C * slope_scale / T * v ≤ slope_scale * (ceil_div v T * C)
slope_under T C v h =
    let x = C * slope_scale / T in
    let m = ceil_div v T in
    omega (
      arith,
      mul-le-mul_left x (ceil_covers v T h),
      mul_comm m T,
      mul_assoc x T m,
      mul-le-mul_right m (div-mul-le_self (C * slope_scale) T),
      mul_comm (C * slope_scale) m,
      mul_assoc m C slope_scale,
    )

module _ (periods costs : List ℕ) (n s t : ℕ) where
  pub record Under (fixed slope k : ℕ) : Type 0 where
    pub under : (v : ℕ) → t ≤ v → slope_scale * fixed + slope * v + slope_scale * demand_from periods costs n k v ≤ slope_scale * demand_from periods costs n s v
    pub slope_most : slope < slope_scale

  -- what is fixed was asked for by t
  pub under_fixed_most : (fixed slope k : ℕ) → Under fixed slope k → fixed + demand_from periods costs n k t ≤ demand_from periods costs n s t
  under_fixed_most fixed slope k u = omega (arith, u.under t (le_refl t))

  module _ (fine : FineDemand periods costs n) (fixed slope k : ℕ) (u : Under fixed slope k) (h : k < n) where
    -- a task that comes m times in t ticks, as a step
    pub under_fixed : (m : ℕ) → m ≡ ceil_div t (get_or periods k 0) → Under (fixed + m * get_or costs k 0) slope (suc k)
    under_fixed m e = record { under = below; slope_most = u.slope_most }
      where
        below : (v : ℕ) → t ≤ v → slope_scale * (fixed + m * get_or costs k 0) + slope * v + slope_scale * demand_from periods costs n (suc k) v ≤ slope_scale * demand_from periods costs n s v
        below v r =
            let often : m * get_or costs k 0 ≤ ceil_div v (get_or periods k 0) * get_or costs k 0 = mul-le-mul_right (get_or costs k 0) (rw e (ceil_mono t v (get_or periods k 0) (fine.fine.some k h) r)) in
            omega (arith, u.under v r, demand_next periods costs n k v h, often)

    -- and one as a slope
    pub under_slope : (r : ℕ) → r ≡ min (slope + get_or costs k 0 * slope_scale / get_or periods k 0) (slope_scale - 1) → Under fixed r (suc k)
    under_slope r e = record { under = below; slope_most = omega arith }
      where
        below : (v : ℕ) → t ≤ v → slope_scale * fixed + r * v + slope_scale * demand_from periods costs n (suc k) v ≤ slope_scale * demand_from periods costs n s v
        below v l =
            let x = get_or costs k 0 * slope_scale / get_or periods k 0 in
            let less : r * v ≤ (slope + x) * v = mul-le-mul_right v (omega arith) in
            omega (arith, u.under v l, demand_next periods costs n k v h, less, add-mul slope x v, slope_under (get_or periods k 0) (get_or costs k 0) v (fine.fine.some k h))
