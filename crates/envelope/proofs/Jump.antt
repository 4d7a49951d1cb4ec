-- Where a line meets a linear supply: a demand that is not below the line is met at no time before.
-- Assumes nothing.
use Prim.Native.Nat.{ℕ, ◌+◌, ◌-◌, ◌*◌, ◌/◌, ◌%◌, ◌≤◌, ◌<◌}
use native.Mathlib.Nat.{le_trans, le_of_lt, sub-add_cancel, mul-add, mul_assoc, mul_left_comm, mul_comm, add-mul, mul-le-mul_left, mul-le-mul_right, le_of_mul-le-mul_right, div-mul-le_self, mod-add-div', le-div_iff_mul-le, div-le_of_le-mul}
use native.Mathlib.Omega.{arith}
use mathlib.Core.Path.{◌≡◌, ap}
use mathlib.Core.List.{List}
use Rattle.demand.specs.Code.Demand.{demand_from}
use Rattle.envelope.specs.declared.supply.LinearSupply.{LinearSupply}
use Rattle.envelope.specs.declared.Line.{Line}
use Rattle.envelope.specs.Code.Envelope.{slope_scale, LineIs, CrossingIs}

-- a quotient in two digits is not above the whole one
pub two_digits : (a d : ℕ) → 1 ≤ d → a * 16384 / d * 16384 + a * 16384 % d * 16384 / d ≤ slope_scale * a / d
two_digits a d h =
    let q = a * 16384 / d in
    let r = a * 16384 % d in
    let e : r * 16384 / d * d ≤ r * 16384 = div-mul-le_self (r * 16384) d in
    (le-div_iff_mul-le {k = d} {x = q * 16384 + r * 16384 / d} {y = slope_scale * a} h).1
    (omega (arith, e, add-mul (q * 16384) (r * 16384 / d) d, mod-add-div' (a * 16384) d, mul_assoc q 16384 d, mul_comm 16384 d, mul_assoc q d 16384))

module _ (x slope : ℕ) (by : LinearSupply) where
  abbrev asked : ℕ
  asked = by.times * x + by.wait

  -- the test of a crossing, with the demand on one side
  straight : (v : ℕ) → by.times * (slope_scale * x + slope * v) + slope_scale * by.wait ≤ slope_scale * (by.rate * v) → slope_scale * asked + by.times * slope * v ≤ by.rate * slope_scale * v
  straight v l =
      omega (
        arith,
        mul-add by.times (slope_scale * x) (slope * v),
        mul_left_comm by.times slope_scale x,
        mul_assoc by.times slope v,
        mul_left_comm slope_scale by.rate v,
        mul_assoc by.rate slope_scale v,
      )

  -- the demand takes all that is given: it is not met up to slope_scale
  pub crossing_never : 1 ≤ asked → by.rate * slope_scale ≤ by.times * slope + asked → CrossingIs x slope by slope_scale
  crossing_never o h = record {
    none_before = λ v l.
        le_of_mul-le-mul_right {k = asked}
        (omega (arith, straight v l, mul-le-mul_right v h, add-mul (by.times * slope) asked v, mul_comm asked v, mul_comm slope_scale asked))
        o;
  }

  pub crossing_at : (r : ℕ) → by.times * slope < by.rate * slope_scale → r ≤ slope_scale * asked / (by.rate * slope_scale - by.times * slope) → CrossingIs x slope by r
  crossing_at r h l = record {
    none_before = λ v k.
        let d = by.rate * slope_scale - by.times * slope in
        let e : d + by.times * slope ≡ by.rate * slope_scale = sub-add_cancel (le_of_lt h) in
        le_trans l (div-le_of_le-mul d {m = slope_scale * asked} {n = v} (omega (arith, straight v k, add-mul d (by.times * slope) v, ap (λ (y : ℕ). y * v) e)));
  }

-- what is above a line under the demand is met no earlier than the line
pub under_crossing : (periods costs : List ℕ) (n s own : ℕ) (by : LinearSupply) (t : ℕ) (line : Line) (r : ℕ) → LineIs periods costs n s t line → CrossingIs (own + line.fixed) line.slope by r
    → (v : ℕ) → t ≤ v → by.times * (own + demand_from periods costs n s v) + by.wait ≤ by.rate * v → r ≤ v
under_crossing periods costs n s own by t line r is cross v l met =
    let W = demand_from periods costs n s v in
    let low : by.times * (slope_scale * (own + line.fixed) + line.slope * v) ≤ by.times * (slope_scale * (own + W)) = mul-le-mul_left by.times (omega (arith, is.under v l)) in
    cross.none_before v (omega (arith, low, mul_left_comm by.times slope_scale (own + W)))
