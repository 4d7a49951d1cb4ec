-- The numbers of the code that works out a supply and its inverse, and that they are small.
-- Assumes nothing.
use Prim.Native.Nat.{ℕ, zero, suc, ◌+◌, ◌-◌, ◌*◌, ◌≤◌, ◌<◌}
use native.Mathlib.Nat.{sub-add_cancel}
use native.Mathlib.Numerals.{sub-one}
use native.Mathlib.Omega.{arith}
use mathlib.Core.Path.{◌≡◌, sym}
use Rattle.least.specs.Round.{ceil_div}
use Rattle.least.proofs.Round.{ceil_le, ceil_pos, product}
use Rattle.refusal.specs.Limits.{number_limit}
use Rattle.supply.specs.Supply.{supply_of}
use Rattle.supply.proofs.SupplyLaws.{Round, round_suc, twice_more}

-- past the first P − Q ticks, with k as the code computes it
pub record Steps (P Q t k : ℕ) : Type 0 where
  pub some : 1 ≤ k
  pub few : k ≤ number_limit
  pub whole : (k - 1) * Q ≤ number_limit * number_limit
  pub gaps : (k + 1) * (P - Q) ≤ (number_limit + 1) * number_limit
  pub is : supply_of P Q t ≡ (k - 1) * Q + (t - ((k - 1) * Q + (k + 1) * (P - Q)))

pub steps : (P Q t k : ℕ) → P ≤ number_limit → t ≤ number_limit → 1 ≤ Q → Q ≤ P → P - Q < t → k ≡ ceil_div (t - (P - Q)) P → Steps P Q t k
steps P Q t zero s s' h b l e = absurd (omega (arith, ceil_pos (t - (P - Q)) P (omega arith) (omega arith)))
steps P Q t (suc j) s s' h b l e =
    let d : P - Q + Q ≡ P = sub-add_cancel b in
    let r : Round (P - Q) Q t j = round_suc (P - Q) Q t h j (rw d (sym e)) in
    let f : suc j ≤ t = omega (arith, ceil_le (t - (P - Q)) P (omega arith)) in
    record {
      some = omega arith;
      few = omega arith;
      whole = product number_limit number_limit (omega arith) (omega arith);
      gaps = product (number_limit + 1) number_limit (omega arith) (omega arith);
      is = rw (sub-one (suc j)) (omega (arith, rw d at r.value, twice_more j (P - Q)));
    }

-- the inverse: m is ⌈x/Q⌉
pub reach_small : (P Q x m : ℕ) → 1 ≤ Q → P ≤ number_limit → x ≤ number_limit → m ≡ ceil_div x Q → (m ≤ number_limit) × ((m + 1) * (P - Q) ≤ (number_limit + 1) * number_limit)
reach_small P Q x m h s l e =
    let c : m ≤ number_limit = omega (arith, ceil_le x Q h) in
    (c, product (number_limit + 1) number_limit (omega arith) (omega arith))
