-- The least budget that supplies x ticks in t ticks, by halving.
--   enough P x t Q           == Q supplies x ticks in t ticks
--   EnoughIs P x t from to r == r is the least budget from `from` up to `to`, `to` left out, that supplies x ticks in t ticks; `to` where there is none
-- Assumes nothing.
use Rattle.std.specs.Prelude.{Option, Some, None}
use Rattle.std.specs.Option.{unwrap_or}
use Rattle.std.specs.Bool.{then_some}
use Prim.Native.Nat.{ℕ, suc, ◌+◌, ◌-◌, ◌≤◌, ◌<◌}
use native.Mathlib.Omega.{arith}
use native.Mathlib.Decide.{dec_le}
use mathlib.Core.Path.{◌≡◌, refl, sym}
use mathlib.Core.Bool.{Bool, true, false}
use lib.Dec.{leb, ltb}
use borrow.Author.Tests.{le-leb, lt-leb, leb-true, leb-false, ltb-true, ltb-false}
use Rattle.least.proofs.Search.{least_nothing, least_found, least_missed}
use Rattle.least.proofs.Bisect.{Rising, Bracket, bracket_down, bracket_up, bracket_end, bracket_none}
use Rattle.supply.specs.Supply.{supply_of}
use Rattle.supply.specs.Code.Supply.{ReachIs}
use Rattle.supply.proofs.SupplyLaws.{supply_mono-Q, supply_le_t}
use Rattle.budget.specs.Code.Passing.{enough_from}

abbrev pub enough : ℕ → ℕ → ℕ → ℕ → Bool
enough P x t Q = leb x (supply_of P Q t)

pub record EnoughIs (P x t from to r : ℕ) : Type 0 where
  pub low : from ≤ r
  pub high : r ≤ to
  pub enough : r < to → x ≤ supply_of P r t
  pub least : (m : ℕ) → from ≤ m → m < r → supply_of P m t < x

module _ (P x t from to : ℕ) where
  -- what the equation says
  pub enough_is : from ≤ to → (r : Option ℕ) → r ≡ enough_from P x t from to → EnoughIs P x t from to (unwrap_or r to)
  unfolding enough_from
  enough_is l None e = record {
    low = l;
    high = omega arith;
    enough = λ q. absurd (omega arith);
    least = λ m p q. leb-false x (supply_of P m t) (least_missed (enough P x t) (to - from) from (sym e) m p (omega arith));
  }
  enough_is l (Some r) e =
      let is = least_found (enough P x t) (to - from) from r (sym e) in
      record {
        low = is.from;
        high = omega (arith, is.below);
        enough = λ q. leb-true x (supply_of P r t) is.passes;
        least = λ m p q. leb-false x (supply_of P m t) (is.before m p q);
      }

  pub enough_most : (r : ℕ) → Some r ≡ enough_from P x t from to → r < to
  unfolding enough_from
  enough_most r e = let is = least_found (enough P x t) (to - from) from r (sym e) in omega (arith, is.from, is.below)

  module _ (o : 1 ≤ from) (u : to ≤ suc P) where
    -- no budget supplies more than t
    pub enough_none : t < x → None ≡ enough_from P x t from to
    unfolding enough_from
    enough_none h =
        sym (least_nothing (enough P x t) (to - from) from (λ m p q. lt-leb x (supply_of P m t) (omega (arith, supply_le_t P m t (omega arith) (omega arith)))))

    module _ (low high : ℕ) (k : Bracket (enough P x t) from to low high) where
      -- the budget m supplies x ticks in r ticks or more
      module _ (m r : ℕ) (l : low ≤ m) (h : m < high) (is : ReachIs P m x r) where
        pub enough_down : r ≤ t → Bracket (enough P x t) from to low m
        enough_down d = bracket_down (enough P x t) from to low high m k l (omega arith) (λ q. le-leb x (supply_of P m t) ((is.least t).1 d))

        pub enough_up : t < r → Bracket (enough P x t) from to (m + 1) high
        enough_up d = bracket_up (enough P x t) from to low high m rises k l h (lt-leb x (supply_of P m t) (less (dec_le x (supply_of P m t))))
          where
            rises : Rising (enough P x t) m
            rises v w s p e q =
                le-leb x (supply_of P w t) (omega (arith, supply_mono-Q P v w t s p (omega (arith, k.top)), leb-true x (supply_of P v t) q))

            less : Dec (x ≤ supply_of P m t) → supply_of P m t < x
            less (yes q) = absurd (omega (arith, (is.least t).0 q))
            less (no q) = omega arith

      pub enough_end : high ≤ low → then_some (ltb high to) high ≡ enough_from P x t from to
      unfolding enough_from
      enough_end l = go (ltb high to) refl
        where
          go : (b : Bool) → ltb high to ≡ b → then_some b high ≡ enough_from P x t from to
          go true e = sym (bracket_end (enough P x t) from to low high k l (ltb-true high to e))
          go false e = sym (bracket_none (enough P x t) from to low high k l (ltb-false high to e))
