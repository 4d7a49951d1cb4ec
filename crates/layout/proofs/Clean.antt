-- What higher parts take: of t ticks from a clean one on at most their demand Σ ⌈t/P⌉×(Q+X) (`taken_few`).
--   Clean y rows == no part is due more at tick y than what is due anew there
-- Assumes nothing.
use Prim.Native.Nat.{ℕ, zero, suc, ◌+◌, ◌*◌, ◌≤◌}
use native.Mathlib.Omega.{arith}
use mathlib.Core.Path.{◌≡◌, refl, ap}
use mathlib.Core.Bool.{Bool, true, false}
use mathlib.Core.List.{List, [], ◌∷◌, Memᴰ}
use Rattle.least.specs.Round.{ceil_div}
use Rattle.least.specs.Lists.{sum}
use Rattle.load.specs.declared.Row.{Row}
use Rattle.load.specs.Load.{row_sum, demand_of}
use Rattle.delivery.specs.Assignment.{given}
use Rattle.delivery.proofs.Given.{tick, given_none, given_last, given_never, given_both}
use Rattle.layout.proofs.Share.{NoneLeft, TakenSince, none_left_start, none_left_next, gets_few}
use Rattle.layout.proofs.Holders.{taken, first_gets, taken_none, taken_first}

pub data Clean (y : ℕ) : List Row → Type 0 where
  none : Clean y []
  more : {r : Row} {rs : List Row} → NoneLeft r.period r.budget (taken rs) y → Clean y rs → Clean y (r ∷ rs)

clean_start : (rows : List Row) → Clean 0 rows
clean_start [] = none
clean_start (r ∷ rs) = more (none_left_start r.period r.budget (taken rs)) (clean_start rs)

-- behind a tick that nobody has
clean_next : (y : ℕ) (rows : List Row) → tick (taken rows y) ≡ 0 → Clean (suc y) rows
clean_next y [] e = none
clean_next y (r ∷ rs) e =
    let s = taken_first r rs y in
    more (none_left_next r.period r.budget (taken rs) y (omega arith) (omega arith)) (clean_next y rs (omega arith))

-- each tick has a clean one at or before it, with every tick between them taken
clean_since : (rows : List Row) (z : ℕ) → TakenSince (taken rows) (λ y. Clean y rows) z
clean_since rows zero = record { from = 0; long = 0; ends = refl; whole = given_none _ 0; good = clean_start rows }
clean_since rows (suc z) = go (clean_since rows z) (taken rows z) refl
  where
    go : TakenSince (taken rows) (λ y. Clean y rows) z → (b : Bool) → taken rows z ≡ b → TakenSince (taken rows) (λ y. Clean y rows) (suc z)
    go s true e = record {
      from = s.from;
      long = suc s.long;
      ends = omega (arith, s.ends);
      whole = omega (arith, s.whole, given_last (taken rows) s.from s.long, ap (λ (y : ℕ). tick (taken rows y)) s.ends, ap tick e);
      good = s.good;
    }
    go s false e = record { from = suc z; long = 0; ends = omega arith; whole = given_none _ (suc z); good = clean_next z rows (ap tick e) }

-- no period is empty
abbrev pub Periods : List Row → Type 0
Periods rows = (r : Row) → Memᴰ r rows → 1 ≤ r.period

-- one part more
module _ (r : Row) (rs : List Row) (t : ℕ) where
  demand_first : demand_of (r ∷ rs) t ≡ ceil_div t r.period * row_sum r + demand_of rs t
  unfolding demand_of sum
  demand_first = refl

  taken_more : (y : ℕ) → 1 ≤ r.period → NoneLeft r.period r.budget (taken rs) y
      → given (taken rs) y t ≤ demand_of rs t → given (taken (r ∷ rs)) y t ≤ demand_of (r ∷ rs) t
  taken_more y h n ih =
      let both = given_both (taken rs) (first_gets r rs) (taken (r ∷ rs)) (taken_first r rs) y t in
      omega (arith, demand_first, gets_few r.period r.budget (taken rs) h y t n)

-- t ticks from a clean one on
taken_few : (y t : ℕ) {rows : List Row} → Periods rows → Clean y rows → given (taken rows) y t ≤ demand_of rows t
taken_few y t p none = omega (arith, given_never (taken []) (λ u. ap tick (taken_none u)) y t)
taken_few y t p (more {r = r} {rs = rs} c cs) =
    taken_more r rs t y (p r (Memᴰ.head refl)) c (taken_few y t (λ s m. p s (Memᴰ.tail m)) cs)

pub taken_since : (rows : List Row) → Periods rows → (t z : ℕ) → TakenSince (taken rows) (λ y. given (taken rows) y t ≤ demand_of rows t) z
taken_since rows p t z =
    let s = clean_since rows z in
    record { from = s.from; long = s.long; ends = s.ends; whole = s.whole; good = taken_few s.from t p s.good }
