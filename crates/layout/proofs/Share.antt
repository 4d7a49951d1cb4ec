-- One part by itself, among ticks that higher parts have taken.
--   left y == how many ticks the part is still due at tick y
--   gets y == whether it gets tick y: none above has it, and the part is due
-- In t ticks it gets at most Q for each period that begins in them, and what it was due before (`gets_most`). From the start of a
-- period on it has got Q, or every tick was its own or taken (`got_or_used`). So it gets Q in each period if enough is left (`delivers`).
-- Assumes nothing.
use Prim.Native.Nat.{ℕ, zero, suc, ◌+◌, ◌-◌, ◌*◌, ◌≤◌}
use native.Mathlib.Nat.{add-suc, add-zero, mul-le-mul_left, mul-le-mul_right}
use native.Mathlib.Omega.{arith}
use native.Mathlib.Decide.{dec_le}
use mathlib.Core.Path.{◌≡◌, refl, ap, ◌∙◌}
use mathlib.Core.Bool.{Bool, true, false, cond}
use mathlib.Core.Logic.{◌⊎◌, inl, inr}
use lib.Dec.{leb}
use borrow.Author.Tests.{leb-true, leb-false}
use Rattle.least.specs.Round.{ceil_div}
use Rattle.delivery.specs.Assignment.{Assignment, given, Delivers}
use Rattle.layout.specs.Layout.{begins}
use Rattle.delivery.proofs.Given.{tick, given_none, given_first, given_last, given_append, given_inside, given_whole}
use Rattle.layout.proofs.Begins.{begins_start, begins_multiple, begins_again, begins_most, ceil_self}

-- what is due anew at tick y
abbrev pub fresh : ℕ → ℕ → ℕ → ℕ
fresh P Q y = Q * tick (begins P y)

-- from some good tick up to z every tick is taken
pub record TakenSince (taken : Assignment) (Good : ℕ → Type 0) (z : ℕ) : Type 0 where
  pub from : ℕ
  pub long : ℕ
  pub ends : from + long ≡ z
  pub whole : given taken from long ≡ long
  pub good : Good from

module _ (P Q : ℕ) (taken : Assignment) where
  unfoldable pub left : ℕ → ℕ
  left zero = Q
  left (suc y) = cond (begins P (suc y)) Q (left y - cond (taken y) 0 1)

  unfoldable pub gets : Assignment
  gets y = cond (taken y) false (leb 1 (left y))

  -- a tick that the part gets is due
  gets_due : (y : ℕ) → tick (gets y) ≤ left y
  unfolding gets
  gets_due y = go (taken y) (leb 1 (left y)) refl
    where
      go : (b c : Bool) → leb 1 (left y) ≡ c → tick (cond b false c) ≤ left y
      go true c e = omega arith
      go false true e = omega (arith, leb-true 1 (left y) e)
      go false false e = omega arith

  -- a tick that nobody above has goes to the part, unless it is due none
  abbrev Used : ℕ → Type 0
  Used y = (left y ≡ 0) ⊎ (tick (gets y) + tick (taken y) ≡ 1)

  gets_free : (y : ℕ) → Used y
  unfolding gets
  gets_free y = go (taken y) (leb 1 (left y)) refl
    where
      go : (b c : Bool) → leb 1 (left y) ≡ c → (left y ≡ 0) ⊎ (tick (cond b false c) + tick b ≡ 1)
      go true c e = inr (omega arith)
      go false true e = inr (omega arith)
      go false false e = inl (omega (arith, leb-false 1 (left y) e))

  -- from tick to tick: Q anew, or one less for a tick that it got
  abbrev Next : ℕ → Type 0
  Next y = ((left (suc y) ≡ Q) × (fresh P Q (suc y) ≡ Q)) ⊎ (left (suc y) + tick (gets y) ≡ left y)

  left_next : (y : ℕ) → Next y
  unfolding left gets
  left_next y = go (begins P (suc y)) (taken y) (leb 1 (left y)) refl
    where
      go : (a b c : Bool) → leb 1 (left y) ≡ c
          → ((cond a Q (left y - cond b 0 1) ≡ Q) × (Q * tick a ≡ Q)) ⊎ (cond a Q (left y - cond b 0 1) + tick (cond b false c) ≡ left y)
      go true b c e = inl (refl, omega arith)
      go false true c e = inr (omega arith)
      go false false true e = inr (omega (arith, leb-true 1 (left y) e))
      go false false false e = inr (omega (arith, leb-false 1 (left y) e))

  -- at the start of a period it is due Q
  pub left_start : (y : ℕ) → begins P y ≡ true → left y ≡ Q
  unfolding left
  left_start zero e = refl
  left_start (suc y) e = rw e refl

  left_fresh : (y : ℕ) → fresh P Q y ≤ left y
  left_fresh y = go (begins P y) refl
    where
      go : (b : Bool) → begins P y ≡ b → Q * tick b ≤ left y
      go true e = omega (arith, left_start y e)
      go false e = omega arith

  -- where the ticks taken repeat from a start of a period on, so does what it is due
  pub left_again : (n : ℕ) → begins P n ≡ true → ((y : ℕ) → taken (n + y) ≡ taken y) → (y : ℕ) → left (n + y) ≡ left y
  unfolding left
  left_again n e h zero = ap left (add-zero n) ∙ left_start n e
  left_again n e h (suc y) = ap left (add-suc n y) ∙ go (left_again n e h y) (begins_again P n e (suc y))
    where
      go : left (n + y) ≡ left y → begins P (n + suc y) ≡ begins P (suc y) → left (suc (n + y)) ≡ left (suc y)
      go ih b = rw (ih, h y, ← add-suc n y, b) refl

  -- the part is due no more at tick y than what is due anew there: at the start, and behind a tick that neither it nor one above it has
  abbrev pub NoneLeft : ℕ → Type 0
  NoneLeft y = left y ≤ fresh P Q y

  pub none_left_start : NoneLeft 0
  unfolding left
  none_left_start = let e : fresh P Q 0 ≡ Q * 1 = ap (λ (b : Bool). Q * tick b) (begins_start P) in omega arith

  pub none_left_next : (y : ℕ) → tick (taken y) ≡ 0 → tick (gets y) ≡ 0 → NoneLeft (suc y)
  none_left_next y n g = go (gets_free y) (left_next y)
    where
      go : Used y → Next y → NoneLeft (suc y)
      go (inl l) (inl d) = omega (arith, d.0, d.1)
      go (inl l) (inr d) = omega arith
      go (inr l) d = absurd (omega arith)

  -- it gets no more than Q for each period that begins in the window, and what it was due before
  abbrev GetsMost : ℕ → ℕ → Type 0
  GetsMost y t = given gets y t + fresh P Q y ≤ left y + Q * given (begins P) y t

  gets_most : (y t : ℕ) → GetsMost y t
  gets_most y zero = omega (arith, given_none gets y, left_fresh y)
  gets_most y (suc t) = go (left_next y) (gets_most (suc y) t)
    where
      go : Next y → GetsMost (suc y) t → GetsMost y (suc t)
      go (inl e) ih = rw (given_first gets y t, given_first (begins P) y t) (omega (arith, e.0, e.1, gets_due y))
      go (inr e) ih = rw (given_first gets y t, given_first (begins P) y t) (omega (arith, e))

  -- from a tick at which none is left on: at most Q for each period, as many as t ticks have beginnings
  pub gets_few : 1 ≤ P → (y t : ℕ) → NoneLeft y → given gets y t ≤ ceil_div t P * Q
  gets_few h y t n = omega (arith, gets_most y t, mul-le-mul_left Q (begins_most P h y t))

  module _ (z : ℕ) (e : begins P z ≡ true) where
    -- what it has got since the start z of a period, and what it is still due, is Q at least
    owed : (c : ℕ) → Q ≤ left (z + c) + given gets z c
    owed zero = rw (add-zero z) (omega (arith, left_start z e))
    owed (suc c) = go (left_next (z + c)) (owed c)
      where
        go : Next (z + c) → Q ≤ left (z + c) + given gets z c → Q ≤ left (z + suc c) + given gets z (suc c)
        go (inl d) ih = rw (add-suc z c) (omega (arith, d.0))
        go (inr d) ih = rw (add-suc z c) (omega (arith, d, given_last gets z c))

    -- since then it has got Q, or each tick was its own or taken
    abbrev GotOrUsed : ℕ → Type 0
    GotOrUsed c = (Q ≤ given gets z c) ⊎ (given gets z c + given taken z c ≡ c)

    got_or_used : (c : ℕ) → GotOrUsed c
    got_or_used zero = inr (omega (arith, given_none gets z, given_none taken z))
    got_or_used (suc c) = go (got_or_used c) (gets_free (z + c))
      where
        go : GotOrUsed c → Used (z + c) → GotOrUsed (suc c)
        go (inl l) d = inl (omega (arith, given_last gets z c))
        go (inr l) (inl d) = inl (omega (arith, given_last gets z c, owed c))
        go (inr l) (inr d) = inr (omega (arith, given_last gets z c, given_last taken z c))

    pub no_more : 1 ≤ P → given gets z P ≤ Q
    no_more h =
        let f : fresh P Q z ≡ Q * 1 = ap (λ (b : Bool). Q * tick b) e in
        omega (arith, gets_few h z P (omega (arith, left_start z e)), mul-le-mul_right Q (ceil_self P h))

    module _ (t D : ℕ) (within : t ≤ P) (room : Q + D ≤ t) (s : TakenSince taken (λ y. given taken y t ≤ D) z) where
      -- the t ticks end c ticks behind z
      no_less_behind : (c : ℕ) → s.long + c ≡ t → GotOrUsed c → Q ≤ given gets z P
      no_less_behind c k (inl l) = omega (arith, given_inside gets z P z c (omega arith) (omega arith))
      no_less_behind c k (inr l) =
          let a : given taken s.from t ≡ given taken s.from s.long + given taken z c = rw (k, s.ends) at (given_append taken s.from s.long c) in
          omega (arith, given_inside gets z P z c (omega arith) (omega arith), s.whole, s.good)

      no_less : Q ≤ given gets z P
      no_less = go (dec_le t s.long)
        where
          go : Dec (t ≤ s.long) → Q ≤ given gets z P
          go (yes l) = omega (arith, given_whole taken s.from t s.long l s.whole, s.good)
          go (no l) = no_less_behind (t - s.long) (omega arith) (got_or_used (t - s.long))

  -- it gets Q in each period: t ticks, no longer than the period, have room for Q and for the D ticks that may be taken of them
  pub delivers : (t D : ℕ) → 1 ≤ P → t ≤ P → Q + D ≤ t → ((z : ℕ) → TakenSince taken (λ y. given taken y t ≤ D) z) → Delivers P Q gets
  delivers t D h within room since n =
      let e = begins_multiple P n in
      omega (arith, no_more (n * P) e h, no_less (n * P) e t D within room (since (n * P)))
