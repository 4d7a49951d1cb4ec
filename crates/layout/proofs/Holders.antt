-- A tick's holder, one part at a time: what the lowest part is due and gets depends on those above it only by the ticks that they take.
--   taken rows y == some of these parts has tick y
-- Assumes nothing.
use Prim.Native.Nat.{ℕ, zero, suc, ◌+◌, ◌-◌, max, ◌≤◌}
use native.Mathlib.Omega.{arith}
use mathlib.Core.Path.{◌≡◌, refl, sym, ap, ◌∙◌}
use mathlib.Core.Bool.{Bool, true, false, cond}
use mathlib.Core.List.{List, [], ◌∷◌, zip_with}
use lib.Dec.{leb, eqb, eqb-suc-suc}
use borrow.Author.Tests.{le-leb, leb-true, leb-false, ne_eqb}
use Rattle.least.specs.Lists.{greatest, numbers_from}
use Rattle.least.proofs.Numbers.{numbers_pass, numbers_fail}
use Rattle.load.specs.declared.Row.{Row}
use Rattle.delivery.specs.Assignment.{Assignment}
use Rattle.layout.specs.Layout.{begins, holder_of, served_one, after_tick, renewed, due_at, holder_at}
use Rattle.delivery.proofs.Given.{tick, tick_le}
use Rattle.layout.proofs.Share.{left, gets}

-- the same elements, each with a number one higher
record Shifted (g h : ℕ) : Type 0 where
  none : g ≡ 0 → h ≡ 0
  some : 1 ≤ g → h ≡ suc g

shifted_more : (i g h : ℕ) → Shifted g h → Shifted (max (suc i) g) (max (suc (suc i)) h)
shifted_more i zero h s = let e = s.none refl in record { none = λ n. absurd (omega arith); some = λ n. omega arith }
shifted_more i (suc g) h s = let e = s.some (omega arith) in record { none = λ n. absurd (omega arith); some = λ n. omega arith }

numbers_shifted : (test : ℕ → Bool) (i : ℕ) (xs : List ℕ) → Shifted (greatest (numbers_from (suc i) test xs)) (greatest (numbers_from (suc (suc i)) test xs))
unfolding numbers_from greatest
numbers_shifted test i [] = record { none = λ n. refl; some = λ n. absurd (omega arith) }
numbers_shifted test i (x ∷ xs) = go (numbers_shifted test (suc i) xs) (test x) refl
  where
    go : Shifted (greatest (numbers_from (suc (suc i)) test xs)) (greatest (numbers_from (suc (suc (suc i))) test xs)) → (b : Bool) → test x ≡ b
        → Shifted (greatest (numbers_from (suc i) test (x ∷ xs))) (greatest (numbers_from (suc (suc i)) test (x ∷ xs)))
    go ih true t = rw (numbers_pass test (suc i) x xs t, numbers_pass test (suc (suc i)) x xs t) (shifted_more i _ _ ih)
    go ih false t = rw (numbers_fail test (suc i) x xs t, numbers_fail test (suc (suc i)) x xs t) ih

shifted_first : (g h : ℕ) (b : Bool) → Shifted g h → max (tick b) h ≡ cond (leb 1 g) (suc g) (tick b)
shifted_first zero h b s = omega (arith, s.none refl)
shifted_first (suc g) h true s = rw (le-leb 1 (suc g) (omega arith)) (omega (arith, s.some (omega arith)))
shifted_first (suc g) h false s = rw (le-leb 1 (suc g) (omega arith)) (omega (arith, s.some (omega arith)))

greatest_first : (test : ℕ → Bool) (x : ℕ) (xs : List ℕ) → greatest (numbers_from 1 test (x ∷ xs)) ≡ max (tick (test x)) (greatest (numbers_from 2 test xs))
unfolding greatest
greatest_first test x xs = go (test x) refl
  where
    go : (b : Bool) → test x ≡ b → greatest (numbers_from 1 test (x ∷ xs)) ≡ max (tick b) (greatest (numbers_from 2 test xs))
    go true t = rw (numbers_pass test 1 x xs t) refl
    go false t = rw (numbers_fail test 1 x xs t) (omega arith)

-- the highest part that is due, with one more part below the others
pub holder_first : (d : ℕ) (ds : List ℕ) → holder_of (d ∷ ds) ≡ cond (leb 1 (holder_of ds)) (suc (holder_of ds)) (tick (leb 1 d))
unfolding holder_of
holder_first d ds =
    greatest_first (leb 1) d ds ∙ shifted_first _ _ (leb 1 d) (numbers_shifted (leb 1) 0 ds)

pub served_nobody : (ds : List ℕ) → served_one 0 ds ≡ ds
unfolding served_one
served_nobody [] = refl
served_nobody (d ∷ ds) = refl

-- and what is left once it has got a tick
after_first : (d : ℕ) (ds : List ℕ) → after_tick (d ∷ ds) ≡ (d - cond (leb 1 (holder_of ds)) 0 1) ∷ after_tick ds
unfolding after_tick served_one
after_first d ds = rw (holder_first d ds) (go (holder_of ds) d)
  where
    go : (g d : ℕ) → served_one (cond (leb 1 g) (suc g) (tick (leb 1 d))) (d ∷ ds) ≡ (d - cond (leb 1 g) 0 1) ∷ served_one g ds
    go zero zero = ap (λ (l : List ℕ). 0 ∷ l) (sym (served_nobody ds))
    go zero (suc d) = rw (le-leb 1 (suc d) (omega arith)) (ap (λ (l : List ℕ). (suc d - 1) ∷ l) (sym (served_nobody ds)))
    go (suc g) d = rw (le-leb 1 (suc g) (omega arith)) (ap (λ (x : ℕ). x ∷ served_one (suc g) ds) (omega arith))

abbrev pub taken : List Row → Assignment
taken rows y = leb 1 (holder_at rows y)

pub due_none : (y : ℕ) → due_at [] y ≡ []
unfolding due_at renewed zip_with
due_none zero = refl
due_none (suc y) = refl

holder_none : leb 1 (holder_of []) ≡ false
unfolding holder_of numbers_from greatest
holder_none = refl

pub taken_none : (y : ℕ) → taken [] y ≡ false
taken_none y = ap (λ (l : List ℕ). leb 1 (holder_of l)) (due_none y) ∙ holder_none

module _ (r : Row) (rs : List Row) where
  renewed_first : (y d : ℕ) (ds : List ℕ) → renewed (r ∷ rs) y (d ∷ ds) ≡ cond (begins r.period y) r.budget d ∷ renewed rs y ds
  unfolding renewed zip_with
  renewed_first y d ds = refl

  -- what the parts are due
  pub due_first : (y : ℕ) → due_at (r ∷ rs) y ≡ left r.period r.budget (taken rs) y ∷ due_at rs y
  unfolding due_at left
  due_first zero = refl
  due_first (suc y) =
      ap (λ (l : List ℕ). renewed (r ∷ rs) (suc y) (after_tick l)) (due_first y)
      ∙ ap (renewed (r ∷ rs) (suc y)) (after_first _ _)
      ∙ renewed_first (suc y) _ _

  -- the lowest part's ticks
  abbrev pub first_gets : Assignment
  first_gets = gets r.period r.budget (taken rs)

  pub holder_at_is : (y : ℕ) → holder_at (r ∷ rs) y ≡ cond (taken rs y) (suc (holder_at rs y)) (tick (first_gets y))
  unfolding gets
  holder_at_is y = ap holder_of (due_first y) ∙ holder_first _ _ ∙ go _ _ (taken rs y)
    where
      go : (h : ℕ) (c b : Bool) → cond b h (tick c) ≡ cond b h (tick (cond b false c))
      go h c true = refl
      go h c false = refl

  pub taken_first : (y : ℕ) → tick (taken (r ∷ rs) y) ≡ tick (taken rs y) + tick (first_gets y)
  unfolding gets
  taken_first y = rw (holder_at_is y) (go (taken rs y) _ _)
    where
      go : (b c : Bool) (h : ℕ) → tick (leb 1 (cond b (suc h) (tick (cond b false c)))) ≡ tick b + tick (cond b false c)
      go true c h = rw (le-leb 1 (suc h) (omega arith)) refl
      go false true h = refl
      go false false h = refl

  pub first_has : (y : ℕ) → eqb (holder_at (r ∷ rs) y) 1 ≡ first_gets y
  unfolding gets
  first_has y = rw (holder_at_is y) (go (taken rs y) _ refl)
    where
      go : (b c : Bool) → taken rs y ≡ b → eqb (cond b (suc (holder_at rs y)) (tick (cond b false c))) 1 ≡ cond b false c
      go true c e = ne_eqb (suc (holder_at rs y)) 1 (λ k. omega (arith, leb-true 1 (holder_at rs y) e))
      go false true e = refl
      go false false e = refl

  pub later_has : (k y : ℕ) → eqb (holder_at (r ∷ rs) y) (suc (suc k)) ≡ eqb (holder_at rs y) (suc k)
  later_has k y = rw (holder_at_is y) (go (taken rs y) (first_gets y) refl)
    where
      go : (b c : Bool) → taken rs y ≡ b → eqb (cond b (suc (holder_at rs y)) (tick c)) (suc (suc k)) ≡ eqb (holder_at rs y) (suc k)
      go true c e = eqb-suc-suc (holder_at rs y) (suc k)
      go false c e = ne_eqb (tick c) (suc (suc k)) (λ n. omega (arith, tick_le c)) ∙ sym (ne_eqb (holder_at rs y) (suc k) (λ n. omega (arith, leb-false 1 (holder_at rs y) e)))
