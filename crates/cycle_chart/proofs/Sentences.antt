-- The layout is the one that the request's sentences describe, and there is no other.
-- Assumes nothing.
use Prim.Native.Nat.{ℕ, zero, suc, ◌/◌, ◌%◌, ◌≤◌}
use native.Mathlib.Nat.{div-add-mod'}
use native.Mathlib.Omega.{arith}
use native.Mathlib.Decide.{dec_le}
use mathlib.Core.Path.{◌≡◌, refl, sym, ap, ◌∙◌, subst}
use mathlib.Core.Bool.{Bool, true, false, false≢true}
use mathlib.Core.List.{List, [], ◌∷◌, map}
use lib.Dec.{eqb}
use borrow.Author.Tests.{eq-eqb, eqb-true, ne_eqb, eqb-false}
use lib.ListN.{length}
use Rattle.least.specs.Each.{Each}
use Rattle.least.specs.Each.Each.{none, more}
use Rattle.delivery.proofs.Given.{tick}
use Rattle.load.specs.declared.Row.{Row}
use Rattle.layout.specs.Layout.{begins, holder_of, due_at, holder_at}
use Rattle.layout.proofs.Begins.{begins_start, begins_multiple}
use Rattle.layout.proofs.Chart.{holder_most}
use Rattle.layout.proofs.Alike.{Alike, due_alike}
use Rattle.layout.proofs.Words.{due_begins, due_less, holder_due, holder_above}
use Rattle.planner.specs.SystemTest.{row_at}
use Rattle.planner.specs.Refusals.{Divides}
use Rattle.cycle_chart.specs.CycleChart.{HighestDue, LaidOut, due_of, without_holding}

-- a period begins at the multiples of P
module _ (P n : ℕ) where
  divides_begins : Divides P n → begins P n ≡ true
  divides_begins d = subst (λ (y : ℕ). begins P y ≡ true) d.1 (begins_multiple P d.0)

  begins_divides : begins P n ≡ true → Divides P n
  begins_divides e = (n / P, omega (arith, div-add-mod' n P, eqb-true (n % P) 0 e))

  begins_not : (Divides P n → ⊥) → begins P n ≡ false
  begins_not h = go (begins P n) refl
    where
      go : (b : Bool) → begins P n ≡ b → b ≡ false
      go true e = absurd (h (begins_divides e))
      go false e = refl

  not_begins : begins P n ≡ false → Divides P n → ⊥
  not_begins e d = false≢true (sym e ∙ divides_begins d)

pub laid_out : (rows : List Row) → LaidOut rows (due_of rows) (holder_at rows)
laid_out rows = record {
  start = λ k l h. due_begins rows k 0 l h (begins_start (row_at rows k).period);
  anew = λ y k l h d. due_begins rows k y l h (divides_begins _ y d);
  had = λ y k l h n e. omega (arith, due_less rows k y l h (begins_not _ (suc y) n), ap tick (eq-eqb _ k e));
  not_had = λ y k l h n e. omega (arith, due_less rows k y l h (begins_not _ (suc y) n), ap tick (ne_eqb _ k e));
  highest = λ y. record { most = holder_most rows y; still = holder_due (due_at rows y); none_above = λ j l h. holder_above (due_at rows y) j l };
}

-- where two say the same of what is due, the highest part due is the same
module _ (n : ℕ) (due other : ℕ → ℕ) (same : (k : ℕ) → 1 ≤ k → k ≤ n → due k ≡ other k) where
  highest_le : (j k : ℕ) → HighestDue n due j → HighestDue n other k → j ≤ k
  highest_le j k a b = go (dec_le j k)
    where
      go : Dec (j ≤ k) → j ≤ k
      go (yes l) = l
      go (no l) = absurd (omega (arith, a.still (omega arith), same j (omega arith) a.most, b.none_above j (omega arith) a.most))

highest_one : (n : ℕ) (due other : ℕ → ℕ) → ((k : ℕ) → 1 ≤ k → k ≤ n → due k ≡ other k)
    → (j k : ℕ) → HighestDue n due j → HighestDue n other k → j ≡ k
highest_one n due other same j k a b =
    omega (arith, highest_le n due other same j k a b, highest_le n other due (λ i l h. sym (same i l h)) k j b a)

-- two layouts by the same sentences
module _ (rows : List Row) (due other : ℕ → ℕ → ℕ) (holder who : ℕ → ℕ) (a : LaidOut rows due holder) (b : LaidOut rows other who) where
  same_due : (y k : ℕ) → 1 ≤ k → k ≤ length rows → due y k ≡ other y k
  same_due zero k l h = a.start k l h ∙ sym (b.start k l h)
  same_due (suc y) k l h =
      let w : holder y ≡ who y = highest_one (length rows) (due y) (other y) (same_due y) (holder y) (who y) (a.highest y) (b.highest y) in
      go (same_due y k l h) w (begins P (suc y)) refl (eqb (who y) k) refl
    where
      P : ℕ
      P = (row_at rows k).period

      go : due y k ≡ other y k → holder y ≡ who y → (c : Bool) → begins P (suc y) ≡ c → (d : Bool) → eqb (who y) k ≡ d
          → due (suc y) k ≡ other (suc y) k
      go ih w true e d f = let begun = begins_divides P (suc y) e in a.anew (suc y) k l h begun ∙ sym (b.anew (suc y) k l h begun)
      go ih w false e true f =
          let within = not_begins P (suc y) e in
          let own = eqb-true (who y) k f in
          omega (arith, a.had y k l h within (w ∙ own), b.had y k l h within own)
      go ih w false e false f =
          let within = not_begins P (suc y) e in
          let no = eqb-false (who y) k f in
          omega (arith, a.not_had y k l h within (λ q. no (sym w ∙ q)), b.not_had y k l h within no)

  same_holder : (y : ℕ) → holder y ≡ who y
  same_holder y = highest_one (length rows) (due y) (other y) (same_due y) (holder y) (who y) (a.highest y) (b.highest y)

module _ (rows : List Row) (due : ℕ → ℕ → ℕ) (holder : ℕ → ℕ) (a : LaidOut rows due holder) where
  pub one_holder : (y : ℕ) → holder y ≡ holder_at rows y
  one_holder = same_holder rows due (due_of rows) holder (holder_at rows) a (laid_out rows)

  pub one_due : (y k : ℕ) → 1 ≤ k → k ≤ length rows → due y k ≡ due_of rows y k
  one_due = same_due rows due (due_of rows) holder (holder_at rows) a (laid_out rows)

without_alike : (rows : List Row) → Each Alike (map without_holding rows) rows
without_alike [] = none
without_alike (r ∷ rs) = more {x = without_holding r} {y = r} (record { period = refl; budget = refl }) (without_alike rs)

pub no_holding : (rows : List Row) (y : ℕ) → holder_at (map without_holding rows) y ≡ holder_at rows y
no_holding rows y = ap holder_of (due_alike (without_alike rows) y)
