-- The test whether the bound of a row by columns is not below a given one: by one search for a time whose ratio is below it.
-- Assumes nothing.
use Rattle.std.specs.Prelude.{Option, Some, None, is_some}
use Prim.Native.Nat.{ℕ, suc, ◌+◌, ◌-◌, ◌*◌, ◌≤◌, ◌<◌}
use native.Mathlib.Nat.{mul_comm, mul-le-mul_right, le_of_mul-le-mul_left}
use native.Mathlib.Omega.{arith}
use mathlib.Core.Path.{◌≡◌, refl, sym, ap, ◌∙◌}
use mathlib.Core.Logic.{⊎_elim}
use mathlib.Core.Bool.{Bool, true, false, not}
use mathlib.Core.List.{[]}
use borrow.Author.Tests.{leb-true, leb-false}
use lib.ListN.{drop}
use Rattle.least.specs.declared.Frac.{Frac}
use Rattle.least.specs.Fraction.{no_bound, ◌⊑◌, at_most}
use Rattle.least.proofs.Search.{LeastIn, least_found, least_missed}
use Rattle.least.proofs.Fraction.{⊑-noBound, ⊑-⊏-trans, cond_le, at_most_true, at_most_false, least_over_ok, least_over_below, least_over_above}
use Rattle.demand.specs.declared.Workload.{Workload}
use Rattle.envelope.specs.declared.supply.LinearSupply.{LinearSupply}
use Rattle.envelope.specs.Code.Supply.{FineSupply}
use Rattle.envelope.specs.Code.Envelope.{met_at, first_met}
use Rattle.load.specs.Load.{row, ratio, bound_of}
use Rattle.load.specs.Code.ByColumn.{rows_costing}
use Rattle.load.proofs.Load.{ratio_is, ratio_none, ratio_ok}
use Rattle.load.proofs.BoundBy.{asked, load_by, load_by_is}
use Rattle.selection.specs.Code.Choosing.{FineBest, BelowIs}

ratio_reaches : (best : Frac) (l t : ℕ) → best.num * t < best.den * l + 1 → best ⊑ ratio l t
unfolding ratio
ratio_reaches best l t h = cond_le (λ x. best ⊑ x) l t (λ _. record { cross = omega (arith, mul_comm best.den l) }) (λ _. ⊑-noBound _)

-- below 1/0 are the ratios up to 1
pub below_none : (best : Frac) {supply : FineSupply 1 0 1} → FineBest best → best.den ≡ 0 → BelowIs best (record { times = 1; wait = 0; rate = 1; fine = supply })
below_none best {supply} fine z = ⊎_elim (λ e. rw e served) (λ p. absurd (omega arith)) fine.proper
  where
    served : BelowIs no_bound (record { times = 1; wait = 0; rate = 1; fine = supply })
    served = record {
      met = λ l t o e. rw (ratio_is l t (omega (arith, leb-true (1 * l + 0) (1 * t) e))) (record { cross = omega arith });
      missed = λ l t e. rw (ratio_none l t (omega (arith, leb-false (1 * l + 0) (1 * t) e))) (⊑-noBound _);
    }

pub below_ratio : (best : Frac) {supply : FineSupply best.den 1 best.num} → FineBest best → (best.den ≡ 0 → ⊥) → BelowIs best (record { times = best.den; wait = 1; rate = best.num; fine = supply })
below_ratio best {supply} fine z = ⊎_elim (λ e. absurd (z (ap (λ (b : Frac). b.den) e))) (λ p. below p.0 p.1) fine.proper
  where
    below : 1 ≤ best.num → best.num ≤ best.den → BelowIs best (record { times = best.den; wait = 1; rate = best.num; fine = supply })
    below o r = record {
      met = λ l t _ e.
          let h = leb-true (best.den * l + 1) (best.num * t) e in
          let k : l ≤ t = le_of_mul-le-mul_left {m = l} {n = t} {k = best.den} (omega (arith, h, mul-le-mul_right t r)) (omega arith) in
          rw (ratio_is l t k) (record { cross = omega (arith, h, mul_comm best.den l) });
      missed = λ l t e. ratio_reaches best l t (leb-false (best.den * l + 1) (best.num * t) e);
    }

-- the answer of the search
module _ (rows : Workload) (s period own : ℕ) (best : Frac) (by : LinearSupply) (below : BelowIs best by) (answer : Option ℕ) (is : answer ≡ first_met rows.periods rows.costs rows.count s own by 1 period) where
  abbrev bound : Frac
  bound = bound_of [] (row period own 0) (drop s (rows_costing rows))

  abbrev at_time : ℕ → Frac
  at_time t = ratio (load_by rows s period own t) t

  same : (t : ℕ) → at_time t ≡ ratio (own + asked rows s period own t) t
  same t = ap (λ (x : ℕ). ratio x t) (load_by_is rows s period own t)

  reached_not : (t : ℕ) → answer ≡ Some t → false ≡ at_most best bound
  unfolding bound_of first_met
  reached_not t at = sym (at_most_false best _ (⊑-⊏-trans (least_over_ok at_time (λ u q. ratio_ok _ u q) period) (least_over_below at_time (λ u q. ratio_ok _ u q) period t found.from (omega (arith, found.below))) (rw (same t) (below.met _ t found.from found.passes))))
    where
      found : LeastIn (λ v. met_at by (own + asked rows s period own v) v) 1 (1 + (suc period - 1)) t
      found = least_found _ _ _ t (sym is ∙ at)

  reached : answer ≡ None → true ≡ at_most best bound
  unfolding bound_of first_met
  reached nothing = sym (at_most_true best _ (least_over_above at_time (λ u q. ratio_ok _ u q) period (λ t p q. rw (same t) (below.missed _ t (least_missed _ _ _ (sym is ∙ nothing) t p (omega arith))))))

  pub reaches_is : (r : Bool) → is_some answer ≡ not r → r ≡ at_most best bound
  reaches_is r e = go answer r refl e
    where
      go : (a : Option ℕ) (r : Bool) → answer ≡ a → is_some a ≡ not r → r ≡ at_most best bound
      go (Some t) false at e = reached_not t at
      go None true at e = reached at
      go (Some t) true at e = absurd (cc)
      go None false at e = absurd (cc)
