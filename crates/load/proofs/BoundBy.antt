-- The turns of the search for the bound of a row by columns, on plain numbers.
--   load_by rows s period own t              == L(t) of a row whose own cost and blocking are `own`, below the rows from the place s on
--   BestBy rows s period own last best found == `best` is the least ratio of the times up to `last`, if it is found, or one that is sought (`LeastRatio`)
--   sought_by best found fine                == the linear supply by which the load of a time is met if the time is looked for
-- Assumes nothing.
use Rattle.std.specs.Prelude.{Option, Some, None}
use Prim.Native.Nat.{ℕ, suc, ◌+◌, ◌-◌, ◌*◌, ◌≤◌, ◌<◌}
use native.Mathlib.Omega.{arith}
use mathlib.Core.Path.{◌≡◌, refl, sym, ap, subst, ◌∙◌}
use mathlib.Core.Logic.{inl, inr, ⊎_elim}
use mathlib.Core.Bool.{Bool, true, false}
use mathlib.Core.List.{[]}
use mir.Val.{bool_byte}
use borrow.Author.Tests.{leb-true, leb-false, eqb-true, eqb-false}
use lib.Dec.{eqb}
use lib.ListN.{drop}
use Rattle.least.specs.declared.Frac.{Frac}
use Rattle.least.specs.Lists.{greatest}
use Rattle.least.specs.Fraction.{frac, no_bound, ◌⊏◌}
use Rattle.least.proofs.Search.{LeastIn, least_found, least_missed}
use Rattle.least.proofs.Iterate.{Mono}
use Rattle.least.proofs.Fraction.{⊏-trans}
use Rattle.demand.specs.declared.Workload.{Workload}
use Rattle.demand.specs.Code.Demand.{demand_from, FineDemand, SameUntil}
use Rattle.demand.proofs.Demand.{demand_same}
use Rattle.envelope.specs.declared.supply.LinearSupply.{LinearSupply}
use Rattle.envelope.specs.Code.Supply.{FineSupply}
use Rattle.envelope.specs.Code.Envelope.{met_at, first_met}
use Rattle.load.specs.Load.{row, load_at, bound_of}
use Rattle.load.specs.Code.ByColumn.{rows_costing, Attained, LowerIs}
use Rattle.load.proofs.Load.{load_at_mono_t}
use Rattle.load.proofs.Costing.{costing_demand, costing_periods}
use Rattle.load.proofs.LeastRatio.{Best, best_start, best_lower, best_found, best_settled, best_none}

abbrev pub sought_by : (best : Frac) (found : Bool) → FineSupply best.den (bool_byte found) best.num → LinearSupply
sought_by best found fine = record { times = best.den; wait = bool_byte found; rate = best.num; fine = fine }

-- ratios that are tried
module _ (rows : Workload) (s own : ℕ) where
  -- a smaller one after a smaller one
  pub lower_next : (t most : ℕ) (a b c : Frac) → 1 ≤ own → t ≤ most → LowerIs rows s most own a b → LowerIs rows s t own b c → LowerIs rows s most own a c
  lower_next t most a b c o l h k =
      ⊎_elim (λ e. subst (LowerIs rows s most own a) (sym e) h)
      (λ d. record { either = inr (record { value = d.0.value; reach = d.0.reach; within = omega (arith, d.0.within) }, ⊎_elim (λ e. subst (λ (x : Frac). c ⊏ x) e d.1) (λ e. ⊏-trans (record { some = omega (arith, d.0.value) }) d.1 e.1) h.either) })
      k.either

module _ (rows : Workload) (s period own : ℕ) where
  abbrev pub asked : ℕ → ℕ
  asked t = demand_from rows.periods rows.costs rows.count s t

  abbrev pub load_by : ℕ → ℕ
  load_by t = load_at [] (row period own 0) (drop s (rows_costing rows)) t

  pub load_by_is : (t : ℕ) → load_by t ≡ own + asked t
  unfolding load_at greatest
  load_by_is t = omega (arith, costing_demand rows s t)

  abbrev pub BestBy : ℕ → Frac → Bool → Type 0
  BestBy last best found = Best load_by period last best.num best.den (bool_byte found)

  pub bound_start : (best : Frac) → 1 ≤ period → 1 ≤ own → LowerIs rows s period own (frac 1 1) best → BestBy 0 best false
  bound_start best p o k =
      ⊎_elim (λ e. rw e (best_start load_by period 1 1 (omega arith) (omega arith) p (inl (refl, refl))))
      (λ a. best_start load_by period best.num best.den (omega (arith, a.0.value)) a.0.reach a.0.within (inr (a.0.value ∙ sym (load_by_is best.den))))
      k.either

  -- one that is found, or a smaller one that is attained
  module _ (e x : ℕ) (r : Frac) (o : 1 ≤ own) (is : x ≡ asked e) (b : BestBy e (frac (own + x) e) true) (k : LowerIs rows s period own (frac (own + x) e) r) where
    bound_here : r.den ≡ e → BestBy e r true
    bound_here q = ⊎_elim (λ h. rw h b) (λ a. absurd (again a)) k.either
      where
        again : Attained rows s period own r × (r ⊏ frac (own + x) e) → ⊥
        again a =
            let same : r.num ≡ own + x = a.0.value ∙ ap (λ (t : ℕ). own + asked t) q ∙ ap (λ (y : ℕ). own + y) (sym is) in
            omega (arith, a.1.cross, ap (λ (y : ℕ). y * e) same, ap (λ (y : ℕ). (own + x) * y) q)

    bound_lower : (r.den ≡ e → ⊥) → BestBy e r false
    bound_lower q =
        ⊎_elim (λ h. absurd (q (ap (λ (y : Frac). y.den) h)))
        (λ a. best_lower load_by period e (own + x) e r.num r.den b (omega (arith, a.0.value)) a.0.reach a.0.within (a.0.value ∙ sym (load_by_is r.den)) a.1.cross)
        k.either

    pub bound_next : BestBy e r (eqb r.den e)
    bound_next = go (eqb r.den e) refl
      where
        go : (t : Bool) → eqb r.den e ≡ t → BestBy e r t
        go true h = bound_here (eqb-true r.den e h)
        go false h = bound_lower (eqb-false r.den e h)

  -- the answer of a search
  module _ (last : ℕ) (best : Frac) (hit : Bool) (supply : FineSupply best.den (bool_byte hit) best.num) (b : BestBy last best hit) (answer : Option ℕ) (is : answer ≡ first_met rows.periods rows.costs rows.count s own (sought_by best hit supply) (last + 1) period) where
    -- what the tests say of the load
    passed : (v : ℕ) → met_at (sought_by best hit supply) (own + asked v) v ≡ false → best.num * v < best.den * load_by v + bool_byte hit
    passed v e = omega (arith, leb-false (best.den * (own + asked v) + bool_byte hit) (best.num * v) e, ap (λ (x : ℕ). best.den * x) (load_by_is v))

    -- a time that is found
    module _ (t : ℕ) (at : answer ≡ Some t) where
      found : LeastIn (λ v. met_at (sought_by best hit supply) (own + asked v) v) (last + 1) (last + 1 + (suc period - (last + 1))) t
      unfolding first_met
      found = least_found _ _ _ t (sym is ∙ at)

      pub bound_time : (last < t) × (t ≤ period)
      bound_time = (omega (arith, found.from), omega (arith, found.below, b.within))

      pub bound_found : FineDemand rows.periods rows.costs rows.count → 1 ≤ own → (e x : ℕ) → SameUntil rows.periods rows.count s t period e → x ≡ asked e → BestBy e (frac (own + x) e) true
      bound_found fine o e x same is_asked =
          best_found load_by period last best.num best.den (bool_byte hit) b mono t e (own + x) bound_time.0 same.from same.within (λ u p q. passed u (found.before u (omega arith) q))
          (omega (arith, leb-true (best.den * (own + asked t) + bool_byte hit) (best.num * t) found.passes, ap (λ (y : ℕ). best.den * y) at_t)) (at_t ∙ sym (load_by_is t)) (load_by_is e ∙ ap (λ (y : ℕ). own + y) flat ∙ sym (load_by_is t)) (omega arith)
        where
          mono : Mono load_by
          mono v w l = load_at_mono_t [] (row period own 0) (drop s (rows_costing rows)) (costing_periods rows fine.fine s) l

          flat : asked e ≡ asked t
          flat = demand_same rows.periods rows.costs rows.count s t e same.same

          at_t : own + x ≡ own + asked t
          at_t = ap (λ (y : ℕ). own + y) (is_asked ∙ flat)

    -- none is found
    module _ (nothing : answer ≡ None) where
      all : (u : ℕ) → last < u → u ≤ period → best.num * u < best.den * load_by u + bool_byte hit
      unfolding first_met
      all u p q = passed u (least_missed _ _ _ (sym is ∙ nothing) u (omega arith) (omega arith))

      pub bound_settled : hit ≡ true → bound_of [] (row period own 0) (drop s (rows_costing rows)) ≡ best
      unfolding bound_of
      bound_settled z = best_settled load_by period last best.num best.den (bool_byte hit) b all (rw z (omega arith))

      pub bound_none : hit ≡ false → bound_of [] (row period own 0) (drop s (rows_costing rows)) ≡ no_bound
      unfolding bound_of
      bound_none z = best_none load_by period last best.num best.den (bool_byte hit) b all (rw z (omega arith))
