-- The search for a row that reaches the load, place by place.
--   Ahead rows s bound blocking == a row before the place s has this bound and this blocking, and no row before s has a greater bound
-- Assumes nothing.
use Rattle.std.specs.Prelude.{Some, None}
use Prim.Native.Nat.{ℕ, ◌+◌, ◌≤◌, ◌<◌}
use native.Mathlib.Omega.{arith}
use native.Mathlib.Decide.{ℕ_discrete}
use mathlib.Core.Path.{◌≡◌, sym, ap, subst, ◌∙◌}
use mathlib.Core.Bool.{Bool, true, false}
use mathlib.Core.List.{List, []}
use borrow.Author.Tests.{leb-true, leb-false}
use lib.ListN.{length, get_or, drop}
use Rattle.least.specs.declared.Frac.{Frac}
use Rattle.least.specs.Fraction.{◌⊑◌, ◌⊏◌, at_most}
use Rattle.least.proofs.Fraction.{⊑_refl, ⊑_trans, ⊏-⊑}
use Rattle.refusal.specs.Limits.{number_limit}
use Rattle.demand.specs.declared.Workload.{Workload}
use Rattle.load.specs.declared.Row.{Row}
use Rattle.load.specs.declared.columns.RowColumns.{RowColumns}
use Rattle.load.specs.Load.{row, row_sum, bound_of}
use Rattle.load.specs.Code.ByColumn.{rows_costing, rows_by}
use Rattle.load.specs.Code.Rows.{no_row}
use Rattle.load.proofs.RowsBy.{rows_length, rows_get, blocking_none, bound_at_lem}
use Rattle.selection.specs.Code.Choosing.{FineBest, bound_at, held_before, StuckIs, HeaviestIs}
use Rattle.selection.proofs.Lower.{bound_at_ok, bound_at_small, bound_at_proper}

pub record Ahead (rows : List Row) (s : ℕ) (bound : Frac) (blocking : ℕ) : Type 0 where
  pub place : ℕ
  pub before : place < s
  pub is : bound ≡ bound_at rows place
  pub blocked : blocking ≡ held_before rows place
  pub above : (k : ℕ) → k < s → bound_at rows k ⊑ bound

pub ahead_as : (rows : List Row) (s : ℕ) {b c : Frac} {x y : ℕ} → b ≡ c → x ≡ y → Ahead rows s c y → Ahead rows s b x
ahead_as rows s e f h = rw (e, f) h

module _ (rows : List Row) (s : ℕ) (bound : Frac) (blocking : ℕ) (a : Ahead rows s bound blocking) where
  one_more : {x : Frac} → ((k : ℕ) → k < s → bound_at rows k ⊑ x) → bound_at rows s ⊑ x → (k : ℕ) → k < s + 1 → bound_at rows k ⊑ x
  one_more {x} f h k l = go (ℕ_discrete k s)
    where
      go : Dec (k ≡ s) → bound_at rows k ⊑ x
      go (yes e) = rw e h
      go (no e) = f k (omega arith)

  pub ahead_stays : bound_at rows s ⊏ bound → Ahead rows (s + 1) bound blocking
  ahead_stays h = record { place = a.place; before = omega (arith, a.before); is = a.is; blocked = a.blocked; above = one_more a.above (⊏-⊑ h) }

  pub ahead_goes : (b : Frac) (below : ℕ) → b ≡ bound_at rows s → below ≡ held_before rows s → s < length rows → bound ⊑ bound_at rows s → Ahead rows (s + 1) b below
  ahead_goes b below is e l h = record {
    place = s;
    before = omega arith;
    is = is;
    blocked = e;
    above = rw is (one_more (λ k q. ⊑_trans (rw a.is (bound_at_ok rows a.place (omega (arith, a.before)))) (a.above k q) h) (⊑_refl _));
  }

module _ (c : RowColumns) where
  abbrev rows : Workload
  rows = c.workload

  abbrev R : List Row
  R = rows_by c

  pub bound_is : (s below : ℕ) (b : Frac) → s < rows.count → below ≡ held_before R s → b ≡ bound_of [] (row (get_or rows.periods s 0) (get_or rows.costs s 0 + below) 0) (drop (s + 1) (rows_costing rows)) → b ≡ bound_at R s
  bound_is s below b h e q = rw e at q ∙ sym (bound_at_lem c s h)

  bound_small : (s : ℕ) → s < rows.count → ((bound_at R s).num ≤ number_limit) × ((bound_at R s).den ≤ number_limit)
  bound_small s h =
      let l : s < length R = omega (arith, rows_length c) in
      let p = c.fine.demand.fine in
      let b = bound_at_small R s l (rw (rows_get c s h) (p.some s h)) in
      let e : (get_or R s no_row).period ≤ number_limit = rw (rows_get c s h) (p.most s h) in
      (omega arith, omega arith)

  pub bound_at_fine : (s : ℕ) → s < rows.count → FineBest (bound_at R s)
  bound_at_fine s h =
      let l : s < length R = omega (arith, rows_length c) in
      let b = bound_small s h in
      let e : 1 ≤ row_sum (get_or R s no_row) = rw (rows_get c s h) (omega (arith, c.fine.some s h)) in
      record { proper = bound_at_proper R s l e; num_most = b.0; den_most = b.1 }

  -- the first row
  pub ahead_start : (b : Frac) → 1 ≤ rows.count → b ≡ bound_of [] (row (get_or rows.periods 0 0) (get_or rows.costs 0 0) 0) (drop 1 (rows_costing rows)) → Ahead R 1 b 0
  ahead_start b h q = record { place = 0; before = omega arith; is = first; blocked = none; above = λ k l. let z : k ≡ 0 = omega arith in rw (z, first) (⊑_refl _) }
    where
      none : 0 ≡ held_before R 0
      none = sym (blocking_none c)

      first : b ≡ bound_at R 0
      first = bound_is 0 0 b h none (q ∙ ap (λ (x : ℕ). bound_of [] (row (get_or rows.periods 0 0) x 0) (drop 1 (rows_costing rows))) (omega arith))

  pub ahead_fine : (s : ℕ) (bound : Frac) (blocking : ℕ) → s ≤ rows.count → Ahead R s bound blocking → FineBest bound
  ahead_fine s bound blocking h a = subst FineBest (sym a.is) (bound_at_fine a.place (omega (arith, a.before)))

  -- all rows were seen
  pub heaviest_of_all : (s : ℕ) (bound : Frac) (blocking : ℕ) → s ≡ rows.count → Ahead R s bound blocking → HeaviestIs R (record { bound = bound; blocking = blocking })
  heaviest_of_all s bound blocking e a = record {
    place = a.place;
    within = omega (arith, a.before, rows_length c);
    bound = a.is;
    blocking = a.blocked;
    above = λ k l. a.above k (omega (arith, rows_length c));
  }

  -- the same search for a row whose bound is not below `best`
  module _ (best : Frac) where
    abbrev pub BelowTo : ℕ → Type 0
    BelowTo s = (k : ℕ) → k < s → bound_at R k ⊏ best

    module _ (s below : ℕ) (r : Bool) (within : s < rows.count) (held : below ≡ held_before R s)
        (is : r ≡ at_most best (bound_of [] (row (get_or rows.periods s 0) (get_or rows.costs s 0 + below) 0) (drop (s + 1) (rows_costing rows)))) where
      reaches_at : r ≡ at_most best (bound_at R s)
      reaches_at = rw held at is ∙ ap (at_most best) (sym (bound_at_lem c s within))

      pub reaches_true : r ≡ true → best ⊑ bound_at R s
      reaches_true e = record { cross = leb-true _ _ (sym reaches_at ∙ e) }

      pub reaches_false : r ≡ false → bound_at R s ⊏ best
      reaches_false e = record { cross = leb-false _ _ (sym reaches_at ∙ e) }

      pub stuck_here : r ≡ true → StuckIs R best (Some below)
      stuck_here e = record {
        reaches = λ x f. let g : below ≡ x = cc f in (s, omega (arith, rows_length c), reaches_true e, sym g ∙ held);
        below = λ f. absurd (cc f);
      }

      pub stuck_next : r ≡ false → BelowTo s → BelowTo (s + 1)
      stuck_next e f k h = go (ℕ_discrete k s)
        where
          go : Dec (k ≡ s) → bound_at R k ⊏ best
          go (yes q) = rw q (reaches_false e)
          go (no q) = f k (omega arith)

    pub stuck_nowhere : (s : ℕ) → rows.count ≤ s → BelowTo s → StuckIs R best None
    stuck_nowhere s h f = record { reaches = λ x e. absurd (cc e); below = λ _ k l. f k (omega (arith, rows_length c)) }
