-- The turns of `select`, on plain values.
--   chosen_rows chosen           == the rows of a choice that is recorded
--   Selecting o places best chosen == the descent has come to these places; `best` is fine, and a choice is recorded just if it is finite
--   Turn o                       == the state of a turn: the places that the descent has come to, the best choice so far, and the columns at the places
--   rows_now t                   == the rows of these columns
--   Turned t best chosen x       == with this best choice the descent has come to the places, and a row whose bound is not below `best` is blocked by x
-- Assumes nothing.
use Rattle.std.specs.Prelude.{Option, Some, None, is_some}
use Prim.Native.Nat.{ℕ, ◌+◌, ◌-◌, ◌*◌, ◌<◌}
use native.Mathlib.Omega.{arith}
use mathlib.Core.Path.{◌≡◌, refl, sym, ap, ◌∙◌}
use mathlib.Core.Logic.{inl}
use mathlib.Core.List.{List, [], map}
use borrow.Author.Tests.{lt-ltb}
use lib.Dec.{ltb}
use lib.ListN.{length, get_or, set, replicate, length-replicate, get_or-replicate}
use Rattle.least.specs.declared.Frac.{Frac}
use Rattle.least.specs.Lists.{count_from}
use Rattle.least.specs.Fraction.{no_bound, ◌⊑◌, ◌⊏◌}
use Rattle.least.proofs.Lists.{count_from_lem, map_same}
use Rattle.least.proofs.Fraction.{⊑_refl}
use Rattle.refusal.specs.Limits.{kept_limit}
use Rattle.load.specs.declared.Row.{Row}
use Rattle.load.specs.declared.columns.RowColumns.{RowColumns}
use Rattle.load.specs.Code.ByColumn.{row_at, rows_by}
use Rattle.load.specs.Code.Rows.{no_row}
use Rattle.load.proofs.RowsBy.{rows_length}
use Rattle.selection.specs.declared.Offers.{Offers}
use Rattle.selection.specs.declared.Weight.{Weight}
use Rattle.selection.specs.Code.Choosing.{offer_at, FineOffers, FinePlaces, ColumnsAre, FineBest, bound_at, held_before, StuckIs, HeaviestIs, MoverIs, ChoiceIs}
use Rattle.selection.proofs.Places.{chosen_at, chosen_get}
use Rattle.selection.proofs.Lower.{load_below}
use Rattle.selection.proofs.Leading.{bound_at_fine}
use Rattle.selection.proofs.Descent.{Descending, smaller_finite, places_left, fewer_left, descent_starts, descent_records, descent_stops, descent_moves, descent_found, descent_least}

abbrev pub chosen_rows : Option RowColumns → List Row
chosen_rows (Some c) = rows_by c
chosen_rows None = []

pub record Selecting (o : Offers) (places : List ℕ) (best : Frac) (chosen : Option RowColumns) : Type 0 where
  pub descending : Descending o places best (chosen_rows chosen)
  pub fine_best : FineBest best
  pub found : is_some chosen ≡ ltb 0 best.den

pub record Turn (o : Offers) : Type 0 where
  pub fine : FineOffers o
  pub places : List ℕ
  pub best : Frac
  pub chosen : Option RowColumns
  pub selecting : Selecting o places best chosen
  pub columns : RowColumns
  pub columns_are : ColumnsAre o places columns

abbrev pub rows_now : {o : Offers} → Turn o → List Row
rows_now t = rows_by t.columns

pub record Turned {o : Offers} (t : Turn o) (best : Frac) (chosen : Option RowColumns) (x : ℕ) : Type 0 where
  pub selecting : Selecting o t.places best chosen
  pub place : ℕ
  pub within : place < length (rows_now t)
  pub reaches : best ⊑ bound_at (rows_now t) place
  pub blocked : x ≡ held_before (rows_now t) place

pub turned_as : (P : Frac → Option RowColumns → ℕ → Type 0) {b b' : Frac} {c c' : Option RowColumns} {x x' : ℕ} → b ≡ b' → c ≡ c' → x ≡ x' → P b' c' x' → P b c x
turned_as P e f g p = rw (e, f, g) p

module _ {o : Offers} where
  module _ (fine : FineOffers o) where
    pub selecting_starts : Selecting o (replicate 16 0) no_bound None
    selecting_starts = record {
      descending = descent_starts o fine (replicate 16 0) _ (length-replicate {A = ℕ} 16 0) (λ k h. get_or-replicate {A = ℕ} 16 k 0 0 (omega (arith, fine.few)));
      fine_best = record { proper = inl refl; num_most = omega arith; den_most = omega arith };
      found = refl;
    }

    -- the places that the descent has come to
    pub selecting_places : {places : List ℕ} {best : Frac} {chosen : Option RowColumns} → Selecting o places best chosen → FinePlaces o places
    selecting_places {places} now = record {
      few = fine.few;
      within = λ k h. omega (arith, now.descending.placed k h, fine.counts_most k h);
      fine = λ k h. fine.fine k (get_or places k 0) h (now.descending.placed k h);
    }

  -- one turn: the rows at the places; a row whose bound is not below the least load so far; then a part that moves on
  module _ (t : Turn o) where
    abbrev fine : FineOffers o
    fine = t.fine

    abbrev places : List ℕ
    places = t.places

    abbrev c : RowColumns
    c = t.columns

    abbrev are : ColumnsAre o places c
    are = t.columns_are

    abbrev rows : List Row
    rows = chosen_at o places

    long : length (rows_now t) ≡ o.count
    long = rows_length c ∙ are.count

    turn_rows : rows_now t ≡ rows
    unfolding rows_by chosen_at
    turn_rows = ap (λ (n : ℕ). map (row_at c) (count_from 0 n)) are.count ∙ map_same _ _ (count_from 0 o.count) (λ k m. same k (omega (arith, (count_from_lem o.count 0 k m).1)))
      where
        same : (k : ℕ) → k < o.count → row_at c k ≡ offer_at o k (get_or places k 0)
        same k h =
            let e : get_or c.workload.costs k 0 - get_or c.holdings k 0 ≡ get_or o.budgets (kept_limit * k + get_or places k 0) 0 = omega (arith, are.costs k h, are.times k h) in
            let p : get_or c.workload.periods k 0 ≡ get_or o.periods k 0 = ap (λ (l : List ℕ). get_or l k 0) are.periods in
            rw (p, e, are.times k h) refl

    module _ (r : Option ℕ) (stuck : StuckIs (rows_now t) t.best r) where
      pub turn_stays : (x : ℕ) → r ≡ Some x → Turned t t.best t.chosen x
      turn_stays x e = let s = stuck.reaches x e in record { selecting = t.selecting; place = s.0; within = s.1; reaches = s.2; blocked = s.3 }

      pub turn_records : r ≡ None → (w : Weight) → HeaviestIs (rows_now t) w → Turned t w.bound (Some c) w.blocking
      turn_records e w heavy =
          let p : heavy.place < c.workload.count = omega (arith, heavy.within, rows_length c) in
          let below : w.bound ⊏ t.best = rw heavy.bound (stuck.below e heavy.place heavy.within) in
          let load = load_below (rows_now t) (omega (arith, long, fine.some)) heavy.above in
          record {
            selecting = record {
              descending = rw turn_rows (descent_records o fine places t.best _ t.selecting.descending w.bound (rw turn_rows at load) below);
              fine_best = rw heavy.bound (bound_at_fine c heavy.place p);
              found = sym (lt-ltb _ _ (smaller_finite below).pos);
            };
            place = heavy.place;
            within = heavy.within;
            reaches = rw heavy.bound (⊑_refl _);
            blocked = heavy.blocking;
          }

    pub turn_fewer : (j : ℕ) → j < o.count → places_left o.counts o.count (set places j (get_or places j 0 + 1)) < places_left o.counts o.count places
    turn_fewer j h = fewer_left o.counts places o.count j (omega (arith, t.selecting.descending.room, fine.few)) h (t.selecting.descending.placed j h)

    module _ {best : Frac} {chosen : Option RowColumns} {x : ℕ} (turned : Turned t best chosen x) {r : Option ℕ} (moves : MoverIs o c places x r) where
      abbrev d : Descending o places best (chosen_rows chosen)
      d = turned.selecting.descending

      abbrev s : ℕ
      s = turned.place

      within : s < o.count
      within = omega (arith, turned.within, long)

      reaches : best ⊑ bound_at rows s
      reaches = rw turn_rows at turned.reaches

      blocks : x ≡ held_before rows s
      blocks = rw turn_rows at turned.blocked

      time_at : (k : ℕ) → k < o.count → (get_or rows k no_row).holding ≡ get_or c.holdings k 0
      time_at k h = ap (λ (r : Row). r.holding) (chosen_get o places k h) ∙ sym (are.times k h)

      none : (k : ℕ) → k < moves.first → (get_or rows k no_row).holding ≡ x → ⊥
      none k h e = moves.none k h (sym (time_at k (omega (arith, moves.within))) ∙ e)

      holds : moves.first < o.count → (get_or rows moves.first no_row).holding ≡ x
      holds h = time_at moves.first h ∙ moves.holds h

      pub turn_ends : r ≡ None → ChoiceIs o chosen
      turn_ends h =
          let end = descent_stops o fine places best _ d s x moves.first within reaches blocks none holds (moves.stops h) in
          record {
            found = turned.selecting.found ∙ descent_found o fine places best _ d end;
            rows = λ c e. ap chosen_rows (sym e) ∙ descent_least o fine places best _ d end (sym turned.selecting.found ∙ ap is_some e);
          }

      pub turn_at_most : (j : ℕ) → r ≡ Some j → j < o.count
      turn_at_most j e = let m = moves.moves j e in omega (arith, m.0, m.1)

      pub turn_moves : (j : ℕ) → r ≡ Some j → Selecting o (set places j (get_or places j 0 + 1)) best chosen
      turn_moves j e =
          let m = moves.moves j e in
          let next = descent_moves o fine places best _ d s x moves.first within reaches blocks none holds m.1 m.2 in
          record { descending = rw m.0 next; fine_best = turned.selecting.fine_best; found = turned.selecting.found }
