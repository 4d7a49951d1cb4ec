-- The descent through the choices. A state is the places of the parts' rows, the least load so far and the choice that has it.
--   Recorded best rec           == rec has the load `best`, and every choice of no greater load comes after it
--   Descending places best rec  == every choice of a smaller load than `best` is left at the places; `best` is 1/0, or recorded with rec
--   NoneBelow best              == no choice has a smaller load
--   places_left counts n places == how many places of n parts were not reached yet
-- Assumes nothing.
use Prim.Native.Nat.{ℕ, zero, suc, ◌+◌, ◌-◌, ◌*◌, ◌≤◌, ◌<◌}
use native.Mathlib.Nat.{le_refl}
use native.Mathlib.Omega.{arith}
use native.Mathlib.Decide.{ℕ_discrete}
use mathlib.Core.Path.{◌≡◌, refl, ◌∙◌}
use mathlib.Core.Logic.{◌⊎◌, inl, inr, ⊎_elim}
use mathlib.Core.Bool.{Bool, true, false, false≢true}
use mathlib.Core.List.{List, [], map}
use borrow.Author.Tests.{lt-ltb}
use lib.Dec.{ltb}
use lib.ListN.{length, get_or, set, length-set}
use lib.Seq.{get_or-set_same, get_or-set_other}
use Rattle.least.specs.declared.Frac.{Frac}
use Rattle.least.specs.Lists.{some, sum, count_from}
use Rattle.least.specs.Each.{Each}
use Rattle.least.specs.Fraction.{no_bound, ◌⊑◌, ◌⊏◌}
use Rattle.least.proofs.Each.{each_get}
use Rattle.least.proofs.Lists.{count_to, some_iff, some_none}
use Rattle.least.proofs.Sums.{sum_rises}
use Rattle.least.proofs.Fraction.{Finite, finite_ok, finite_below, ⊑_trans, ⊏-trans, ⊑-⊏-trans, ⊏-or-⊑}
use Rattle.load.specs.declared.Row.{Row}
use Rattle.load.specs.Load.{load_of, passes_system}
use Rattle.load.specs.Code.Rows.{no_row}
use Rattle.load.proofs.Load.{load_of_ok, passes_finite}
use Rattle.selection.specs.Selection.{choices, least_loaded}
use Rattle.selection.specs.declared.Offers.{Offers}
use Rattle.selection.specs.Code.Choosing.{offer_at, offers_of, FineOffers, bound_at, held_before}
use Rattle.selection.proofs.Selection.{Picks, choices_iff, least_loaded_member, least_loaded_least}
use Rattle.selection.proofs.Greatest.{After, member_some, least_loaded_greatest}
use Rattle.selection.proofs.Places.{Later, Left, chosen_at, chosen_length, chosen_get, picks_left, left_picks, chosen_left, holds_later, left_after, left_same, offers_sorted}
use Rattle.selection.proofs.Lower.{lower_holds_less}

-- only a finite fraction is smaller than another
pub smaller_finite : {a b : Frac} → a ⊏ b → Finite a
smaller_finite {a} {b} h = go a.den refl
  where
    go : (d : ℕ) → a.den ≡ d → Finite a
    go zero e = let k : a.num * b.den < b.num * 0 = rw e at h.cross in absurd (omega arith)
    go (suc d) e = record { pos = omega arith }

pub finite_smaller : {a : Frac} → Finite a → a ⊏ no_bound
finite_smaller f = record { cross = omega (arith, f.pos) }

-- each move leaves fewer places
unfoldable pub places_left : List ℕ → ℕ → List ℕ → ℕ
places_left counts n places = sum (map (λ k. get_or counts k 0 - get_or places k 0) (count_from 0 n))

pub fewer_left : (counts places : List ℕ) (n j : ℕ) → n ≤ length places → j < n → get_or places j 0 < get_or counts j 0 → places_left counts n (set places j (get_or places j 0 + 1)) < places_left counts n places
unfolding places_left
fewer_left counts places n j l h q =
    sum_rises _ _ (count_from 0 n) (λ k m. no_more k (ℕ_discrete k j)) j (count_to n 0 j (omega arith) (omega arith)) (rw here (omega arith))
  where
    here : get_or (set places j (get_or places j 0 + 1)) j 0 ≡ get_or places j 0 + 1
    here = get_or-set_same places j _ 0 (omega arith)

    no_more : (k : ℕ) → Dec (k ≡ j) → get_or counts k 0 - get_or (set places j (get_or places j 0 + 1)) k 0 ≤ get_or counts k 0 - get_or places k 0
    no_more k (yes e) = rw (e, here) (omega arith)
    no_more k (no e) = rw (get_or-set_other places j k (get_or places j 0 + 1) 0 e) (le_refl _)

module _ (o : Offers) where
  abbrev offers : List (List Row)
  offers = offers_of o

  abbrev chosen : List ℕ → List Row
  chosen places = chosen_at o places

  pub record Recorded (best : Frac) (rec : List Row) : Type 0 where
    pub finite : Finite best
    pub picks : Picks offers rec
    pub load : load_of rec ⊑ best
    pub after : (c : List Row) → Picks offers c → load_of c ⊑ best → Each After rec c

  pub record Descending (places : List ℕ) (best : Frac) (rec : List Row) : Type 0 where
    pub room : length places ≡ 16
    pub placed : (k : ℕ) → k < o.count → get_or places k 0 < get_or o.counts k 0
    pub left : (c : List Row) → Picks offers c → load_of c ⊏ best → Left o places c
    pub recorded : (best ≡ no_bound) ⊎ Recorded best rec

  abbrev pub NoneBelow : Frac → Type 0
  NoneBelow best = (c : List Row) → Picks offers c → load_of c ⊏ best → ⊥

  module _ (fine : FineOffers o) where
    -- it starts from the first rows
    pub descent_starts : (places : List ℕ) (rec : List Row) → length places ≡ 16 → ((k : ℕ) → k < o.count → get_or places k 0 ≡ 0) → Descending places no_bound rec
    descent_starts places rec l z = record {
      room = l;
      placed = λ k h. omega (arith, z k h, fine.counts_some k h);
      left = λ c p h. picks_left o places z p;
      recorded = inl refl;
    }

    module _ (places : List ℕ) (best : Frac) (rec : List Row) (d : Descending places best rec) where
      -- a smaller load is recorded
      pub descent_records : (load : Frac) → load_of (chosen places) ⊑ load → load ⊏ best → Descending places load (chosen places)
      descent_records load h l = record {
        room = d.room;
        placed = d.placed;
        left = λ c p k. d.left c p (⊏-trans (load_of_ok c) k l);
        recorded = inr (record {
          finite = smaller_finite l;
          picks = left_picks o (chosen_left o places d.placed);
          load = h;
          after = λ c p k. left_after o fine places (d.left c p (⊑-⊏-trans (load_of_ok c) k l));
        });
      }

      -- the row at the place s has a bound of at least `best`, x is held below it, and no part before j holds for x
      module _ (s x j : ℕ) (within : s < o.count) (reaches : best ⊑ bound_at (chosen places) s) (held : x ≡ held_before (chosen places) s)
          (none : (k : ℕ) → k < j → (get_or (chosen places) k no_row).holding ≡ x → ⊥) where
        lower : (c : List Row) → Picks offers c → load_of c ⊏ best → (j < s) × ((get_or c j no_row).holding < x)
        lower c p h =
            lower_holds_less (left_after o fine places (d.left c p h)) s (omega (arith, chosen_length o places)) x j held none reaches h

        -- a choice of a smaller load has a later row of the part j, if that part holds for x
        module _ (holds : j < o.count → (get_or (chosen places) j no_row).holding ≡ x) where
          moved : (c : List Row) → Picks offers c → load_of c ⊏ best → (j < o.count) × Later o j (suc (get_or places j 0)) (get_or c j no_row)
          moved c p h =
              let w = lower c p h in
              let q : j < o.count = omega (arith, w.0) in
              let l = (d.left c p h).each j q in
              let here : (offer_at o j (get_or places j 0)).holding ≡ x = rw (chosen_get o places j q) at (holds q) in
              let there : (offer_at o j l.place).holding < x = rw l.is at w.1 in (
                q,
                record {
                  place = l.place;
                  from = holds_later o fine j (get_or places j 0) l.place q (d.placed j q) l.within (omega arith);
                  within = l.within;
                  is = l.is;
                },
              )

          -- it stops where no part holds for x, or the first that does has no next row
          pub descent_stops : (j < o.count → get_or o.counts j 0 ≤ get_or places j 0 + 1) → NoneBelow best
          descent_stops last c p h = let m = moved c p h in omega (arith, last m.0, m.1.from, m.1.within)

          pub descent_moves : j < o.count → get_or places j 0 + 1 < get_or o.counts j 0 → Descending (set places j (get_or places j 0 + 1)) best rec
          descent_moves q l = record {
            room = length-set places j _ ∙ d.room;
            placed = λ k h. next_placed k h (ℕ_discrete k j);
            left = λ c p h. record { long = (d.left c p h).long; each = λ k u. next_left c p h k u (ℕ_discrete k j) };
            recorded = d.recorded;
          }
            where
              here : (v : ℕ) → get_or (set places j v) j 0 ≡ v
              here v = get_or-set_same places j v 0 (omega (arith, d.room, fine.few))

              next_placed : (k : ℕ) → k < o.count → Dec (k ≡ j) → get_or (set places j (get_or places j 0 + 1)) k 0 < get_or o.counts k 0
              next_placed k h (yes e) = rw (e, here (get_or places j 0 + 1)) l
              next_placed k h (no e) = rw (get_or-set_other places j k (get_or places j 0 + 1) 0 e) (d.placed k h)

              next_left : (c : List Row) → Picks offers c → load_of c ⊏ best → (k : ℕ) → k < o.count → Dec (k ≡ j)
                  → Later o k (get_or (set places j (get_or places j 0 + 1)) k 0) (get_or c k no_row)
              next_left c p h k u (yes e) =
                  let m = (moved c p h).1 in
                  rw (e, here (get_or places j 0 + 1)) (record { place = m.place; from = omega (arith, m.from); within = m.within; is = m.is })
              next_left c p h k u (no e) = rw (get_or-set_other places j k (get_or places j 0 + 1) 0 e) ((d.left c p h).each k u)

      -- in the end the recorded choice is the first of least load
      module _ (none : NoneBelow best) where
        no_smaller : (c : List Row) → Picks offers c → best ⊑ load_of c
        no_smaller c p = ⊎_elim (λ h. absurd (none c p h)) (λ h. h) (⊏-or-⊑ (load_of c) best)

        recorded_least : Recorded best rec → rec ≡ least_loaded (choices offers)
        recorded_least r =
            let cs = choices offers in
            let m = least_loaded cs in
            let rec-in = (choices_iff offers rec).1 r.picks in
            let p : Picks offers m = (choices_iff offers m).0 (least_loaded_member cs (member_some rec-in)) in
            let a = r.after m p (⊑_trans (load_of_ok rec) (least_loaded_least cs rec rec-in) r.load) in
            let b = least_loaded_greatest (offers_sorted o fine) rec rec-in (⊑_trans (finite_ok r.finite) r.load (no_smaller m p)) in
            let u = picks_left o [] (λ k h. refl) r.picks in
            let v = picks_left o [] (λ k h. refl) p in
            left_same o fine u v
            (λ k h. omega (arith, (each_get no_row no_row k a (omega (arith, u.long))).holds, each_get no_row no_row k b (omega (arith, v.long))))

        recorded_passes : Recorded best rec → some passes_system (choices offers) ≡ true
        recorded_passes r =
            (some_iff passes_system (choices offers)).1 (rec, (choices_iff offers rec).1 r.picks, (passes_finite rec).1 (finite_below (load_of_ok rec) r.load r.finite))

        none_passes : best ≡ no_bound → some passes_system (choices offers) ≡ false
        none_passes e = (some_none passes_system (choices offers)).1 (λ c m. fails c ((choices_iff offers c).0 m) (passes_system c) refl)
          where
            fails : (c : List Row) → Picks offers c → (b : Bool) → passes_system c ≡ b → passes_system c ≡ false
            fails c p true q = absurd (none c p (rw e (finite_smaller ((passes_finite c).0 q))))
            fails c p false q = q

        pub descent_found : ltb 0 best.den ≡ some passes_system (choices offers)
        descent_found =
            ⊎_elim (λ e. rw (none_passes e, e) refl) (λ r. rw (recorded_passes r) (lt-ltb _ _ r.finite.pos)) d.recorded

        pub descent_least : ltb 0 best.den ≡ true → rec ≡ least_loaded (choices offers)
        descent_least f = ⊎_elim (λ e. absurd (no_bound_not e f)) recorded_least d.recorded
          where
            no_bound_not : best ≡ no_bound → ltb 0 best.den ≡ true → ⊥
            no_bound_not e f = false≢true (rw e at f)
