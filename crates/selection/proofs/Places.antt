-- The rows that parts offer, by their places in the arrays.
--   Later k a r      == r is a row of the part k, at the place a or behind it
--   Left places c    == a choice whose every row is Later than the place of its part
--   chosen_at places == the choice of the rows at these places
-- Assumes nothing.
use Prim.Native.Nat.{ℕ, zero, suc, ◌+◌, ◌-◌, ◌≤◌, ◌<◌}
use native.Mathlib.Nat.{le_refl}
use native.Mathlib.Omega.{arith}
use native.Mathlib.Decide.{dec_lt, ℕ_discrete}
use mathlib.Core.Path.{◌≡◌, refl, sym, ap, ◌∙◌}
use mathlib.Core.List.{List, [], map, Memᴰ}
use lib.ListN.{length, get_or}
use lib.Seq.{ext_get_or}
use Rattle.least.specs.Lists.{count_from}
use Rattle.least.specs.Each.{Each}
use Rattle.least.proofs.Each.{each_get, each_places, length_equal}
use Rattle.least.proofs.Columns.{column_length, column_get}
use Rattle.least.proofs.Members.{place_of, get_d_member}
use Rattle.load.specs.declared.Row.{Row}
use Rattle.load.specs.Code.Rows.{no_row}
use Rattle.selection.specs.declared.Offers.{Offers}
use Rattle.selection.specs.Code.Choosing.{offer_at, offers_of, FineOffers}
use Rattle.selection.proofs.Selection.{Picks}
use Rattle.selection.proofs.Greatest.{After, Falling, Sorted}

module _ (o : Offers) where
  abbrev offer : ℕ → ℕ → Row
  offer k i = offer_at o k i

  abbrev count : ℕ → ℕ
  count k = get_or o.counts k 0

  abbrev rows_of : ℕ → List Row
  rows_of k = map (offer k) (count_from 0 (count k))

  abbrev offers : List (List Row)
  offers = offers_of o

  pub record Later (k a : ℕ) (r : Row) : Type 0 where
    pub place : ℕ
    pub from : a ≤ place
    pub within : place < count k
    pub is : r ≡ offer k place

  pub record Left (places : List ℕ) (c : List Row) : Type 0 where
    pub long : length c ≡ o.count
    pub each : (k : ℕ) → k < o.count → Later k (get_or places k 0) (get_or c k no_row)

  unfoldable pub chosen_at : List ℕ → List Row
  chosen_at places = map (λ k. offer k (get_or places k 0)) (count_from 0 o.count)

  pub chosen_length : (places : List ℕ) → length (chosen_at places) ≡ o.count
  unfolding chosen_at
  chosen_length places = column_length _ o.count

  pub chosen_get : (places : List ℕ) (k : ℕ) → k < o.count → get_or (chosen_at places) k no_row ≡ offer k (get_or places k 0)
  unfolding chosen_at
  chosen_get places k h = column_get _ no_row k o.count h

  -- every choice is left at the beginning
  pub offers_length : length offers ≡ o.count
  unfolding offers_of
  offers_length = column_length _ o.count

  pub offers_get : (k : ℕ) → k < o.count → get_or offers k [] ≡ rows_of k
  unfolding offers_of
  offers_get k h = column_get _ [] k o.count h

  row_later : (k : ℕ) (r : Row) → Memᴰ r (rows_of k) → Later k 0 r
  row_later k r m =
      let p = place_of no_row (rows_of k) m in
      let l : p.0 < count k = omega (arith, p.1, column_length (offer k) (count k)) in
      record { place = p.0; from = omega arith; within = l; is = p.2 ∙ column_get (offer k) no_row p.0 (count k) l }

  pub picks_left : (places : List ℕ) → ((k : ℕ) → k < o.count → get_or places k 0 ≡ 0) → {c : List Row} → Picks offers c → Left places c
  picks_left places z {c} p =
      record {
        long = sym (length_equal p) ∙ offers_length;
        each = λ k h. rw (z k h) (row_later k _ (rw (offers_get k h) at (each_get [] no_row k p (omega (arith, offers_length)))));
      }

  later_row : (k a : ℕ) {r : Row} → Later k a r → Memᴰ r (rows_of k)
  later_row k a l =
      let m = get_d_member (rows_of k) l.place no_row (omega (arith, l.within, column_length (offer k) (count k))) in
      rw l.is (rw (column_get (offer k) no_row l.place (count k) l.within) at m)

  pub left_picks : {places : List ℕ} {c : List Row} → Left places c → Picks offers c
  left_picks {places} {c} l =
      each_places [] no_row offers c (offers_length ∙ sym l.long) (λ k h. let q : k < o.count = omega (arith, offers_length) in rw (offers_get k q) (later_row k (get_or places k 0) (l.each k q)))

  -- the rows at the places are left, if there are such places
  pub chosen_left : (places : List ℕ) → ((k : ℕ) → k < o.count → get_or places k 0 < count k) → Left places (chosen_at places)
  chosen_left places h =
      record { long = chosen_length places; each = λ k l. record { place = get_or places k 0; from = le_refl _; within = h k l; is = chosen_get places k l } }

  module _ (fine : FineOffers o) where
    -- along the rows of a part
    next_after : (k i : ℕ) → k < o.count → suc i < count k → After (offer k i) (offer k (suc i))
    next_after k i h l = record { period = refl; sums = fine.rises k i h l; holds = omega (arith, fine.falls k i h l) }

    offer_after : (k : ℕ) → k < o.count → (d i : ℕ) → i + d < count k → After (offer k i) (offer k (i + d))
    offer_after k h zero i l = let e : i + 0 ≡ i = omega arith in rw e (record { period = refl; sums = le_refl _; holds = le_refl _ })
    offer_after k h (suc d) i l =
        let e : i + suc d ≡ suc i + d = omega arith in
        let a = next_after k i h (omega arith) in
        let b = offer_after k h d (suc i) (omega arith) in
        rw e (record { period = refl; sums = omega (arith, a.sums, b.sums); holds = omega (arith, a.holds, b.holds) })

    offer_falls : (k : ℕ) → k < o.count → (d i : ℕ) → i + suc d < count k → (offer k (i + suc d)).holding < (offer k i).holding
    offer_falls k h d i l =
        let e : i + suc d ≡ suc i + d = omega arith in
        let b = offer_after k h d (suc i) (omega arith) in
        rw e (omega (arith, b.holds, fine.falls k i h (omega arith)))

    -- a row that holds no longer than another of its part does not stand before it
    pub holds_later : (k i j : ℕ) → k < o.count → i < count k → j < count k → (offer k j).holding < (offer k i).holding → i < j
    holds_later k i j h l m q = go (dec_lt i j)
      where
        go : Dec (i < j) → i < j
        go (yes p) = p
        go (no p) = let e : j + (i - j) ≡ i = omega arith in absurd (omega (arith, rw e at (offer_after k h (i - j) j (omega arith)).holds))

    pub holds_same : (k i j : ℕ) → k < o.count → i < count k → j < count k → (offer k i).holding ≡ (offer k j).holding → i ≡ j
    holds_same k i j h l m q = go (ℕ_discrete i j)
      where
        behind : (a b : ℕ) → a < b → b < count k → (offer k b).holding < (offer k a).holding
        behind a b p r = let e : a + suc (b - suc a) ≡ b = omega arith in rw e at (offer_falls k h (b - suc a) a (omega arith))

        go : Dec (i ≡ j) → i ≡ j
        go (yes p) = p
        go (no p) = apart (dec_lt i j)
          where
            apart : Dec (i < j) → i ≡ j
            apart (yes r) = absurd (omega (arith, behind i j r m))
            apart (no r) = absurd (omega (arith, behind j i (omega arith) l))

    -- what is left comes after the rows at the places
    pub left_after : (places : List ℕ) {c : List Row} → Left places c → Each After (chosen_at places) c
    left_after places {c} l = each_places no_row no_row (chosen_at places) c (chosen_length places ∙ sym l.long) after
      where
        after : (k : ℕ) → k < length (chosen_at places) → After (get_or (chosen_at places) k no_row) (get_or c k no_row)
        after k h =
            let q : k < o.count = omega (arith, chosen_length places) in
            let r = l.each k q in
            let e : get_or places k 0 + (r.place - get_or places k 0) ≡ r.place = omega (arith, r.from) in
            rw (chosen_get places k q, r.is) (rw e at (offer_after k q (r.place - get_or places k 0) (get_or places k 0) (omega (arith, r.within))))

    -- two choices with the same holding times are the same
    pub left_same : {places others : List ℕ} {b c : List Row} → Left places b → Left others c → ((k : ℕ) → k < o.count → (get_or b k no_row).holding ≡ (get_or c k no_row).holding) → b ≡ c
    left_same {places} {others} {b} {c} l m same = ext_get_or no_row b c (l.long ∙ sym m.long) (λ k h. let q : k < o.count = omega (arith, l.long) in at k q (l.each k q) (m.each k q))
      where
        at : (k : ℕ) (q : k < o.count) → Later k (get_or places k 0) (get_or b k no_row) → Later k (get_or others k 0) (get_or c k no_row) → get_or b k no_row ≡ get_or c k no_row
        at k q u v =
            let h : (offer k u.place).holding ≡ (offer k v.place).holding = sym (ap (λ r. r.holding) u.is) ∙ same k q ∙ ap (λ r. r.holding) v.is in
            u.is ∙ ap (offer k) (holds_same k u.place v.place q u.within v.within h) ∙ sym v.is

    -- the rows of every part are falling
    rows_falling : (k : ℕ) → k < o.count → (m a : ℕ) → a + m ≤ count k → Falling (map (offer k) (count_from a m))
    unfolding count_from
    rows_falling k h zero a l = Falling.empty
    rows_falling k h (suc zero) a l = Falling.single
    rows_falling k h (suc (suc m)) a l = Falling.next (next_after k a h (omega arith)) (rows_falling k h (suc m) (suc a) (omega arith))

    parts_sorted : (m a : ℕ) → a + m ≤ o.count → Sorted (map rows_of (count_from a m))
    unfolding count_from
    parts_sorted zero a l = Sorted.no_part
    parts_sorted (suc m) a l = Sorted.part (rows_falling a (omega arith) (count a) 0 (omega arith)) (parts_sorted m (suc a) (omega arith))

    pub offers_sorted : Sorted offers
    unfolding offers_of
    offers_sorted = parts_sorted o.count 0 (omega arith)
