-- What is gathered, as the rows that the parts offer: those of their kept pairs, in order and in range.
-- Assumes nothing.
use Prim.Native.Nat.{ℕ, zero, suc, ◌≤◌, ◌<◌}
use native.Mathlib.Omega.{arith}
use mathlib.Core.Path.{◌≡◌, refl, sym, ◌∙◌}
use mathlib.Core.List.Memᴰ
use mathlib.Core.List.{List, [], ◌∷◌, map}
use lib.ListN.{length, get_or, length-map, get_or-map}
use lib.Seq.{ext_get_or}
use Rattle.least.specs.Lists.{count_from}
use Rattle.least.proofs.Lists.{map_same, count_from_lem}
use Rattle.least.proofs.Columns.{column_length, column_get}
use Rattle.least.proofs.Members.{get_d_member}
use Rattle.least.proofs.Pairwise.{Pairwise}
use Rattle.task_set.specs.Code.Partition.{partition_of}
use Rattle.load.specs.Load.{row}
use Rattle.load.specs.Code.Rows.{FineRow}
use Rattle.budget.proofs.Passing.{budget_iff}
use Rattle.selection.specs.Code.Choosing.{offer_at, offers_of, FineOffers}
use Rattle.candidates.specs.Candidates.{pair}
use Rattle.candidates.proofs.Candidates.{kept_iff}
use Rattle.candidates.proofs.Walk.{Behind, kept_ordered}
use Rattle.candidates.proofs.Turn.{candidate_small}
use Rattle.selection.specs.declared.Offers.{Offers}
use Rattle.reader.specs.declared.PlanFile.{PlanFile}
use Rattle.answers.specs.Parts.{kept_rows}
use Rattle.offers.specs.Code.Gathered.{part_in, list_in, FineParts, OfferedAt}
use Rattle.offers.proofs.ByPlace.{part_rows, rows_in}
use Rattle.offers.proofs.Gathering.{list_most}

-- two neighbours in a list
neighbours : {A : Type 0} {R : A → A → Type 0} (d : A) (xs : List A) → Pairwise R xs → (i : ℕ) → suc i < length xs → R (get_or xs i d) (get_or xs (suc i) d)
neighbours d [] p i h = absurd (omega arith)
neighbours d (x ∷ []) p i h = absurd (omega arith)
neighbours d (x ∷ y ∷ xs) (Pairwise.more r p) zero h = r y (Memᴰ.head refl)
neighbours d (x ∷ y ∷ xs) (Pairwise.more r p) (suc i) h = neighbours d (y ∷ xs) p i (omega arith)

module _ (f : PlanFile) (fine : FineParts f) (o : Offers) (count : o.count ≡ f.count) (all : (k : ℕ) → k < f.count → OfferedAt f o k) where
  -- the row at a place
  offer_is : (k i : ℕ) → k < f.count → i < length (list_in f k) → offer_at o k i ≡ row (part_in f k).period (get_or (list_in f k) i (pair 0 0)).budget (get_or (list_in f k) i (pair 0 0)).holding
  offer_is k i h l =
      let at = all k h in
      λ j. record { period = at.period j; budget = at.budgets_are i l j; holding = at.holdings_are i l j }

  part_offers : (k : ℕ) → k < f.count → map (offer_at o k) (count_from 0 (get_or o.counts k 0)) ≡ part_rows f k
  unfolding kept_rows
  part_offers k h =
      rw (all k h).count
      (ext_get_or (row (part_in f k).period 0 0) _ _
      (column_length (offer_at o k) (length (list_in f k)) ∙ sym (length-map (list_in f k) _))
      (λ i l.
      let m : i < length (list_in f k) = omega (arith, column_length (offer_at o k) (length (list_in f k))) in
      column_get (offer_at o k) (row (part_in f k).period 0 0) i (length (list_in f k)) m ∙ offer_is k i h m ∙ sym (get_or-map (λ c. row (part_in f k).period c.budget c.holding) (list_in f k) i (pair 0 0))))

  pub offers_are : offers_of o ≡ rows_in f
  unfolding offers_of
  offers_are = rw count (map_same _ _ (count_from 0 f.count) (λ k m. part_offers k (omega (arith, (count_from_lem f.count 0 k m).1))))

  -- a kept pair's numbers
  kept_fine : (k i : ℕ) → (h : k < f.count) → i < length (list_in f k) → FineRow (row (part_in f k).period (get_or (list_in f k) i (pair 0 0)).budget (get_or (list_in f k) i (pair 0 0)).holding)
  kept_fine k i h l =
      let c = ((kept_iff (partition_of (part_in f k)) _).0 (get_d_member (list_in f k) i (pair 0 0) l)).candidate in
      let s = candidate_small (part_in f k) (fine.fine k h) _ c in
      let b = (budget_iff (partition_of (part_in f k)) c.setting _).0 c.budget in
      record { period_some = fine.period_some k h; period_most = fine.period_most k h; budget_some = b.0.positive; budget_most = omega (arith, s.0, fine.period_most k h); holding_most = s.1 }

  in_order : (k i : ℕ) → k < f.count → suc i < length (list_in f k) → Behind (get_or (list_in f k) i (pair 0 0)) (get_or (list_in f k) (suc i) (pair 0 0))
  in_order k i h l = neighbours (pair 0 0) (list_in f k) (kept_ordered (partition_of (part_in f k))) i l

  pub offers_fine : 1 ≤ f.count → FineOffers o
  offers_fine some = record {
    some = omega (arith, count);
    few = omega (arith, count, fine.few);
    counts_some = λ k h. let l : k < f.count = omega (arith, count) in omega (arith, (all k l).count, (all k l).some);
    counts_most = λ k h. let l : k < f.count = omega (arith, count) in omega (arith, (all k l).count, list_most f fine k l);
    fine = λ k i h m.
        let l : k < f.count = omega (arith, count) in
        let n : i < length (list_in f k) = omega (arith, (all k l).count) in
        rw (offer_is k i l n) (kept_fine k i l n);
    falls = λ k i h m.
        let l : k < f.count = omega (arith, count) in
        let n : suc i < length (list_in f k) = omega (arith, (all k l).count) in
        omega (arith, (all k l).holdings_are i (omega arith), (all k l).holdings_are (suc i) n, (in_order k i l n).holding);
    rises = λ k i h m.
        let l : k < f.count = omega (arith, count) in
        let n : suc i < length (list_in f k) = omega (arith, (all k l).count) in
        omega (arith, (all k l).holdings_are i (omega arith), (all k l).holdings_are (suc i) n, (all k l).budgets_are i (omega arith), (all k l).budgets_are (suc i) n, (in_order k i l n).sum);
  }
