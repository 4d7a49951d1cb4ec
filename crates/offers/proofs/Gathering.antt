-- The kept lists of the parts, gathered one after another.
-- Assumes nothing.
use Prim.Native.Nat.{ℕ, ◌+◌, ◌*◌, ◌≤◌, ◌<◌}
use native.Mathlib.Omega.{arith}
use native.Mathlib.Decide.{ℕ_discrete}
use mathlib.Core.Path.{◌≡◌, sym, ap, subst, ◌∙◌}
use mathlib.Core.Logic.{inl}
use mathlib.Core.List.{List}
use lib.ListN.{length, take, get_or, length-set}
use lib.Seq.{get_or-take, length-take-le, get_or-set_same, get_or-set_other}
use Rattle.least.proofs.Members.{get_d_any}
use Rattle.least.proofs.Pad.{get_d_pad}
use Rattle.refusal.specs.Limits.{number_limit, kept_limit}
use Rattle.task_set.specs.Code.Partition.{partition_of}
use Rattle.task_set.specs.Code.Fine.{FinePart}
use Rattle.task_set.proofs.Places.{tasks_length}
use Rattle.candidates.specs.declared.Pair.{Pair}
use Rattle.candidates.specs.declared.Kept.{Kept}
use Rattle.candidates.specs.Candidates.{pair, kept_answer}
use Rattle.candidates.proofs.Few.{kept_few}
use Rattle.selection.specs.declared.Offers.{Offers}
use Rattle.reader.specs.declared.PartRead.{PartRead}
use Rattle.reader.specs.declared.PlanFile.{PlanFile}
use Rattle.reader.specs.Code.Reader.{blank_part}
use Rattle.offers.specs.Code.Gathered.{part_in, list_in, FineParts, OfferRoom, StoredAt, OfferedAt}

-- the parts, read in the order of the file
module _ (f : PlanFile) (fine : FineParts f) where
  abbrev parts : List PartRead
  parts = take f.count f.parts

  pub parts_long : length parts ≡ f.count
  parts_long = length-take-le f.count f.parts (omega (arith, fine.few, fine.room))

  pub part_read : (k : ℕ) → k < length parts → get_or parts k blank_part ≡ get_or f.parts k blank_part
  part_read k h = get_or-take f.count f.parts k blank_part (omega (arith, parts_long))

  -- they are in range
  pub part_fine : (k : ℕ) → k < length parts
      → let p = (get_or parts k blank_part).part in
      FinePart p × (1 ≤ p.period) × (p.period ≤ number_limit)
  part_fine k h =
      let l : k < f.count = omega (arith, parts_long) in
      rw (part_read k h) (fine.fine k l, fine.period_some k l, fine.period_most k l)

  pub item_fine : (p : PartRead) (k : ℕ) → k < length parts → p ≡ get_or parts k p → FinePart p.part × (1 ≤ p.part.period) × (p.part.period ≤ number_limit)
  item_fine p k h e =
      subst (λ (q : PartRead). FinePart q.part × (1 ≤ q.part.period) × (q.part.period ≤ number_limit)) (sym (e ∙ get_d_any parts k p blank_part h)) (part_fine k h)

pub list_most : (f : PlanFile) → FineParts f → (k : ℕ) → k < f.count → length (list_in f k) ≤ kept_limit
list_most f fine k h =
    let p = fine.fine k h in
    kept_few (partition_of (part_in f k)) (omega (arith, tasks_length (part_in f k) p, p.few))

-- what is stored at the place k is what the part there offers, and what is there stays
module _ (f : PlanFile) (fine : FineParts f) {o next : Offers} (k : ℕ) (kept : Kept) (room : OfferRoom o) (h : k < f.count) (is : kept ≡ kept_answer (list_in f k)) (some : 1 ≤ length (list_in f k)) (s : StoredAt k (part_in f k).period kept o next) where
  count_is : kept.count ≡ length (list_in f k)
  unfolding kept_answer
  count_is = ap (λ (x : Kept). x.count) is

  pair_is : (i : ℕ) → i < length (list_in f k) → get_or kept.pairs i (pair 0 0) ≡ get_or (list_in f k) i (pair 0 0)
  unfolding kept_answer
  pair_is i l = ap (λ (x : Kept). get_or x.pairs i (pair 0 0)) is ∙ get_d_pad kept_limit (pair 0 0) (list_in f k) i (omega (arith, list_most f fine k h))

  pub gather_room : OfferRoom next
  gather_room = record {
    periods = ap length s.periods ∙ length-set o.periods k (part_in f k).period ∙ room.periods;
    counts = ap length s.counts ∙ length-set o.counts k kept.count ∙ room.counts;
    budgets = s.budgets.room ∙ room.budgets;
    holdings = s.holdings.room ∙ room.holdings;
  }

  here : OfferedAt f next k
  here = record {
    period = ap (λ (xs : List ℕ). get_or xs k 0) s.periods ∙ get_or-set_same o.periods k (part_in f k).period 0 (omega (arith, room.periods, fine.few));
    count = ap (λ (xs : List ℕ). get_or xs k 0) s.counts ∙ get_or-set_same o.counts k kept.count 0 (omega (arith, room.counts, fine.few)) ∙ count_is;
    some = some;
    budgets_are = λ i l. s.budgets.each i (omega (arith, count_is)) ∙ ap (λ (c : Pair). c.budget) (pair_is i l);
    holdings_are = λ i l. s.holdings.each i (omega (arith, count_is)) ∙ ap (λ (c : Pair). c.holding) (pair_is i l);
  }

  kept_before : (j : ℕ) → j < k → OfferedAt f o j → OfferedAt f next j
  kept_before j l at = record {
    period = ap (λ (xs : List ℕ). get_or xs j 0) s.periods ∙ get_or-set_other o.periods k j (part_in f k).period 0 (λ q. absurd (omega arith)) ∙ at.period;
    count = ap (λ (xs : List ℕ). get_or xs j 0) s.counts ∙ get_or-set_other o.counts k j kept.count 0 (λ q. absurd (omega arith)) ∙ at.count;
    some = at.some;
    budgets_are = λ i u. s.budgets.others (kept_limit * j + i) (inl (omega (arith, list_most f fine j (omega arith)))) ∙ at.budgets_are i u;
    holdings_are = λ i u. s.holdings.others (kept_limit * j + i) (inl (omega (arith, list_most f fine j (omega arith)))) ∙ at.holdings_are i u;
  }

  pub gather_step : ((j : ℕ) → j < k → OfferedAt f o j) → (j : ℕ) → j < k + 1 → OfferedAt f next j
  gather_step before j l = at (ℕ_discrete j k)
    where
      at : Dec (j ≡ k) → OfferedAt f next j
      at (yes q) = rw q here
      at (no q) = kept_before j (omega arith) (before j (omega arith))
