-- The kept lists of the parts of a file, as what they offer.
--   part_in f k                     == the part at the place k of a file that was read
--   list_in f k                     == its kept list
--   FineParts f                     == the numbers of the parts are in range
--   OfferRoom o                     == there is a place for each pair of every part
--   StoredAt k P kept before after  == `after` is `before` with the period P and these pairs at the place k
--   OfferedAt f o k                 == at the place k stand the period and the kept pairs of the part there, and there are some
--   utilisations f n                == for how much of the processor each of the first n parts asks, in parts of slope_scale, rounded down
--   is_over f                       == the tasks of all parts together ask for more than the processor
-- Assumes nothing.
use Rattle.std.specs.Prelude.{ℕ, ◌+◌, ◌*◌, ◌≤◌, ◌<◌, ◌≡◌, Bool, List, map, ltb, length, set, get_or}
use Rattle.least.specs.Lists.{sum, count_from}
use Rattle.least.specs.Code.Stored.{Stored}
use Rattle.refusal.specs.Limits.{number_limit, part_limit, kept_limit}
use Rattle.refusal.specs.Code.Limits.{offer_places}
use Rattle.envelope.specs.Code.Envelope.{slope_scale}
use Rattle.task_set.specs.declared.Part.{Part}
use Rattle.task_set.specs.Code.Tasks.{tasks_of}
use Rattle.task_set.specs.Code.Partition.{partition_of}
use Rattle.task_set.specs.Code.Fine.{FinePart}
use Rattle.utilisation.specs.Code.Utilisation.{share_in}
use Rattle.candidates.specs.declared.Pair.{Pair}
use Rattle.candidates.specs.declared.Kept.{Kept}
use Rattle.candidates.specs.Candidates.{pair, kept_list}
use Rattle.selection.specs.declared.Offers.{Offers}
use Rattle.reader.specs.declared.PlanFile.{PlanFile}
use Rattle.reader.specs.Code.Reader.{blank_part}

abbrev pub part_in : PlanFile → ℕ → Part
part_in f k = (get_or f.parts k blank_part).part

abbrev pub list_in : PlanFile → ℕ → List Pair
list_in f k = kept_list (partition_of (part_in f k))

pub record FineParts (f : PlanFile) : Type 0 where
  pub few : f.count ≤ part_limit
  pub room : length f.parts ≡ part_limit
  pub fine : (k : ℕ) → k < f.count → FinePart (part_in f k)
  pub period_some : (k : ℕ) → k < f.count → 1 ≤ (part_in f k).period
  pub period_most : (k : ℕ) → k < f.count → (part_in f k).period ≤ number_limit

pub record OfferRoom (o : Offers) : Type 0 where
  pub periods : length o.periods ≡ part_limit
  pub counts : length o.counts ≡ part_limit
  pub budgets : length o.budgets ≡ offer_places
  pub holdings : length o.holdings ≡ offer_places

pub record StoredAt (k P : ℕ) (kept : Kept) (before after : Offers) : Type 0 where
  pub periods : after.periods ≡ set before.periods k P
  pub counts : after.counts ≡ set before.counts k kept.count
  pub budgets : Stored (λ i. (get_or kept.pairs i (pair 0 0)).budget) (kept_limit * k) kept.count before.budgets after.budgets
  pub holdings : Stored (λ i. (get_or kept.pairs i (pair 0 0)).holding) (kept_limit * k) kept.count before.holdings after.holdings
  pub count : after.count ≡ before.count

pub record OfferedAt (f : PlanFile) (o : Offers) (k : ℕ) : Type 0 where
  pub period : get_or o.periods k 0 ≡ (part_in f k).period
  pub count : get_or o.counts k 0 ≡ length (list_in f k)
  pub some : 1 ≤ length (list_in f k)
  pub budgets_are : (i : ℕ) → i < length (list_in f k) → get_or o.budgets (kept_limit * k + i) 0 ≡ (get_or (list_in f k) i (pair 0 0)).budget
  pub holdings_are : (i : ℕ) → i < length (list_in f k) → get_or o.holdings (kept_limit * k + i) 0 ≡ (get_or (list_in f k) i (pair 0 0)).holding

abbrev pub utilisations : PlanFile → ℕ → List ℕ
utilisations f n = map (λ k. share_in (tasks_of (part_in f k))) (count_from 0 n)

unfoldable pub is_over : PlanFile → Bool
is_over f = ltb slope_scale (sum (utilisations f f.count))
