-- Where the tasks of all parts together ask for more than the processor, no choice of kept pairs passes the system test.
-- Assumes nothing.
use Prim.Native.Nat.{ℕ, suc, ◌+◌, ◌-◌, ◌≤◌, ◌<◌}
use native.Mathlib.Omega.{arith}
use mathlib.Core.Path.{◌≡◌, refl, sym}
use mathlib.Core.Bool.{Bool, true, false, not, false≢true}
use mathlib.Core.List.{List, [], ◌∷◌, map, Memᴰ}
use lib.ListN.{length}
use borrow.Author.Tests.{ltb-true, lt-ltb}
use Rattle.least.specs.Each.{Each, none, more}
use Rattle.least.specs.Lists.{sum, some, is_empty, count_from}
use Rattle.least.proofs.Lists.{some_none, map_iff, count_from_lem}
use Rattle.least.proofs.Search.{least_iff}
use Rattle.envelope.specs.Code.Envelope.{slope_scale}
use Rattle.task_set.specs.Code.Tasks.{tasks_of}
use Rattle.task_set.specs.Code.Partition.{partition_of}
use Rattle.task_set.proofs.Places.{tasks_place}
use Rattle.load.specs.declared.Row.{Row}
use Rattle.load.specs.Load.{row, passes_system}
use Rattle.budget.specs.Budget.{least_budget}
use Rattle.utilisation.specs.Code.Utilisation.{share_in}
use Rattle.utilisation.proofs.Local.{InRange, budget_share}
use Rattle.utilisation.proofs.System.{AtLeast, rows_share}
use Rattle.selection.specs.Selection.{choices}
use Rattle.selection.proofs.Selection.{Picks, choices_iff}
use Rattle.candidates.specs.declared.Pair.{Pair}
use Rattle.candidates.specs.Statement.{Candidate}
use Rattle.candidates.proofs.Candidates.{kept_iff}
use Rattle.reader.specs.declared.PlanFile.{PlanFile}
use Rattle.answers.specs.Parts.{kept_rows}
use Rattle.offers.specs.Code.Gathered.{part_in, list_in, FineParts, utilisations, is_over}
use Rattle.offers.proofs.ByPlace.{part_rows, rows_in}

pub is_empty_lem : (cs : List Pair) → not (is_empty cs) ≡ false → length cs ≡ 0
unfolding is_empty
is_empty_lem [] e = refl
is_empty_lem (c ∷ cs) e = absurd (false≢true (sym e))

-- the shares of the parts from the place k on
module _ (f : PlanFile) where
  unfoldable pub shares_from : ℕ → ℕ
  shares_from k = sum (map (λ j. share_in (tasks_of (part_in f j))) (count_from k (f.count - k)))

  pub shares_next : (k : ℕ) → k < f.count → shares_from k ≡ share_in (tasks_of (part_in f k)) + shares_from (suc k)
  unfolding shares_from count_from sum
  shares_next k h = let e : f.count - k ≡ suc (f.count - suc k) = omega arith in rw e refl

  from_0 : shares_from 0 ≡ sum (utilisations f f.count)
  unfolding shares_from
  from_0 = let e : f.count - 0 ≡ f.count = omega arith in rw e refl

  -- the shares of all parts are more than the processor
  pub shares_over : (share k : ℕ) → f.count ≤ k → share + shares_from k ≡ shares_from 0 → slope_scale < share → is_over f ≡ true
  unfolding is_over shares_from count_from sum
  shares_over share k q e h =
      let z : f.count - k ≡ 0 = omega arith in
      lt-ltb slope_scale (sum (utilisations f f.count)) (omega (arith, rw z at e, from_0))

module _ (f : PlanFile) (fine : FineParts f) where
  tasks_in_range : (k : ℕ) → k < f.count → InRange (tasks_of (part_in f k))
  tasks_in_range k h t m =
      let at = tasks_place (part_in f k) (fine.fine k h) m in
      let is = (fine.fine k h).each at.0 at.1 in
      (rw at.2 (omega (arith, is.cost_some, is.cost_most, is.deadline_most)), rw at.2 is.deadline_most)

  -- the budget of a candidate is not below the share of its part
  pair-share : (k : ℕ) → k < f.count → (c : Pair) → Candidate (partition_of (part_in f k)) c → AtLeast (row (part_in f k).period c.budget c.holding) (share_in (tasks_of (part_in f k)))
  unfolding least_budget
  pair-share k h c d =
      let l = (least_iff _ (part_in f k).period c.budget).0 d.budget in
      (fine.period_some k h, budget_share (partition_of (part_in f k)) d.setting c.budget l.0.positive l.1 (tasks_in_range k h) l.0.passes)

  row_share : (k : ℕ) → k < f.count → (r : Row) → Memᴰ r (part_rows f k) → AtLeast r (share_in (tasks_of (part_in f k)))
  unfolding kept_rows
  row_share k h r m =
      let at = (map_iff (λ (c : Pair). row (part_in f k).period c.budget c.holding) r (list_in f k)).0 m in
      rw (← at.2) (pair-share k h at.0 ((kept_iff (partition_of (part_in f k)) at.0).0 at.1).candidate)

  -- one row of each of these parts
  picked : (ks : List ℕ) → ((k : ℕ) → Memᴰ k ks → k < f.count) → (c : List Row) → Picks (map (part_rows f) ks) c → Each AtLeast c (map (λ k. share_in (tasks_of (part_in f k))) ks)
  picked [] within (r ∷ c) x3 = elim x3 [ ]
  picked (k ∷ ks) within [] x4 = elim x4 [ ]
  picked [] within [] none = none
  picked (k ∷ ks) within (r ∷ c) (more m rest) = more (row_share k (within k (Memᴰ.head refl)) r m) (picked ks (λ j q. within j (Memᴰ.tail q)) c rest)

  pub over_none : is_over f ≡ true → some passes_system (choices (rows_in f)) ≡ false
  unfolding is_over
  over_none over = (some_none passes_system (choices (rows_in f))).1 (λ c m. go c m (passes_system c) refl)
    where
      go : (c : List Row) → Memᴰ c (choices (rows_in f)) → (b : Bool) → passes_system c ≡ b → passes_system c ≡ false
      go c m false e = e
      go c m true e =
          absurd (omega (arith, ltb-true slope_scale (sum (utilisations f f.count)) over, rows_share c (utilisations f f.count) (picked (count_from 0 f.count) (λ k q. omega (arith, count_from_lem f.count 0 k q)) c ((choices_iff (rows_in f) c).0 m)) e))
