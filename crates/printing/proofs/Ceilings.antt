-- The ceilings shown, part by part; and the shares of a file with these ceilings are those of its parts.
--   ShownTo f rows n cs == cs has a place for each lock of every part, and holds the ceilings shown for the first n parts
-- Assumes nothing.
use Prim.Native.Nat.{ℕ, suc, ◌+◌, ◌*◌, ◌≤◌, ◌<◌}
use native.Mathlib.Omega.{arith}
use native.Mathlib.Decide.{dec_lt}
use mathlib.Core.Path.{◌≡◌, sym, ap, ap₂, ◌∙◌}
use mathlib.Core.Logic.{inl}
use mathlib.Core.List.{List, [], ◌∷◌}
use lib.ListN.{length, take, get_or, replicate, length-replicate, length-map}
use lib.Seq.{get_or-take, length-take-le, ext_get_or}
use Rattle.least.specs.declared.Frac.{Frac}
use Rattle.least.specs.Lists.{zip3}
use Rattle.least.proofs.Zip.{zip3_get}
use Rattle.refusal.specs.Limits.{lock_limit}
use Rattle.refusal.specs.Code.Limits.{ceiling_places}
use Rattle.task_set.specs.Code.Partition.{partition_of}
use Rattle.task_set.specs.Blocking.{Setting}
use Rattle.task_set.specs.Code.ByLock.{setting_from}
use Rattle.task_set.proofs.BlockingAt.{setting_from_at}
use Rattle.candidates.specs.Candidates.{shown_ceiling}
use Rattle.load.specs.declared.Row.{Row}
use Rattle.load.specs.declared.Rows.{Rows}
use Rattle.load.specs.Weigh.{rows_of}
use Rattle.load.specs.Code.Rows.{no_frac, no_row}
use Rattle.shown.specs.Code.Shown.{ShownAre, Shown}
use Rattle.stretch.specs.Stretch.{bytes_of}
use Rattle.plan_file.specs.Numbers.{PlanPart}
use Rattle.plan_file.specs.Code.Entries.{names_of}
use Rattle.plan_file.proofs.Places.{names_length}
use Rattle.reader.specs.declared.PartRead.{PartRead}
use Rattle.reader.specs.declared.PlanFile.{PlanFile}
use Rattle.reader.specs.Code.Reader.{part_of, parts_in, blank_part, FineCounts}
use Rattle.listing.specs.Listing.{Ceiling, share_under}
use Rattle.listing.proofs.Ceilings.{ceilings_agree}
use Rattle.reader.proofs.Handed.{part_at_lem}
use Rattle.answers.specs.Parts.{share_of, shares_of}
use Rattle.printing.specs.declared.Listing.{Listing}
use Rattle.printing.specs.Code.ToPrint.{FineFile}
use Rattle.printing.specs.Code.Printing.{no_share, shares_in, EachFine, AllShownAre}
use Rattle.printing.proofs.Shares.{shares_count, share_at}

abbrev read_at : PlanFile → ℕ → PartRead
read_at f k = get_or f.parts k blank_part

abbrev row_at : Rows → ℕ → Row
row_at rows k = get_or rows.rows k no_row

pub record ShownTo (f : PlanFile) (rows : Rows) (n : ℕ) (cs : List ℕ) : Type 0 where
  pub room : length cs ≡ ceiling_places
  pub each : (k : ℕ) → k < n → ShownAre (partition_of (read_at f k).part) (row_at rows k).holding k cs

module _ (f : PlanFile) (rows : Rows) where
  pub shown_start : ShownTo f rows 0 (replicate ceiling_places 0)
  shown_start = record { room = length-replicate {A = ℕ} ceiling_places 0; each = λ k l. absurd (omega arith) }

  -- the part at the place n is the next
  pub shown_more : EachFine f → (n : ℕ) (before after : List ℕ) → n < f.count → ShownTo f rows n before → Shown (partition_of (read_at f n).part) (row_at rows n).holding n before after
      → ShownTo f rows (n + 1) after
  shown_more fine n before after h to next = record { room = next.room ∙ to.room; each = λ k l. at k l (dec_lt k n) }
    where
      at : (k : ℕ) → k < n + 1 → Dec (k < n) → ShownAre (partition_of (read_at f k).part) (row_at rows k).holding k after
      at k l (yes u) = λ j m. next.others (lock_limit * k + j) (inl (omega (arith, (fine k (omega arith)).few_locks))) ∙ to.each k u j m
      at k l (no u) = let e : k ≡ n = omega arith in rw e next.each

share_agree : (name : List ℕ) (locks : List (List ℕ)) (σ τ : Setting) (r : Row) (b : Frac) → ((j : ℕ) → j < length locks → σ (1 + j) ≡ τ (1 + j)) → share_under name locks σ r b ≡ share_under name locks τ r b
unfolding share_under
share_agree name locks σ τ r b same =
    ap (λ (ceilings : List Ceiling). record { name = name; row = r; bound = b; ceilings = ceilings }) (ceilings_agree σ τ 1 locks same)

share_shown : (s : List ℕ) (p : PartRead) (r : Row) (b : Frac) (k : ℕ) (cs : List ℕ) → FineCounts p → ShownAre (partition_of p.part) r.holding k cs
    → share_under (bytes_of s p.name) (names_of s p.locks) (setting_from cs (lock_limit * k)) r b ≡ share_of (part_of s p) r b
unfolding part_of
share_shown s p r b k cs fine shown =
    let count : length (names_of s p.locks) ≡ p.part.locks = names_length s p.locks fine.names ∙ sym fine.locks_are in
    let σ = setting_from cs (lock_limit * k) in
    let τ = shown_ceiling (partition_of p.part) r.holding in
    share_agree (bytes_of s p.name) (names_of s p.locks) σ τ r b
    (λ j h. let e : 1 + j ≡ suc j = omega arith in ap σ e ∙ setting_from_at cs (lock_limit * k) j ∙ shown j (omega (arith, count)) ∙ ap τ (sym e))

zip3_length : {A B C D : Type 0} (f : A → B → C → D) (n : ℕ) (xs : List A) (ys : List B) (zs : List C) → length xs ≡ n → length ys ≡ n → length zs ≡ n → length (zip3 f xs ys zs) ≡ n
unfolding zip3
zip3_length f n [] ys zs h i j = h
zip3_length f n (x ∷ xs) [] zs h i j = i
zip3_length f n (x ∷ xs) (y ∷ ys) [] h i j = j
zip3_length f n (x ∷ xs) (y ∷ ys) (z ∷ zs) h i j = let e = zip3_length f (length xs) xs ys zs (omega arith) (omega arith) (omega arith) in omega arith

module _ (l : Listing) where
  abbrev f : PlanFile
  f = l.plan.now

  abbrev bounds : List Frac
  bounds = l.weighed.now.bounds

  -- with the ceilings shown, the shares are those of the parts
  pub shares_shown : FineFile f → l.rows.now.count ≡ f.count → f.count ≤ length l.rows.now.rows → f.count ≤ length bounds → AllShownAre l
      → shares_in l ≡ shares_of (parts_in l.file.now f) (rows_of l.rows.now) (take f.count bounds)
  unfolding rows_of
  shares_shown fine count rows_room bounds_room shown =
      ext_get_or no_share (shares_in l) (shares_of ps rs bs) (shares_count l ∙ sym long) same
      ∙ ap (λ (m : ℕ). shares_of ps (take m l.rows.now.rows) bs) (sym count)
    where
      ps : List PlanPart
      ps = parts_in l.file.now f

      rs : List Row
      rs = take f.count l.rows.now.rows

      bs : List Frac
      bs = take f.count bounds

      ps_long : length ps ≡ f.count
      ps_long = length-map (take f.count f.parts) (part_of l.file.now) ∙ length-take-le f.count f.parts (omega (arith, fine.few, fine.room))

      rs_long : length rs ≡ f.count
      rs_long = length-take-le f.count l.rows.now.rows rows_room

      bs_long : length bs ≡ f.count
      bs_long = length-take-le f.count bounds bounds_room

      long : length (shares_of ps rs bs) ≡ f.count
      long = zip3_length share_of f.count ps rs bs ps_long rs_long bs_long

      same : (k : ℕ) → k < length (shares_in l) → get_or (shares_in l) k no_share ≡ get_or (shares_of ps rs bs) k no_share
      same k i =
          let h : k < f.count = omega (arith, shares_count l) in
          share_at l k h
          ∙ share_shown l.file.now (read_at f k) (row_at l.rows.now k) (get_or bounds k no_frac) k l.ceilings.now (fine.counts k h) (shown k h)
          ∙ sym (zip3_get share_of no_share (part_of l.file.now blank_part) no_row no_frac k ps rs bs (omega (arith, ps_long)) (omega (arith, rs_long)) (omega (arith, bs_long))
          ∙ ap (λ (p : PlanPart). share_of p (get_or rs k no_row) (get_or bs k no_frac)) (part_at_lem l.file.now f k blank_part h)
          ∙ ap₂ (share_of (part_of l.file.now (read_at f k))) (get_or-take f.count l.rows.now.rows k no_row h) (get_or-take f.count bounds k no_frac h))
