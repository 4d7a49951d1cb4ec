-- The parts that were read line by line, marked one after another, are the parts of the file.
--   Gathered s f codes k         == `codes` begins with the first k rows of numbers of f, and no number stands behind them
--   Marking marks before after k == `after` is `before` with the parts at the places below k marked
-- Assumes nothing.
use Prim.Native.Nat.{ℕ, ◌+◌, ◌≤◌, ◌<◌}
use native.Mathlib.Numerals.{add-one}
use native.Mathlib.Omega.{arith}
use native.Mathlib.Decide.{ℕ_discrete}
use mathlib.Core.Path.{◌≡◌, refl, sym, ap, ap₂, subst, ◌∙◌}
use mathlib.Core.Bool.{Bool}
use mathlib.Core.List.{List, [], ◌∷◌, ◌++◌, map, map-map}
use Rattle.std.proofs.Common.{Option}
use Rattle.std.proofs.lemmas.List.{get_or-replicate}
use lib.ListN.{length, take, get_or, set, replicate, length-map, length-set, length-replicate, get_or-map}
use lib.Seq.{take-suc, take-suc-set, take_all, get_or-take, get_or-set_same, get_or-set_other, length-take-le}
use Rattle.least.specs.Lists.{pad}
use Rattle.least.proofs.Pad.{pad_none}
use Rattle.least.proofs.Places.{get-map, map-take_each}
use Rattle.refusal.specs.Limits.{part_limit, lock_limit}
use Rattle.refusal.specs.Questions.Answer.{answered}
use Rattle.task_set.specs.Code.Tasks.{tasks_of}
use Rattle.plan_file.specs.Above.{FilePart, no_part, lock_names}
use Rattle.plan_file.specs.Numbers.{PlanPart, is_shared_in, plan_part, plan_parts, numbered}
use Rattle.plan_file.proofs.Numbering.{read_from_fine}
use Rattle.stretch.specs.Stretch.{bytes_of}
use Rattle.plan_file.specs.Code.Entries.{names_of}
use Rattle.sharing.specs.Code.Sharing.{row_of, marks_at, numbers_of, codes_over, marks_by_number}
use Rattle.sharing.proofs.Named.{rows_of, marks_are}
use Rattle.sharing.proofs.Numbered.{over_none, marks_by_number_marks_at}
use Rattle.reader.specs.declared.PartRead.{PartRead}
use Rattle.reader.specs.declared.PlanFile.{PlanFile}
use Rattle.reader.specs.Code.Reader.{part_of, parts_in, spans_in, blank_part, FineCounts, part_alone, rows_in, numbers_in, marked, LinesFrom, SharedMarked, ReadFromIs}

-- a row in which no number stands yet
abbrev no_numbers : List ℕ
no_numbers = pad lock_limit 0 []

pub record Gathered (s : List ℕ) (f : PlanFile) (codes : List (List ℕ)) (k : ℕ) : Type 0 where
  pub room : length codes ≡ part_limit
  pub below : take k codes ≡ take k (numbers_in s f)
  pub above : (i : ℕ) → k ≤ i → i < part_limit → get_or codes i [] ≡ no_numbers

pub gathered_start : (s : List ℕ) (f : PlanFile) → Gathered s f (replicate part_limit (replicate {A = ℕ} lock_limit 0)) 0
gathered_start s f = record {
  room = length-replicate part_limit (replicate {A = ℕ} lock_limit 0);
  below = refl;
  above = λ i h l. get_or-replicate part_limit i (replicate {A = ℕ} lock_limit 0) [] l ∙ pad_none {A = ℕ} lock_limit 0;
}

-- with the row of one part more
pub gathered_step : (s : List ℕ) (f : PlanFile) (codes : List (List ℕ)) (k : ℕ) (d : PartRead) → Gathered s f codes k → k < length (take f.count f.parts) → k < part_limit → Gathered s f (set codes k (numbers_of s (get_or (take f.count f.parts) k d).locks)) (k + 1)
gathered_step s f codes k d g h l =
    let parts = take f.count f.parts in
    let row : PartRead → List ℕ = λ p. numbers_of s p.locks in
    record {
      room = length-set codes k _ ∙ g.room;
      below = rw (add-one k, take-suc-set codes k _ (omega (arith, g.room)), take-suc (numbers_in s f) k [] (rw (length-map parts row) h), get-map row parts k d [] h) (ap (λ (rows : List (List ℕ)). rows ++ (row (get_or parts k d) ∷ [])) g.below);
      above = λ i m n. get_or-set_other codes k i _ [] (λ q. absurd (omega (arith, q))) ∙ g.above i (omega arith) n;
    }

-- which its numbers are over a row in which none stands yet
pub gathered_over : (s : List ℕ) (f : PlanFile) (codes : List (List ℕ)) (k : ℕ) (d : PartRead) → Gathered s f codes k → k < length (take f.count f.parts) → k < part_limit
    → FineCounts (get_or (take f.count f.parts) k d) → Gathered s f (set codes k (codes_over s (get_or (take f.count f.parts) k d).locks (get_or codes k []))) (k + 1)
unfolding names_of
gathered_over s f codes k d g h l fine =
    let ns = (get_or (take f.count f.parts) k d).locks in
    let few : ns.count ≤ lock_limit = omega (arith, fine.few_locks, fine.locks_are) in
    let all : length (names_of s ns) ≡ ns.count = length-map (take ns.count ns.span) (bytes_of s) ∙ length-take-le ns.count ns.span (omega (arith, few, fine.names.room)) in
    let now : codes_over s ns (get_or codes k []) ≡ numbers_of s ns = ap (codes_over s ns) (g.above k (omega arith) l) ∙ over_none s ns few all in
    rw now (gathered_step s f codes k d g h l)

pub gathered_all : (s : List ℕ) (f : PlanFile) (codes : List (List ℕ)) (k : ℕ) → Gathered s f codes k → k ≡ f.count → length (take f.count f.parts) ≡ f.count → take f.count codes ≡ numbers_in s f
gathered_all s f codes k g e size =
    rw e at g.below ∙ take_all f.count (numbers_in s f) (rw (length-map (take f.count f.parts) (λ (p : PartRead). numbers_of s p.locks)) (omega (arith, size)))

-- the marks by these numbers are those by the codes
pub marks_in : (s : List ℕ) (f : PlanFile) (k : ℕ) → marks_by_number (numbers_in s f) k ≡ marks_at (rows_in s f) k
marks_in s f k = marks_by_number_marks_at (λ p. names_of s p.locks) (take f.count f.parts) k

pub record Marking (marks : ℕ → List Bool) (before after : List PartRead) (k : ℕ) : Type 0 where
  pub room : length after ≡ length before
  pub below : (i : ℕ) → i < k → get_or after i blank_part ≡ marked (marks i) (get_or before i blank_part)
  pub above : (i : ℕ) → k ≤ i → get_or after i blank_part ≡ get_or before i blank_part

module _ (marks : ℕ → List Bool) (before : List PartRead) where
  pub marking_start : Marking marks before before 0
  marking_start = record { room = refl; below = λ i h. absurd (omega arith); above = λ i h. refl }

  pub marking_step : (after : List PartRead) (k : ℕ) (now : List Bool) → Marking marks before after k → k < length before → now ≡ marks k → Marking marks before (set after k (marked now (get_or after k blank_part))) (k + 1)
  marking_step after k now m h e = record {
    room = length-set after k _ ∙ m.room;
    below = λ i l. at i l (ℕ_discrete i k);
    above = λ i l. get_or-set_other after k i _ blank_part (λ q. absurd (omega (arith, q))) ∙ m.above i (omega arith);
  }
    where
      at : (i : ℕ) → i < k + 1 → Dec (i ≡ k) → get_or (set after k (marked now (get_or after k blank_part))) i blank_part ≡ marked (marks i) (get_or before i blank_part)
      at i l (yes q) = rw q (get_or-set_same after k _ blank_part (omega (arith, m.room)) ∙ ap₂ marked e (m.above k (omega arith)))
      at i l (no q) = get_or-set_other after k i _ blank_part q ∙ m.below i (omega (arith, q))

-- a part that is marked as the others of its file say is that part of the file
part_marked : (s : List ℕ) (ps : List FilePart) (p : FilePart) (r : PartRead) (marks : List Bool) → part_of s r ≡ part_alone p → take (length (lock_names p)) marks ≡ map (is_shared_in ps) (lock_names p) → part_of s (marked marks r) ≡ plan_part ps p
unfolding part_of tasks_of
part_marked s ps p r marks e m =
    let locks_are : r.part.locks ≡ length (lock_names p) = ap (λ (q : PlanPart). q.numbers.locks) e in
    λ i. record {
      name = (e i).name;
      locks = (e i).locks;
      numbers = record { period = (e i).numbers.period; tasks = (e i).numbers.tasks; locks = (e i).numbers.locks; shared = (ap (λ (l : ℕ). take l marks) locks_are ∙ m) i };
    }

counts_marked : (marks : List Bool) (r : PartRead) → FineCounts r → FineCounts (marked marks r)
counts_marked marks r f = record {
  few = f.few;
  room = f.room;
  few_locks = f.few_locks;
  locks_are = f.locks_are;
  names = f.names;
}

-- all parts are marked
module _ {first : ℕ} {s : List ℕ} {before after : PlanFile} (lines : LinesFrom first s before) (m : SharedMarked s before after) where
  abbrev ps : List FilePart
  ps = lines.parts

  abbrev n : ℕ
  n = before.count

  fits : n ≤ length before.parts
  fits = omega (arith, lines.fine.few, lines.fine.room)

  count_is : length ps ≡ n
  count_is = sym (length-map ps part_alone) ∙ ap length (sym lines.are) ∙ length-map (take n before.parts) (part_of s) ∙ length-take-le n before.parts fits

  part_was : (k : ℕ) → k < n → part_of s (get_or before.parts k blank_part) ≡ part_alone (get_or ps k no_part)
  part_was k h =
      ap (part_of s) (sym (get_or-take n before.parts k blank_part h)) ∙ sym (get_or-map (part_of s) (take n before.parts) k blank_part)
      ∙ ap (λ (qs : List PlanPart). get_or qs k (part_of s blank_part)) lines.are
      ∙ get-map part_alone ps k no_part (part_of s blank_part) (omega (arith, count_is))

  rows_are : rows_in s before ≡ rows_of ps
  unfolding part_of
  rows_are =
      let row : PlanPart → List (Option ℕ) = λ p. row_of p.locks in
      sym (map-map row (part_of s) (take n before.parts)) ∙ ap (map row) lines.are ∙ map-map row part_alone ps

  marks_now : (k : ℕ) → k < n → let names = lock_names (get_or ps k no_part) in take (length names) (marks_at (rows_in s before) k) ≡ map (is_shared_in ps) names
  marks_now k h =
      ap (λ (rows : List (List (Option ℕ))). take (length (lock_names (get_or ps k no_part))) (marks_at rows k)) rows_are
      ∙ marks_are ps (read_from_fine first s ps lines.read) k (omega (arith, count_is))

  -- of each part, what is the same for the first n
  each_now : {A : Type 0} (f : PartRead → A) (xs : List A) → length xs ≡ n → ((k : ℕ) → k < n → f (marked (marks_at (rows_in s before) k) (get_or before.parts k blank_part)) ≡ get_or xs k (f blank_part)) → map f (take after.count after.parts) ≡ xs
  each_now f xs size each =
      ap (λ (k : ℕ). map f (take k after.parts)) m.count
      ∙ map-take_each f n after.parts xs blank_part (omega (arith, m.room, fits)) size (λ k h. ap f (m.each k h) ∙ each k h)

  parts_now : parts_in s after ≡ plan_parts ps
  parts_now =
      each_now (part_of s) (plan_parts ps) (length-map ps (plan_part ps) ∙ count_is)
      (λ k h.
      let p = get_or ps k no_part in
      part_marked s ps p (get_or before.parts k blank_part) (marks_at (rows_in s before) k) (part_was k h) (marks_now k h)
      ∙ sym (get-map (plan_part ps) ps k no_part (part_of s blank_part) (omega (arith, h, count_is))))

  names_now : spans_in after ≡ spans_in before
  names_now =
      each_now (λ p. p.name) (spans_in before) (length-map (take n before.parts) (λ p. p.name) ∙ length-take-le n before.parts fits)
      (λ k h. ap (λ (p : PartRead). p.name) (sym (get_or-take n before.parts k blank_part h)) ∙ sym (get_or-map (λ p. p.name) (take n before.parts) k blank_part))

  pub lines_marked : ReadFromIs first s after
  unfolding numbered
  lines_marked = record {
    value = ap numbered lines.read ∙ sym (ap answered parts_now);
    few = rw m.count lines.fine.few;
    room = m.room ∙ lines.fine.room;
    counts = λ k l. let h : k < n = rw m.count at l in subst FineCounts (sym (m.each k h)) (counts_marked (marks_at (rows_in s before) k) (get_or before.parts k blank_part) (lines.fine.counts k h));
    spans = names_now ∙ lines.spans;
  }
