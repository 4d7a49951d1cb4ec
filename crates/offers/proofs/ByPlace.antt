-- What the parts of a file offer, place by place.
--   part_rows f k == the kept pairs of the part at the place k as rows
--   rows_in f     == those of each part, in file order
-- Assumes nothing.
use Prim.Native.Nat.{ℕ, ◌<◌}
use native.Mathlib.Omega.{arith}
use mathlib.Core.Path.{◌≡◌, sym, ap, ◌∙◌}
use mathlib.Core.List.{List, map}
use lib.ListN.{length, take, length-map, get_or-map}
use lib.Seq.{ext_get_or, get_or-take, length-take-le}
use Rattle.least.specs.Lists.{count_from}
use Rattle.least.proofs.Columns.{column_length, column_get}
use Rattle.task_set.specs.Code.Partition.{partition_of}
use Rattle.load.specs.declared.Row.{Row}
use Rattle.reader.specs.declared.PartRead.{PartRead}
use Rattle.reader.specs.declared.PlanFile.{PlanFile}
use Rattle.reader.specs.Code.Reader.{blank_part}
use Rattle.answers.specs.Parts.{kept_rows}
use Rattle.answers.specs.Plan.{offered}
use Rattle.offers.specs.Code.Gathered.{part_in, FineParts}
use Rattle.offers.specs.Code.Least.{partitions_in}

abbrev pub part_rows : PlanFile → ℕ → List Row
part_rows f k = kept_rows (partition_of (part_in f k))

abbrev pub rows_in : PlanFile → List (List Row)
rows_in f = map (part_rows f) (count_from 0 f.count)

module _ (f : PlanFile) (fine : FineParts f) where
  count_is : length (partitions_in f) ≡ f.count
  count_is = length-map (take f.count f.parts) _ ∙ length-take-le f.count f.parts (omega (arith, fine.few, fine.room))

  abbrev blank : List Row
  blank = kept_rows (partition_of blank_part.part)

  pub offered_by_place : offered (partitions_in f) ≡ rows_in f
  offered_by_place =
      ext_get_or blank _ _ (length-map (partitions_in f) kept_rows ∙ count_is ∙ sym (column_length (part_rows f) f.count))
      (λ k l.
      let m : k < f.count = omega (arith, length-map (partitions_in f) kept_rows, count_is) in
      get_or-map kept_rows (partitions_in f) k (partition_of blank_part.part)
      ∙ ap kept_rows (get_or-map (λ (p : PartRead). partition_of p.part) (take f.count f.parts) k blank_part)
      ∙ ap (λ (p : PartRead). kept_rows (partition_of p.part)) (get_or-take f.count f.parts k blank_part m)
      ∙ sym (column_get (part_rows f) blank k f.count m))
