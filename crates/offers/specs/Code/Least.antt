-- The rows of least load of a file that was read.
--   partitions_in f  == the numbers of the parts that the struct `PlanFile` holds
--   plan_rows_from a == these rows in the struct `Rows`, or the refusal
-- Assumes nothing.
use Rattle.std.specs.Prelude.{List, map, length, take, Result, Ok, Err}
use Rattle.refusal.specs.declared.Refusal.{Refusal}
use Rattle.refusal.specs.Questions.{Answer}
use Rattle.refusal.specs.Questions.Answer.{answered, refused}
use Rattle.task_set.specs.Partition.{Partition}
use Rattle.task_set.specs.Code.Partition.{partition_of}
use Rattle.load.specs.declared.Row.{Row}
use Rattle.load.specs.declared.Rows.{Rows}
use Rattle.load.specs.Code.Weigh.{rows_from}
use Rattle.reader.specs.declared.PlanFile.{PlanFile}

abbrev pub partitions_in : PlanFile → List Partition
partitions_in f = map (λ p. partition_of p.part) (take f.count f.parts)

unfoldable pub plan_rows_from : Answer (List Row) → Result Rows Refusal
plan_rows_from (answered rows) = Ok (rows_from rows (length rows))
plan_rows_from (refused r) = Err r
