-- The plan of a file in its structs: what was read of it, and the rows that were chosen.
--   PlanIs s f rows == f is what was read of the file s, and rows are those of its plan
-- Assumes nothing.
use Rattle.std.specs.Prelude.{ℕ, ◌≡◌, List, Ok}
use Rattle.load.specs.declared.Rows.{Rows}
use Rattle.reader.specs.declared.PlanFile.{PlanFile}
use Rattle.reader.specs.Code.Reader.{ReadIs}
use Rattle.answers.specs.Plan.{chosen_rows}
use Rattle.offers.specs.Code.Least.{partitions_in, plan_rows_from}

pub record PlanIs (s : List ℕ) (f : PlanFile) (rows : Rows) : Type 0 where
  pub read : ReadIs s f
  pub chosen : plan_rows_from (chosen_rows (partitions_in f)) ≡ Ok rows
