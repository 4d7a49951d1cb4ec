-- What can be printed.
--   FineFile f    == at most part_limit parts, in as many places, each with as many lock names as locks
--   ToPrint s f w == the counts of f are fine, the load's row in w is the number of a part, and the file s is not too long to measure
-- Assumes nothing.
use Rattle.std.specs.Prelude.{ℕ, ◌^◌, ◌≤◌, ◌<◌, ◌≡◌, List, length, get_or}
use Rattle.refusal.specs.Limits.{part_limit}
use Rattle.load.specs.declared.Weighed.{Weighed}
use Rattle.reader.specs.declared.PlanFile.{PlanFile}
use Rattle.reader.specs.Code.Reader.{blank_part, FineCounts}

pub record FineFile (f : PlanFile) : Type 0 where
  pub few : f.count ≤ part_limit
  pub room : length f.parts ≡ part_limit
  pub counts : (k : ℕ) → k < f.count → FineCounts (get_or f.parts k blank_part)

pub record ToPrint (s : List ℕ) (f : PlanFile) (w : Weighed) : Type 0 where
  pub fine : FineFile f
  pub short : length s ≤ 2 ^ 32
  pub row_some : 1 ≤ w.row
  pub row_most : w.row ≤ f.count
