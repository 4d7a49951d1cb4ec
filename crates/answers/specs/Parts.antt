-- A part of a readable file, as the candidates, the selection and the listing see it.
--   row_of v c         == the pair c as a row, with the period of the partition v
--   kept_rows v        == the kept pairs of a partition as rows, each with its P
--   share_of p r b     == what is printed of the part p with the row r and the row's bound b: each lock at the ceiling shown for r's X
--   shares_of ps rs bs == the same for each part, in file order
-- Assumes nothing.
use Rattle.std.specs.Prelude.{List, map}
use Rattle.least.specs.declared.Frac.{Frac}
use Rattle.least.specs.Lists.{zip3}
use Rattle.task_set.specs.Partition.{Partition}
use Rattle.load.specs.declared.Row.{Row}
use Rattle.load.specs.Load.{row}
use Rattle.candidates.specs.declared.Pair.{Pair}
use Rattle.candidates.specs.Candidates.{kept_list, shown_ceiling}
use Rattle.plan_file.specs.Numbers.{PlanPart}
use Rattle.listing.specs.Listing.{Share, share_under}

abbrev pub row_of : Partition → Pair → Row
row_of v c = row v.period c.budget c.holding

unfoldable pub kept_rows : Partition → List Row
kept_rows v = map (row_of v) (kept_list v)

abbrev pub share_of : PlanPart → Row → Frac → Share
share_of p r b = share_under p.name p.locks (shown_ceiling p.numbers r.holding) r b

abbrev pub shares_of : List PlanPart → List Row → List Frac → List Share
shares_of ps rs bs = zip3 share_of ps rs bs
