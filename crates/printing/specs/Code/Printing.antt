-- The listing of a plan, from what was read of its file.
--   no_share            == a share with nothing in it, for a place where there is none
--   listing_at k shares == the `load` line of the k-th share, counted from 1, then every share
--   share_in l k        == what is printed of the part at the place k: with the row and the bound at this place, and with the ceilings that stand from the place
--                          lock_limit × k on
--   shares_in l         == the same of all parts, in file order
--   EachFine f          == the numbers of each part are in range
--   AllShownAre l       == the ceilings are those shown for each part at the X of its row
-- Assumes nothing.
use Rattle.std.specs.Prelude.{ℕ, ◌*◌, ◌<◌, List, [], ◌++◌, map, get_or}
use Rattle.least.specs.Lists.{count_from, nth_or, joined}
use Rattle.refusal.specs.Limits.{lock_limit}
use Rattle.task_set.specs.Code.Partition.{partition_of}
use Rattle.task_set.specs.Code.Fine.{FinePart}
use Rattle.task_set.specs.Code.ByLock.{setting_from}
use Rattle.load.specs.Code.Rows.{no_frac, no_row}
use Rattle.shown.specs.Code.Shown.{ShownAre}
use Rattle.stretch.specs.Stretch.{bytes_of}
use Rattle.plan_file.specs.Code.Entries.{names_of}
use Rattle.reader.specs.declared.PlanFile.{PlanFile}
use Rattle.reader.specs.Code.Reader.{blank_part}
use Rattle.listing.specs.Listing.{Share, share_under, share_lines, load_line}
use Rattle.printing.specs.declared.Listing.{Listing}

abbrev pub no_share : Share
no_share = record { name = []; row = no_row; bound = no_frac; ceilings = [] }

unfoldable pub listing_at : ℕ → List Share → List ℕ
listing_at k shares = load_line (nth_or no_share k shares) ++ joined (map share_lines shares)

abbrev pub share_in : Listing → ℕ → Share
share_in l k =
    let s = l.file.now in
    let p = get_or l.plan.now.parts k blank_part in
    share_under (bytes_of s p.name) (names_of s p.locks) (setting_from l.ceilings.now (lock_limit * k)) (get_or l.rows.now.rows k no_row) (get_or l.weighed.now.bounds k no_frac)

unfoldable pub shares_in : Listing → List Share
shares_in l = map (share_in l) (count_from 0 l.plan.now.count)

abbrev pub EachFine : PlanFile → Type 0
EachFine f = (k : ℕ) → k < f.count → FinePart (get_or f.parts k blank_part).part

abbrev pub AllShownAre : Listing → Type 0
AllShownAre l = (k : ℕ) → k < l.plan.now.count → ShownAre (partition_of (get_or l.plan.now.parts k blank_part).part) (get_or l.rows.now.rows k no_row).holding k l.ceilings.now
