-- What the writer of a listing is handed, and the pieces that it writes.
--   head_of word name == the first two fields of a line, each with the tab behind it
--   printed l         == what is printed of a part, as the struct `ShareLines` has it
--   ceiling_lines cs  == a `ceiling` line for each of these ceilings
--   FineLocks l       == at most lock_limit locks, counted within their places, each with a ceiling
--   Short l           == the name and the file are not too long to measure
-- Assumes nothing.
use Rattle.std.specs.Prelude.{ℕ, ◌^◌, ◌≤◌, List, [], ◌∷◌, ◌++◌, map, length}
use Rattle.least.specs.Lists.{joined}
use Rattle.refusal.specs.Limits.{lock_limit}
use Rattle.task_set.specs.Code.ByLock.{setting_of}
use Rattle.plan_file.specs.Code.Entries.{names_of, FineNames}
use Rattle.listing.specs.declared.ShareLines.{ShareLines}
use Rattle.listing.specs.Listing.{Ceiling, Share, share_under, ceiling_line}

unfoldable pub head_of : List ℕ → List ℕ → List ℕ
head_of word name = (word ++ (9 ∷ [])) ++ (name ++ (9 ∷ []))

abbrev pub printed : ShareLines → Share
printed l = share_under l.name.now (names_of l.file.now l.locks.now) (setting_of l.ceilings.now) l.row l.bound

unfoldable pub ceiling_lines : List Ceiling → List ℕ
ceiling_lines cs = joined (map ceiling_line cs)

pub record FineLocks (l : ShareLines) : Type 0 where
  pub names : FineNames l.locks.now
  pub few : l.locks.now.count ≤ lock_limit
  pub each : l.locks.now.count ≤ length l.ceilings.now

pub record Short (l : ShareLines) : Type 0 where
  pub name : length l.name.now ≤ 2 ^ 32
  pub file : length l.file.now ≤ 2 ^ 32
