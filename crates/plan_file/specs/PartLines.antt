-- The lines of each part of a file.
--   own_lines ls      == of the lines behind a `part` line, those of its part: up to the next `part` line or the `end` line, these left out
--   lines_by_part ls  == for each `part` line, in file order: it and its part's lines behind it
--   lines_of_part k s == the lines of part k of the file s, counted from 1; none where there is no such part
-- Assumes nothing.
use Rattle.std.specs.Prelude.{ℕ, cond, ◌||◌, List, [], ◌∷◌}
use Rattle.least.specs.Lists.{nth_or}
use Rattle.text.specs.Bytes.{Line, lines_of}
use Rattle.records.specs.Records.{record_in}
use Rattle.plan_file.specs.Reading.{is_part, is_end}

unfoldable pub own_lines : List Line → List Line
own_lines [] = []
own_lines (l ∷ ls) = cond (is_part (record_in l) || is_end (record_in l)) [] (l ∷ own_lines ls)

unfoldable pub lines_by_part : List Line → List (List Line)
lines_by_part [] = []
lines_by_part (l ∷ ls) = cond (is_part (record_in l)) ((l ∷ own_lines ls) ∷ lines_by_part ls) (lines_by_part ls)

unfoldable pub lines_of_part : ℕ → List ℕ → List Line
lines_of_part k s = nth_or [] k (lines_by_part (lines_of s))
