-- The limits that the questions ask about.
--   number_limit                       == the greatest number of a file, and of a period, a budget, a holding time or a time set by hand
--   file_limit                         == the greatest length of a file in bytes
--   part_limit, task_limit, lock_limit == parts in a file, tasks in a part, different lock names in a part
--   row_limit                          == rows to be weighed
--   name_limit                         == bytes in a name
--   cycle                              == the ticks of a cycle, of which a chart has a byte each and which the periods of its parts divide (major cycle, hyperperiod)
-- And one about which no question asks, as every part keeps it:
--   kept_limit   == pairs in the kept list of a part: it has no more than the part has tasks
-- Assumes nothing.
use Rattle.std.specs.Prelude.{ℕ}

abbrev pub number_limit : ℕ
number_limit = 1000000

abbrev pub file_limit : ℕ
file_limit = 32768

abbrev pub part_limit : ℕ
part_limit = 16

abbrev pub task_limit : ℕ
task_limit = 16

abbrev pub lock_limit : ℕ
lock_limit = 8

abbrev pub row_limit : ℕ
row_limit = 16

abbrev pub name_limit : ℕ
name_limit = 8

abbrev pub cycle : ℕ
cycle = 720

abbrev pub kept_limit : ℕ
kept_limit = task_limit
