-- Records by the places of the tabs on their line: what the functions inside this crate work out. What the cursor promises is in Cursor.antt.
--   up_to from to    == the stretch from one position up to another
--   end_of l k       == where field k of a scanned line ends: at tab k, the last one at the line's end (fields from 0)
--   first_field at l == the field before the first tab, of a line that begins at `at`
--   field l k        == field k, from 1 on: it begins behind the tab before it
--   word_of bs       == the word that bytes spell
--   shape_of w l     == the record of a line with this word, by its count of tabs
-- Assumes nothing.
use Rattle.std.specs.Prelude.{ℕ, ◌+◌, ◌-◌, ◌<◌, ◌^◌, cond, List, eqb, ltb, get_or}
use Rattle.text.specs.Bytes.{bytes, same}
use Rattle.stretch.specs.declared.Span.{Span}
use Rattle.scan.specs.declared.Scanned.{Scanned}
use Rattle.records.specs.declared.Shape.{Shape}
use Rattle.records.specs.declared.Shape.TheVariants.{Part, Task, Lock, End, Unknown}

unfoldable pub up_to : ℕ → ℕ → Span
up_to from to = record { start = from; len = to - from }

unfoldable pub end_of : Scanned → ℕ → ℕ
end_of l k = cond (ltb k l.tabs.count) (get_or l.tabs.place k 0) l.end

unfoldable pub first_field : ℕ → Scanned → Span
first_field at l = up_to at (end_of l 0)

unfoldable pub field : Scanned → ℕ → Span
field l k = up_to (get_or l.tabs.place (k - 1) 0 + 1) (end_of l k)

-- a position behind a tab is a position
abbrev pub TabsSmall : Scanned → Type 0
TabsSmall l = (j : ℕ) → get_or l.tabs.place j 0 < 2 ^ 63

pub data Word : Type 0 where
  PartWord : Word
  TaskWord : Word
  LockWord : Word
  EndWord : Word
  NoWord : Word

unfoldable pub word_of : List ℕ → Word
word_of bs =
    cond (same bs (bytes "part")) PartWord
    (cond (same bs (bytes "task")) TaskWord
    (cond (same bs (bytes "lock")) LockWord
    (cond (same bs (bytes "end")) EndWord
    NoWord)))

unfoldable pub part_shape : Scanned → Shape
part_shape l = cond (eqb l.tabs.count 2) (Part (field l 1) (field l 2)) Unknown

unfoldable pub task_shape : Scanned → Shape
task_shape l = cond (eqb l.tabs.count 4) (Task (field l 1) (field l 2) (field l 3) (field l 4)) Unknown

unfoldable pub lock_shape : Scanned → Shape
lock_shape l = cond (eqb l.tabs.count 2) (Lock (field l 1) (field l 2)) Unknown

unfoldable pub end_shape : Scanned → Shape
end_shape l = cond (eqb l.tabs.count 0) End Unknown

unfoldable pub shape_of : Word → Scanned → Shape
shape_of PartWord l = part_shape l
shape_of TaskWord l = task_shape l
shape_of LockWord l = lock_shape l
shape_of EndWord l = end_shape l
shape_of NoWord l = Unknown
