-- What the cursor hands back, in terms of the lines of the file.
--   record_as s r == the record whose fields are these stretches of the file s
--   NextIs s c n  == n is what stands at the cursor c
-- Assumes nothing.
use Rattle.std.specs.Prelude.{ℕ, suc, ◌+◌, ◌≤◌, ◌≡◌, true, false, List, ◌∷◌, length, drop}
use Rattle.text.specs.Bytes.{Line, lines_of}
use Rattle.stretch.specs.declared.Span.{Span}
use Rattle.scan.specs.Line.{line_is_good}
use Rattle.stretch.specs.Stretch.{bytes_of}
use Rattle.records.specs.declared.Shape.{Shape}
use Rattle.records.specs.declared.Shape.TheVariants.{Part, Task, Lock, End, Unknown}
use Rattle.records.specs.declared.Cursor.{Cursor}
use Rattle.records.specs.declared.Next.{Next}
use Rattle.records.specs.declared.Next.TheVariants.{Record as RecordAt, Broken, Over}
use Rattle.records.specs.Records.{Record, record_in, name_span}
use Rattle.records.specs.Records.Record.{part, task, lock, end, no_record}

unfoldable pub record_as : List ℕ → Shape → Record
record_as s (Part name P) = part (bytes_of s name) (bytes_of s P)
record_as s (Task name T C D) = task (bytes_of s name) (bytes_of s T) (bytes_of s C) (bytes_of s D)
record_as s (Lock name c) = lock (bytes_of s name) (bytes_of s c)
record_as s End = end
record_as s Unknown = no_record

-- a stretch, and each field of a record, lies within the file
abbrev pub Within : List ℕ → Span → Type 0
Within s p = p.start + p.len ≤ length s

abbrev pub FieldsWithin : List ℕ → Shape → Type 0
FieldsWithin s (Part name P) = Within s name × Within s P
FieldsWithin s (Task name T C D) = Within s name × Within s T × Within s C × Within s D
FieldsWithin s (Lock name c) = Within s name × Within s c
FieldsWithin s End = Unit {0}
FieldsWithin s Unknown = Unit {0}

-- a good line, its record, and the cursor at the line behind it
pub record RecordIs (s : List ℕ) (c : Cursor) (r : Shape) (next : Cursor) : Type 0 where
  pub line : Line
  pub lines : lines_of (drop c.at s) ≡ line ∷ lines_of (drop next.at s)
  pub good : line_is_good line ≡ true
  pub is : record_in line ≡ record_as s r
  pub named : (name P : Span) → r ≡ Part name P → name ≡ name_span c.at (bytes_of s name)
  pub numbered : next.line ≡ suc c.line
  pub behind : next.at ≡ c.at + suc (length line.body)
  pub within : next.at ≤ length s
  pub fields : FieldsWithin s r

-- a line with a no to question 2
pub record BrokenIs (s : List ℕ) (c : Cursor) : Type 0 where
  pub line : Line
  pub behind : List Line
  pub lines : lines_of (drop c.at s) ≡ line ∷ behind
  pub bad : line_is_good line ≡ false

abbrev pub NextIs : List ℕ → Cursor → Next → Type 0
NextIs s c (RecordAt r next) = RecordIs s c r next
NextIs s c Broken = BrokenIs s c
NextIs s c Over = length s ≤ c.at
