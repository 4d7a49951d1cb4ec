-- The records of a file.
--   Record            == one of the four records with its fields, as bytes; or none of them
--   record_of fs      == question 3: which record the fields of a line are
--   record_in l       == the record on a line
--   name_span at name == where the name of a record stands whose line begins at `at`: behind a word of four letters and a tab
-- Assumes nothing.
use Rattle.std.specs.Prelude.{ℕ, ◌+◌, cond, List, [], ◌∷◌, length}
use Rattle.text.specs.Bytes.{bytes, same, Line, fields_of}
use Rattle.stretch.specs.declared.Span.{Span}

pub data Record : Type 0 where
  part : (name period : List ℕ) → Record
  task : (name separation cost deadline : List ℕ) → Record
  lock : (name held : List ℕ) → Record
  end : Record
  no_record : Record

unfoldable pub record_of : List (List ℕ) → Record
record_of [] = no_record
record_of (word ∷ []) = cond (same word (bytes "end")) end no_record
record_of (word ∷ a ∷ []) = no_record
record_of (word ∷ a ∷ b ∷ []) =
    cond (same word (bytes "part")) (part a b)
    (cond (same word (bytes "lock")) (lock a b) no_record)
record_of (word ∷ a ∷ b ∷ c ∷ []) = no_record
record_of (word ∷ a ∷ b ∷ c ∷ d ∷ []) = cond (same word (bytes "task")) (task a b c d) no_record
record_of (word ∷ a ∷ b ∷ c ∷ d ∷ e ∷ fs) = no_record

abbrev pub record_in : Line → Record
record_in l = record_of (fields_of l.body)

abbrev pub name_span : ℕ → List ℕ → Span
name_span at name = record { start = at + 5; len = length name }
