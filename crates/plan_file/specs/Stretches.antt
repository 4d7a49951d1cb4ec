-- Where the names of the parts stand in the file.
--   span_on at r     == the stretch of the name of a `part` on a line that begins at `at`; of another record there is none
--   spans_from at ls == those of lines, the first of which begins at `at`
--   name_spans s     == those of the file s: of a readable file one for each part, in file order
-- Assumes nothing.
use Rattle.std.specs.Prelude.{ℕ, suc, ◌+◌, List, [], ◌∷◌, ◌++◌, length}
use Rattle.text.specs.Bytes.{Line, lines_of}
use Rattle.stretch.specs.declared.Span.{Span}
use Rattle.records.specs.Records.{Record, record_in, name_span}
use Rattle.records.specs.Records.Record.{part, task, lock, end, no_record}

unfoldable pub span_on : ℕ → Record → List Span
span_on at (part name P) = name_span at name ∷ []
span_on at (task name T C D) = []
span_on at (lock name c) = []
span_on at end = []
span_on at no_record = []

-- byte 10 stands behind each line
unfoldable pub spans_from : ℕ → List Line → List Span
spans_from at [] = []
spans_from at (l ∷ ls) = span_on at (record_in l) ++ spans_from (at + suc (length l.body)) ls

unfoldable pub name_spans : List ℕ → List Span
name_spans s = spans_from 0 (lines_of s)

abbrev pub no_span : Span
no_span = record { start = 0; len = 0 }
