-- The loop of the reader: what it has still to read behind what it has seen decides the whole file. How it begins, each turn, and each end.
-- Assumes nothing.
use Prim.Native.Nat.{ℕ, ◌+◌, ◌-◌, ◌≤◌, ◌<◌}
use native.Mathlib.Omega.{arith}
use mathlib.Core.Path.{◌≡◌, refl, sym, ap, ap₂, ◌∙◌, subst}
use mathlib.Core.Bool.{true, false, cond}
use mathlib.Core.List.{List, [], map}
use lib.ListN.{length, take, drop, get_or, drop_of_length-le}
use Rattle.least.specs.Lists.{pad}
use Rattle.refusal.specs.declared.Refusal.{Refusal}
use Rattle.refusal.specs.declared.Refusal.TheVariants.{FileTooLong, BadLine, Misplaced}
use Rattle.refusal.specs.declared.Outcome.TheVariants.{Refused}
use Rattle.refusal.specs.Limits.{file_limit}
use Rattle.refusal.specs.Questions.{ask, first_no}
use Rattle.refusal.specs.Questions.Answer.{answered, refused}
use Rattle.refusal.proofs.Questions.{yes_next, no_answers}
use Rattle.stretch.specs.declared.Span.{Span}
use Rattle.text.specs.Bytes.{Line, lines_of}
use Rattle.task_set.specs.declared.Task.{Task}
use Rattle.scan.specs.Line.{line_is_good}
use Rattle.records.specs.declared.Cursor.{Cursor}
use Rattle.records.specs.declared.Shape.{Shape}
use Rattle.records.specs.Records.{Record, record_in}
use Rattle.records.specs.Code.Cursor.{record_as, RecordIs, BrokenIs}
use Rattle.plan_file.specs.declared.Seen.{Seen}
use Rattle.std.proofs.Common.{Err}
use Rattle.plan_file.specs.Above.{Above, nothing_above, after}
use Rattle.plan_file.specs.Reading.{is_end, record_questions, questions_at, read_lines, read_from}
use Rattle.plan_file.specs.Numbers.{numbered}
use Rattle.plan_file.specs.Stretches.{no_span, name_spans}
use Rattle.plan_file.specs.Code.Entries.{FineSeen, no_task_read, none_seen, entry_of}
use Rattle.plan_file.proofs.Reading.{read_next, read_stop, read_too_long, read_lines_lem}
use Rattle.plan_file.proofs.SeenAbove.{seen_is_fine, part_count}
use Rattle.plan_file.proofs.SeenEntered.{AllDone, refused_entered}
use Rattle.reader.specs.declared.PartRead.{PartRead}
use Rattle.reader.specs.Code.Reader.{part_of, FineCounts, part_alone, blank_part, LinesFrom, RefusedFrom}
use Rattle.reader.proofs.Stands.{Stands, stands_start}
use Rattle.reader.proofs.Spans.{Spanned, spanned_start, spanned_all}

pub record Reading (n : ℕ) (s : List ℕ) (c : Cursor) (seen : Seen) (opened : ℕ) (name : Span) (period : ℕ) (tasks : List Task) (all : List PartRead) : Type 0 where
  pub above : Above
  pub reads : read_from n s ≡ read_lines c.line above (lines_of (drop c.at s))
  pub lines_few : c.line ≤ c.at + n
  pub within : c.at ≤ length s
  pub small : length s ≤ file_limit
  pub stands : Stands s seen opened name period tasks all above
  pub spanned : Spanned s c.at seen.parts.count opened name all seen.ended

pub reading_too_long : (n : ℕ) (s : List ℕ) → file_limit < length s → RefusedFrom n s FileTooLong
unfolding numbered
reading_too_long n s h = ap numbered (read_too_long n s h)

pub reading_start : (n : ℕ) (s : List ℕ) (all : List PartRead) → length s ≤ file_limit → length all ≡ 16 → Reading n s (record { at = 0; line = n }) none_seen 0 no_span 0 (pad 16 no_task_read []) all
reading_start n s all h room =
    record { above = nothing_above; reads = read_lines_lem n s h; lines_few = omega arith; within = omega arith; small = h; stands = stands_start s all room; spanned = spanned_start s all }

-- a good line has the questions of its record
good_line : (n : ℕ) (a : Above) (l : Line) → line_is_good l ≡ true → first_no (questions_at n a l) ≡ first_no (record_questions n a (record_in l))
unfolding questions_at
good_line n a l e = yes_next (ask (BadLine n) (line_is_good l)) (record_questions n a (record_in l)) e

bad_line : (n : ℕ) (a : Above) (l : Line) → line_is_good l ≡ false → first_no (questions_at n a l) ≡ Refused (BadLine n)
unfolding questions_at
bad_line n a l e = no_answers (ask (BadLine n) (line_is_good l)) (record_questions n a (record_in l)) e

-- the record at the cursor
module _ (s : List ℕ) (c : Cursor) (r : Shape) (next : Cursor) (at : RecordIs s c r next) (a : Above) where
  asked : first_no (questions_at c.line a at.line) ≡ first_no (record_questions c.line a (record_as s r))
  asked = good_line c.line a at.line at.good ∙ ap (λ (x : Record). first_no (record_questions c.line a x)) at.is

  pub record_done : (x : Record) → record_as s r ≡ x → AllDone s c.line a r → read_lines c.line a (lines_of (drop c.at s)) ≡ read_lines next.line (after a x) (lines_of (drop next.at s))
  record_done x e d =
      ap (read_lines c.line a) at.lines
      ∙ read_next c.line a at.line (lines_of (drop next.at s)) (asked ∙ d)
      ∙ ap₂ (λ (n : ℕ) (y : Record). read_lines n (after a y) (lines_of (drop next.at s))) (sym at.numbered) (at.is ∙ e)

  pub record_refused : (x : Refusal) → first_no (record_questions c.line a (record_as s r)) ≡ Refused x → read_lines c.line a (lines_of (drop c.at s)) ≡ refused x
  record_refused x d =
      ap (read_lines c.line a) at.lines ∙ read_stop c.line a at.line (lines_of (drop next.at s)) x (asked ∙ d)

-- each turn makes what is left shorter
pub turn_shortens : {s : List ℕ} {c : Cursor} {r : Shape} {next : Cursor} → RecordIs s c r next → length s - next.at < length s - c.at
turn_shortens at = omega arith

module _ {n : ℕ} {s : List ℕ} {c : Cursor} {seen : Seen} {opened : ℕ} {name : Span} {period : ℕ} {tasks : List Task} {all : List PartRead} (reading : Reading n s c seen opened name period tasks all) where
  abbrev a : Above
  a = reading.above

  pub reading_fine : FineSeen seen
  reading_fine = seen_is_fine s seen a reading.stands.seen_is

  -- where the rest is refused, the file is
  ends_refused : (x : Refusal) → read_lines c.line a (lines_of (drop c.at s)) ≡ refused x → RefusedFrom n s x
  unfolding numbered
  ends_refused x e = ap numbered (reading.reads ∙ e)

  pub reading_refused : {r : Shape} {next : Cursor} → RecordIs s c r next → {x : Refusal} → entry_of s c.line seen r ≡ Err x → RefusedFrom n s x
  reading_refused {r} {next} at {x} e =
      ends_refused x (record_refused s c r next at a x (refused_entered s seen a reading.stands.seen_is c.line r x e))

  pub reading_broken : BrokenIs s c → RefusedFrom n s (BadLine c.line)
  reading_broken at =
      ends_refused (BadLine c.line)
      (ap (read_lines c.line a) at.lines ∙ read_stop c.line a at.line at.behind (BadLine c.line) (bad_line c.line a at.line at.bad))

  -- no line is left
  none_left : length s ≤ c.at → read_lines c.line a (lines_of (drop c.at s)) ≡ cond (is_end a.directly) (answered a.parts) (refused (Misplaced c.line))
  unfolding read_lines lines_of
  none_left h = rw (drop_of_length-le s h) refl

  pub reading_over : length s ≤ c.at → seen.ended ≡ false → RefusedFrom n s (Misplaced c.line)
  reading_over h e =
      let not_end : is_end a.directly ≡ false = sym reading.stands.seen_is.ended ∙ e in
      ends_refused (Misplaced c.line) (none_left h ∙ simp not_end)

  at_end : seen.ended ≡ true → is_end a.directly ≡ true
  at_end e = sym reading.stands.seen_is.ended ∙ e

  -- all is read
  reading_answered : length s ≤ c.at → seen.ended ≡ true → read_from n s ≡ answered a.parts
  reading_answered h e =
      reading.reads ∙ none_left h ∙ simp (at_end e)

  reading_counts : seen.ended ≡ true → (k : ℕ) → k < seen.parts.count → FineCounts (get_or all k blank_part)
  reading_counts e k h = (reading.stands.complete (at_end e)).1 k (omega (arith, part_count s seen a reading.stands.seen_is))

  reading_parts : seen.ended ≡ true → map (part_of s) (take seen.parts.count all) ≡ map part_alone a.parts
  reading_parts e =
      ap (λ (m : ℕ). map (part_of s) (take m all)) (sym (part_count s seen a reading.stands.seen_is))
      ∙ (reading.stands.complete (at_end e)).0

  -- where the names stand
  reading_spans : length s ≤ c.at → seen.ended ≡ true → map (λ p. p.name) (take seen.parts.count all) ≡ name_spans s
  reading_spans h e = spanned_all s c.at seen.parts.count opened name all (subst (Spanned s c.at seen.parts.count opened name all) e reading.spanned) h

  -- all lines are read
  pub reading_lines : length s ≤ c.at → seen.ended ≡ true → LinesFrom n s (record { parts = all; count = seen.parts.count })
  reading_lines h e = record {
    parts = a.parts;
    read = reading_answered h e;
    are = reading_parts e;
    fine = record { few = reading_fine.parts.few; room = reading.stands.room; counts = reading_counts e };
    spans = reading_spans h e;
  }
