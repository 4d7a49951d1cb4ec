-- In which cases a file is refused by questions 1 to 9, and in which it is readable.
--   said a ls                == what the lines up to the last of ls say, where a is what the lines above them say
--   AllYes n a ls            == every question of every one of these lines has the answer yes; the first of them has the number n
--   StopsAt n a ls r         == one of these lines has a no with the refusal r, and all before it has yes
--   RefusedAt s r            == the file s is refused with r: it is too long; a line has a no; or it runs out before `end`
--   AnsweredBy s ps          == the file s is readable, and ps are its parts
--   NamedByAnother ps k name == a part of ps other than part k names the lock of this name
-- Assumes nothing.
use Rattle.std.specs.Prelude.{ℕ, ◌+◌, ◌≤◌, ◌<◌, ◌≡◌, true, false, length}
use mathlib.Core.List.{List, [], ◌∷◌, ◌++◌, Memᴰ}
use Rattle.refusal.specs.declared.Refusal.{Refusal}
use Rattle.refusal.specs.declared.Refusal.TheVariants.{FileTooLong, Misplaced}
use Rattle.refusal.specs.Limits.{file_limit}
use Rattle.refusal.specs.FirstNo.{all_yes, FirstNo}
use Rattle.text.specs.Bytes.{Line, lines_of}
use Rattle.records.specs.Records.{record_in}
use Rattle.plan_file.specs.Above.{Above, nothing_above, after}
use Rattle.plan_file.specs.Reading.{is_end, questions_at}
use Rattle.plan_file.specs.Numbers.{PlanPart, plan_parts, part_at}

unfoldable pub said : Above → List Line → Above
said a [] = a
said a (l ∷ ls) = said (after a (record_in l)) ls

abbrev pub AllYes : ℕ → Above → List Line → Type 0
AllYes n a ls =
    (above : List Line) (l : Line) (behind : List Line) → ls ≡ above ++ (l ∷ behind) → all_yes (questions_at (n + length above) (said a above) l) ≡ true

pub record StopsAt (n : ℕ) (a : Above) (ls : List Line) (r : Refusal) : Type 0 where
  pub before : List Line
  pub line : Line
  pub behind : List Line
  pub lines : ls ≡ before ++ (line ∷ behind)
  pub yes : AllYes n a before
  pub no : FirstNo (questions_at (n + length before) (said a before) line) r

pub data RefusedAt (s : List ℕ) (r : Refusal) : Type 0 where
  too_long : file_limit < length s → r ≡ FileTooLong → RefusedAt s r
  on_line : length s ≤ file_limit → StopsAt 1 nothing_above (lines_of s) r → RefusedAt s r
  run_out : length s ≤ file_limit → AllYes 1 nothing_above (lines_of s) → is_end (said nothing_above (lines_of s)).directly ≡ false → r ≡ Misplaced (1 + length (lines_of s)) → RefusedAt s r

pub record AnsweredBy (s : List ℕ) (ps : List PlanPart) : Type 0 where
  pub fits : length s ≤ file_limit
  pub yes : AllYes 1 nothing_above (lines_of s)
  pub ended : is_end (said nothing_above (lines_of s)).directly ≡ true
  pub are : plan_parts (said nothing_above (lines_of s)).parts ≡ ps

abbrev pub NamedByAnother : List PlanPart → ℕ → List ℕ → Type 0
NamedByAnother ps k name = (j : ℕ) × (1 ≤ j) × (j ≤ length ps) × (j ≡ k → ⊥) × Memᴰ name (part_at ps j).locks
