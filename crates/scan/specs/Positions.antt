-- What `line_at` finds, by positions in the file. What that says of a line is in Scan.antt.
--   first_line bs   == the line that bs begins with: the bytes before the first byte 10, and whether there is one
--   tabs_from bs at == where the tabs stand among bytes of which the first stands at `at`
--   first_five ts   == the first five of some places, and how many there are of them
--   line_at s at    == the line that begins at `at`: whether question 2 holds and, if so, where its byte 10 and its first five tabs stand; else zeros
-- Assumes nothing.
use Rattle.std.specs.Prelude.{ℕ, ◌+◌, min, Bool, true, false, cond, ◌||◌, List, [], ◌∷◌, eqb, length, drop}
use Rattle.least.specs.Lists.{numbers_from, pad}
use Rattle.text.specs.Bytes.{Line}
use Rattle.scan.specs.declared.Tabs.{Tabs}
use Rattle.scan.specs.declared.Scanned.{Scanned}
use Rattle.scan.specs.Line.{line_is_good}
use Rattle.scan.specs.Scan.{is_tab}

unfoldable pub body_of : List ℕ → List ℕ
body_of [] = []
body_of (b ∷ bs) = cond (eqb b 10) [] (b ∷ body_of bs)

unfoldable pub is_ended : List ℕ → Bool
is_ended [] = false
is_ended (b ∷ bs) = eqb b 10 || is_ended bs

abbrev pub first_line : List ℕ → Line
first_line bs = record { body = body_of bs; ended = is_ended bs }

abbrev pub tabs_from : List ℕ → ℕ → List ℕ
tabs_from bs at = numbers_from at is_tab bs

unfoldable pub first_five : List ℕ → Tabs
first_five ts = record { count = min 5 (length ts); place = pad 5 0 ts }

unfoldable pub line_at : List ℕ → ℕ → Scanned
line_at s at =
    let rest = drop at s in
    cond (line_is_good (first_line rest))
    (record { good = true; end = at + length (body_of rest); tabs = first_five (tabs_from (body_of rest) at) })
    (record { good = false; end = 0; tabs = first_five [] })
