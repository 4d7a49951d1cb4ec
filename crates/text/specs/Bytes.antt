-- Text as lists of bytes. Byte 9 (tab) parts the fields of a line, byte 10 ends it.
--   bytes "abc" == the bytes of a text
--   same a b    == two lists of bytes are the same
--   among a as  == a list of bytes is one of several
--   distinct as == several lists of bytes in the order of first mention, each once
--   lines_of s  == the lines of a file: each has its bytes, and whether byte 10 ends it
--   fields_of l == the fields of a line's bytes: there is one more than there are tabs
--   line_of fs  == the bytes of a printed line: its fields with one tab between them, then byte 10
-- Assumes nothing.
use Rattle.std.specs.Prelude.{ℕ, Bool, true, false, cond, ◌&&◌, List, [], ◌∷◌, ◌++◌, eqb}
use Prim.Native.String.{String, [] as nothing, ◌∷◌ as ◌then◌}
use Prim.Native.Char.{code}
use Rattle.least.specs.Lists.{some}

unfoldable pub bytes : String → List ℕ
bytes nothing = []
bytes (c then cs) = code c ∷ bytes cs

unfoldable pub same : List ℕ → List ℕ → Bool
same [] [] = true
same [] (b ∷ bs) = false
same (a ∷ as') [] = false
same (a ∷ as') (b ∷ bs) = eqb a b && same as' bs

unfoldable pub among : List ℕ → List (List ℕ) → Bool
among name names = some (same name) names

-- names so far, and one more if it is not among them
unfoldable pub mention : List (List ℕ) → List ℕ → List (List ℕ)
mention names name = cond (among name names) names (names ++ (name ∷ []))

unfoldable pub distinct_after : List (List ℕ) → List (List ℕ) → List (List ℕ)
distinct_after names [] = names
distinct_after names (n ∷ ns) = distinct_after (mention names n) ns

abbrev pub distinct : List (List ℕ) → List (List ℕ)
distinct ns = distinct_after [] ns

pub record Line : Type 0 where
  pub body : List ℕ
  pub ended : Bool

-- one byte more at the front of the first line
unfoldable pub into_line : ℕ → List Line → List Line
into_line b [] = record { body = b ∷ []; ended = false } ∷ []
into_line b (l ∷ ls) = record { body = b ∷ l.body; ended = l.ended } ∷ ls

unfoldable pub lines_of : List ℕ → List Line
lines_of [] = []
lines_of (b ∷ bs) = elim (eqb b 10) [ true ↦ record { body = []; ended = true } ∷ lines_of bs | false ↦ into_line b (lines_of bs) ]

-- one byte more at the front of the first field
unfoldable pub into_field : ℕ → List (List ℕ) → List (List ℕ)
into_field b [] = (b ∷ []) ∷ []
into_field b (f ∷ fs) = (b ∷ f) ∷ fs

unfoldable pub fields_of : List ℕ → List (List ℕ)
fields_of [] = [] ∷ []
fields_of (b ∷ bs) = elim (eqb b 9) [ true ↦ [] ∷ fields_of bs | false ↦ into_field b (fields_of bs) ]

unfoldable pub line_of : List (List ℕ) → List ℕ
line_of [] = 10 ∷ []
line_of (f ∷ []) = f ++ (10 ∷ [])
line_of (f ∷ g ∷ gs) = f ++ (9 ∷ line_of (g ∷ gs))
