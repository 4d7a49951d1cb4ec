-- The listing of a plan, byte for byte.
--   Ceiling                      == a lock's name and its ceiling, a task number
--   Share                        == what is printed of a part: its name, its row, the row's bound, and its locks' ceilings in order of first mention
--   ceilings_under σ l names     == the locks of these names, numbered from l on, each at its ceiling under the setting σ
--   share_under name locks σ r b == what is printed of a part with this name and these lock names, with the row r, its bound b and the ceilings of σ
--   ceiling_line                 == `ceiling` lock, task number
--   share_line                   == `share` name P Q X L t
--   share_lines                  == that line, then a `ceiling` line for each lock
--   load_line                    == `load` name L t of a share
--   load_share                   == the first share that reaches the load, as a list of one
--   listing_of                   == the `load` line of the first share that reaches the load, then every share in file order
--   refused_line                 == `refused` number place
-- Assumes nothing.
use Rattle.std.specs.Prelude.{ℕ, suc, List, [], ◌∷◌, ◌++◌, map, take}
use Rattle.least.specs.declared.Frac.{Frac}
use Rattle.least.specs.Lists.{those, joined}
use Rattle.least.specs.Fraction.{at_most, greatest_of}
use Rattle.text.specs.Bytes.{bytes, line_of}
use Rattle.text.specs.Decimal.{digits_of}
use Rattle.task_set.specs.Blocking.{Setting}
use Rattle.load.specs.declared.Row.{Row}

pub record Ceiling : Type 0 where
  pub lock : List ℕ
  pub number : ℕ

pub record Share : Type 0 where
  pub name : List ℕ
  pub row : Row
  pub bound : Frac
  pub ceilings : List Ceiling

unfoldable pub ceilings_under : Setting → ℕ → List (List ℕ) → List Ceiling
ceilings_under σ l [] = []
ceilings_under σ l (name ∷ names) = record { lock = name; number = σ l } ∷ ceilings_under σ (suc l) names

unfoldable pub share_under : List ℕ → List (List ℕ) → Setting → Row → Frac → Share
share_under name locks σ r b = record { name = name; row = r; bound = b; ceilings = ceilings_under σ 1 locks }

unfoldable pub ceiling_line : Ceiling → List ℕ
ceiling_line c = line_of (bytes "ceiling" ∷ c.lock ∷ digits_of c.number ∷ [])

unfoldable pub share_line : Share → List ℕ
share_line s =
    line_of
    (bytes "share"
    ∷ s.name
    ∷ digits_of s.row.period
    ∷ digits_of s.row.budget
    ∷ digits_of s.row.holding
    ∷ digits_of s.bound.num
    ∷ digits_of s.bound.den
    ∷ [])

unfoldable pub share_lines : Share → List ℕ
share_lines s = share_line s ++ joined (map ceiling_line s.ceilings)

unfoldable pub load_line : Share → List ℕ
load_line s = line_of (bytes "load" ∷ s.name ∷ digits_of s.bound.num ∷ digits_of s.bound.den ∷ [])

-- the first share whose bound reaches the load
unfoldable pub load_share : List Share → List Share
load_share shares = take 1 (those (λ s. at_most (greatest_of (map (λ k. k.bound) shares)) s.bound) shares)

unfoldable pub listing_of : List Share → List ℕ
listing_of shares = joined (map load_line (load_share shares)) ++ joined (map share_lines shares)

unfoldable pub refused_line : ℕ → ℕ → List ℕ
refused_line number place = line_of (bytes "refused" ∷ digits_of number ∷ digits_of place ∷ [])
