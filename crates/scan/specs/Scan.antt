-- What the scan of a line says (request M-102): whether question 2 holds and, if so, where the line's first five tabs stand.
--   start_behind ls       == where the line behind these lines begins: each has its bytes, and byte 10
--   is_tab b              == byte 9
--   tabs_in bs            == how many tabs there are
--   TabAt bs k i          == byte i of bs, from 0, is the tab with k tabs before it
--   Found l at r          == r says of the line l, which begins at `at`, where its byte 10 stands, how many there are of its first five tabs, and where each of them stands
--   OnlyZeros r           == r says nothing
--   ScanIs l at r         == r is what the scan says of the line l, which begins at `at`
--   EveryLineScanned scan == this is what a scan says of every line of every file
--   ScanSettled           == there is one such answer for a line
-- Assumes nothing.
use Rattle.std.specs.Prelude.{ℕ, suc, ◌+◌, ◌<◌, ◌≤◌, min, ◌≡◌, Bool, true, false, List, ◌∷◌, ◌++◌, map, eqb, length, take, get_or}
use Rattle.least.specs.Lists.{sum, those}
use Rattle.text.specs.Bytes.{Line, lines_of}
use Rattle.scan.specs.declared.Scanned.{Scanned}
use Rattle.scan.specs.Line.{line_is_good}

unfoldable pub start_behind : List Line → ℕ
start_behind ls = sum (map (λ l. suc (length l.body)) ls)

unfoldable pub is_tab : ℕ → Bool
is_tab b = eqb b 9

abbrev pub tabs_in : List ℕ → ℕ
tabs_in bs = length (those is_tab bs)

pub record TabAt (bs : List ℕ) (k i : ℕ) : Type 0 where
  pub within : i < length bs
  pub tab : get_or bs i 0 ≡ 9
  pub before : tabs_in (take i bs) ≡ k

pub record Found (l : Line) (at : ℕ) (r : Scanned) : Type 0 where
  pub end : r.end ≡ at + length l.body
  pub count : r.tabs.count ≡ min 5 (tabs_in l.body)
  -- positions in the file
  pub place : (k : ℕ) → k < r.tabs.count → (i : ℕ) × (get_or r.tabs.place k 0 ≡ at + i) × TabAt l.body k i
  pub unused : (k : ℕ) → r.tabs.count ≤ k → get_or r.tabs.place k 0 ≡ 0

pub record OnlyZeros (r : Scanned) : Type 0 where
  pub end : r.end ≡ 0
  pub count : r.tabs.count ≡ 0
  pub unused : (k : ℕ) → get_or r.tabs.place k 0 ≡ 0

pub record ScanIs (l : Line) (at : ℕ) (r : Scanned) : Type 0 where
  -- whether question 2 holds
  pub question2 : r.good ≡ line_is_good l
  -- if so, where its first five tabs stand
  pub good : r.good ≡ true → Found l at r
  pub bad : r.good ≡ false → OnlyZeros r
  -- the array, which is a list here, has five places
  pub places : length r.tabs.place ≡ 5

abbrev pub EveryLineScanned : (List ℕ → ℕ → Scanned) → Type 0
EveryLineScanned scan =
    (s : List ℕ) (above : List Line) (l : Line) (behind : List Line) → lines_of s ≡ above ++ (l ∷ behind) → ScanIs l (start_behind above) (scan s (start_behind above))

abbrev pub ScanSettled : Type 0
ScanSettled = (l : Line) (at : ℕ) (r q : Scanned) → ScanIs l at r → ScanIs l at q → r ≡ q
