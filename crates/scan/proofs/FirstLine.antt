-- What `line_at` says of the line that begins at a place, in the words of request M-102.
-- Assumes nothing.
use Prim.Native.Nat.{ℕ, ◌+◌, ◌≤◌, ◌<◌, min}
use native.Mathlib.Decide.{dec_lt}
use native.Mathlib.Omega.{arith}
use mathlib.Core.Path.{◌≡◌, refl, sym, ap, ◌∙◌}
use mathlib.Core.Bool.{Bool, true, false, cond, false≢true}
use mathlib.Core.List.{List, []}
use borrow.Author.Tests.{eq-eqb, eqb-true}
use lib.ListN.{length, drop, get_or, get_or-eq_default}
use Rattle.least.specs.Lists.{pad}
use Rattle.least.proofs.Numbers.{PassesBehind, numbers_length, numbers_each}
use Rattle.least.proofs.Pad.{length_pad, get_d_pad}
use Rattle.text.specs.Bytes.{Line}
use Rattle.scan.specs.Line.{line_is_good}
use Rattle.scan.specs.Scan.{is_tab, TabAt, Found, OnlyZeros, ScanIs}
use Rattle.scan.specs.Positions.{first_line, tabs_from, first_five, line_at}
use Rattle.scan.proofs.Scan.{good_at, not_good}

-- a tab with k tabs before it is an element that passes with k before it, and the reverse
tab_at : (bs : List ℕ) (k i : ℕ) → PassesBehind is_tab 0 bs k i → TabAt bs k i
unfolding is_tab
tab_at bs k i p = record { within = p.within; tab = eqb-true _ _ p.passes; before = p.before }

pub passes_behind : (bs : List ℕ) (k i : ℕ) → TabAt bs k i → PassesBehind is_tab 0 bs k i
unfolding is_tab
passes_behind bs k i t = record { within = t.within; passes = eq-eqb _ _ t.tab; before = t.before }

-- the first five tabs of a line that begins at `at`
unused : (ts : List ℕ) (k : ℕ) → min 5 (length ts) ≤ k → get_or (pad 5 0 ts) k 0 ≡ 0
unused ts k h = go (dec_lt k 5)
  where
    go : Dec (k < 5) → get_or (pad 5 0 ts) k 0 ≡ 0
    go (yes l) = get_d_pad 5 0 ts k l ∙ get_or-eq_default ts 0 {n = k} (omega arith)
    go (no l) = get_or-eq_default (pad 5 0 ts) 0 {n = k} (rw length_pad (omega arith))

first_five_lem : (bs : List ℕ) (at k : ℕ) → k < min 5 (length (tabs_from bs at)) → (i : ℕ) × (get_or (pad 5 0 (tabs_from bs at)) k 0 ≡ at + i) × TabAt bs k i
first_five_lem bs at k h =
    let r = numbers_each is_tab 0 at k bs (omega arith) in
    (r.0, get_d_pad 5 0 (tabs_from bs at) k (omega arith) ∙ r.1, tab_at bs k r.0 r.2)

-- of the line that begins at `at`
module _ (l : Line) (at : ℕ) where
  found : Found l at (good_at (at + length l.body) (first_five (tabs_from l.body at)))
  unfolding first_five
  found =
      record {
        end = refl;
        count = ap (min 5) (numbers_length is_tab at l.body);
        place = first_five_lem l.body at;
        unused = unused (tabs_from l.body at);
      }

  only_zeros : OnlyZeros not_good
  unfolding first_five
  only_zeros = record { end = refl; count = refl; unused = λ k. unused [] k (omega arith) }

  scan_is : (b : Bool) → line_is_good l ≡ b → ScanIs l at (cond b (good_at (at + length l.body) (first_five (tabs_from l.body at))) not_good)
  unfolding first_five
  scan_is true e = record { question2 = sym e; good = λ g. found; bad = λ g. absurd (false≢true (sym g)); places = length_pad 5 0 _ }
  scan_is false e = record { question2 = sym e; good = λ g. absurd (false≢true g); bad = λ g. only_zeros; places = length_pad 5 0 _ }

pub first_scanned : (s : List ℕ) (at : ℕ) → ScanIs (first_line (drop at s)) at (line_at s at)
unfolding line_at
first_scanned s at = scan_is (first_line (drop at s)) at (line_is_good (first_line (drop at s))) refl
