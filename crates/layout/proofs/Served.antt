-- Every part gets exactly Q ticks in each of its periods, if the rows pass the system test.
-- Assumes nothing.
use Prim.Native.Nat.{ℕ, zero, suc, ◌+◌, ◌≤◌, ◌<◌}
use native.Mathlib.Nat.{le_trans}
use native.Mathlib.Omega.{arith}
use mathlib.Core.Path.{◌≡◌, ◌∙◌}
use mathlib.Core.Bool.{true}
use mathlib.Core.List.{List, [], ◌∷◌, reverse}
use lib.ListN.{length, take, drop, get_or}
use Rattle.least.specs.Lists.{nth_or}
use Rattle.least.proofs.Lists.{nth_get}
use Rattle.least.proofs.Along.{along_places}
use Rattle.least.proofs.Members.{each_place, drop_member}
use Rattle.load.specs.declared.Row.{Row}
use Rattle.load.specs.Load.{load_at, demand_of, row_passes, passes_system}
use Rattle.load.specs.Code.Rows.{no_row}
use Rattle.load.proofs.Load.{row_passes_paper}
use Rattle.delivery.specs.Assignment.{Assignment, Delivers}
use Rattle.layout.specs.Layout.{part_ticks}
use Rattle.delivery.proofs.Given.{given_same}
use Rattle.layout.proofs.Share.{delivers}
use Rattle.layout.proofs.Holders.{first_gets, first_has, later_has}
use Rattle.layout.proofs.Clean.{Periods, taken_since}

-- the row of part k
abbrev pub row_of : ℕ → List Row → Row
row_of k rows = nth_or no_row k rows

-- a row that passes is some ticks long
row_long : (lower : List Row) (s : Row) (higher : List Row) → row_passes lower s higher ≡ true → 1 ≤ s.period
row_long lower s higher e = let p = (row_passes_paper lower s higher).0 e in le_trans p.1 p.2

-- the load of a row counts its budget and the demand of those above
load_counts : (lower : List Row) (s : Row) (higher : List Row) (t : ℕ) → s.budget + demand_of higher t ≤ load_at lower s higher t
unfolding load_at
load_counts lower s higher t = omega arith

-- the lowest row that is left is served
row_delivers : (lower : List Row) (s : Row) (higher : List Row) → Periods higher → row_passes lower s higher ≡ true → Delivers s.period s.budget (first_gets s higher)
row_delivers lower s higher h e =
    let p = (row_passes_paper lower s higher).0 e in
    let room = le_trans (load_counts lower s higher p.0) p.3 in
    delivers s.period s.budget _ p.0 (demand_of higher p.0) (row_long lower s higher e) p.2 room (taken_since higher h p.0)

pub delivers_same : (P Q : ℕ) (A B : Assignment) → ((y : ℕ) → A y ≡ B y) → Delivers P Q B → Delivers P Q A
delivers_same P Q A B h d n = given_same A B h _ P ∙ d n

-- a part's ticks, by those above it
pub part_gets : (k : ℕ) (rows : List Row) → k < length rows → (y : ℕ) → part_ticks rows (suc k) y ≡ first_gets (get_or rows k no_row) (drop (suc k) rows) y
part_gets k [] h y = absurd (omega arith)
part_gets zero (r ∷ rs) h y = first_has r rs y
part_gets (suc k) (r ∷ rs) h y = later_has r rs k y ∙ part_gets k rs (omega arith) y

module _ (rows : List Row) (p : passes_system rows ≡ true) where
  passes_at : (k : ℕ) → k < length rows → row_passes (reverse (take k rows)) (get_or rows k no_row) (drop (suc k) rows) ≡ true
  unfolding passes_system
  passes_at = (along_places row_passes no_row rows).0 p

  all_long : Periods rows
  all_long = each_place no_row (λ r. 1 ≤ r.period) rows (λ k h. row_long _ _ _ (passes_at k h))

  pub served_each : (k : ℕ) → 1 ≤ k → k ≤ length rows → Delivers (row_of k rows).period (row_of k rows).budget (part_ticks rows k)
  served_each zero l h = absurd (omega arith)
  served_each (suc k) l h =
      rw (nth_get no_row k rows) (delivers_same _ _ _ _ (part_gets k rows h) (row_delivers _ _ _ (λ r m. all_long r (drop_member (suc k) rows m)) (passes_at k h)))
