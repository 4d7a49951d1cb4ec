-- The rows of a list, put into the struct one after another, and the weight of the struct.
-- Assumes nothing.
use Prim.Native.Nat.{ℕ, ◌+◌, min, ◌≤◌, ◌<◌}
use native.Mathlib.Decide.{dec_le}
use native.Mathlib.Omega.{arith}
use mathlib.Core.Path.{◌≡◌, refl, sym, ap, ◌∙◌}
use mathlib.Core.List.{List}
use borrow.Author.Tests.{le-leb, lt-leb}
use lib.ListN.{length, take, get_or, set}
use lib.Seq.{take-length}
use Rattle.least.proofs.Pad.{take_pad, pad_next}
use Rattle.refusal.specs.Limits.{row_limit}
use Rattle.load.specs.declared.Row.{Row}
use Rattle.load.specs.declared.Rows.{Rows}
use Rattle.load.specs.Load.{row}
use Rattle.load.specs.Weigh.{weigh_of, rows_of, weigh_rows}
use Rattle.load.specs.Code.Weigh.{rows_from}
use Rattle.load.proofs.Weighing.{wrong_count, weigh_many, weigh_few}

abbrev pub with_row : Rows → ℕ → Row → Rows
with_row all i r = record { rows = set all.rows i r; count = all.count }

-- one row more
pub rows_next : (xs : List Row) (n i : ℕ) → i < length xs → i < row_limit → with_row (rows_from (take i xs) n) i (get_or xs i (row 0 0 0)) ≡ rows_from (take (i + 1) xs) n
rows_next xs n i h l = ap (λ (rows : List Row). record { rows = rows; count = n }) (pad_next 16 (row 0 0 0) xs i (get_or xs i (row 0 0 0)) (row 0 0 0) h l refl)

-- the rows that have a place, with the count of all
pub weigh_first : (xs : List Row) → weigh_rows (rows_from (take (min (length xs) row_limit) xs) (length xs)) ≡ weigh_of xs
unfolding rows_of
weigh_first xs = go (dec_le (length xs) row_limit)
  where
    go : Dec (length xs ≤ row_limit) → weigh_rows (rows_from (take (min (length xs) row_limit) xs) (length xs)) ≡ weigh_of xs
    go (yes l) =
        let e : min (length xs) row_limit ≡ length xs = omega arith in
        weigh_few _ l ∙ ap weigh_of (ap (λ (rows : List Row). rows_of (rows_from rows (length xs))) (ap (λ (k : ℕ). take k xs) e ∙ take-length xs) ∙ take_pad 16 (row 0 0 0) xs l)
    go (no h) =
        let l : row_limit < length xs = omega arith in
        let m : 1 ≤ length xs = omega arith in
        weigh_many _ l ∙ sym (wrong_count xs (simp (le-leb _ _ m, lt-leb _ _ l)))
