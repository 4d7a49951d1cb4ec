-- The layout repeats after 720 ticks, and the chart of one cycle, read over and over, serves every part.
-- Assumes nothing.
use Prim.Native.Nat.{ℕ, zero, suc, ◌+◌, ◌*◌, ◌/◌, ◌%◌, ◌≤◌, ◌<◌}
use native.Mathlib.Nat.{div-add-mod', mod-lt, zero-add}
use native.Mathlib.Omega.{arith}
use mathlib.Core.Path.{◌≡◌, refl, sym, ap, ap₂, ◌∙◌}
use mathlib.Core.Bool.{true}
use mathlib.Core.List.{List, [], ◌∷◌, Memᴰ}
use lib.Dec.{leb, eqb}
use lib.ListN.{length, get_or, length-map}
use Rattle.least.specs.Lists.{every, count_from}
use Rattle.least.proofs.Lists.{every_member}
use Rattle.least.proofs.Sums.{length_count}
use Rattle.least.proofs.Columns.{column_get}
use Rattle.least.proofs.Numbers.{numbers_most}
use Rattle.refusal.specs.Limits.{cycle}
use Rattle.load.specs.declared.Row.{Row}
use Rattle.load.specs.Load.{passes_system}
use Rattle.delivery.specs.Assignment.{Delivers}
use Rattle.layout.specs.Layout.{begins, holder_of, due_at, holder_at, chart, in_cycle}
use Rattle.layout.proofs.Share.{left_again}
use Rattle.layout.proofs.Holders.{taken, due_none, due_first}
use Rattle.layout.proofs.Served.{row_of, served_each, delivers_same}

-- where all periods begin anew at tick n, all repeats from there on
due_again : (n : ℕ) (rows : List Row) → ((r : Row) → Memᴰ r rows → begins r.period n ≡ true) → (y : ℕ) → due_at rows (n + y) ≡ due_at rows y
due_again n [] h y = due_none (n + y) ∙ sym (due_none y)
due_again n (r ∷ rs) h y =
    let ih : (u : ℕ) → due_at rs (n + u) ≡ due_at rs u = due_again n rs (λ s m. h s (Memᴰ.tail m)) in
    let l = left_again r.period r.budget (taken rs) n (h r (Memᴰ.head refl)) (λ u. ap (λ (d : List ℕ). leb 1 (holder_of d)) (ih u)) y in
    due_first r rs (n + y) ∙ ap₂ (λ (d : ℕ) (ds : List ℕ). d ∷ ds) l (ih y) ∙ sym (due_first r rs y)

pub holder_again : (rows : List Row) → every in_cycle rows ≡ true → (y : ℕ) → holder_at rows (cycle + y) ≡ holder_at rows y
unfolding in_cycle
holder_again rows c y = ap holder_of (due_again cycle rows (λ r m. every_member in_cycle rows c m) y)

pub chart_length : (rows : List Row) → length (chart rows) ≡ cycle
unfolding chart
chart_length rows = length-map (count_from 0 cycle) (holder_at rows) ∙ length_count cycle 0

pub chart_at : (rows : List Row) (y : ℕ) → y < cycle → get_or (chart rows) y 0 ≡ holder_at rows y
unfolding chart
chart_at rows y h = column_get (holder_at rows) 0 y cycle h

-- there are as many due numbers as parts, and no holder is above the last part
pub due_length : (rows : List Row) (y : ℕ) → length (due_at rows y) ≡ length rows
due_length [] y = ap (λ (l : List ℕ). length l) (due_none y)
due_length (r ∷ rs) y = ap (λ (l : List ℕ). length l) (due_first r rs y) ∙ ap suc (due_length rs y)

pub holder_most : (rows : List Row) (y : ℕ) → holder_at rows y ≤ length rows
unfolding holder_of
holder_most rows y = omega (arith, numbers_most (leb 1) 0 (due_at rows y), due_length rows y)

module _ (rows : List Row) (c : every in_cycle rows ≡ true) where
  cycles_again : (m y : ℕ) → holder_at rows (m * cycle + y) ≡ holder_at rows y
  cycles_again zero y = ap (holder_at rows) (zero-add y)
  cycles_again (suc m) y =
      let e : suc m * cycle + y ≡ cycle + (m * cycle + y) = omega arith in
      ap (holder_at rows) e ∙ holder_again rows c (m * cycle + y) ∙ cycles_again m y

  -- the chart tells the holder of every tick
  pub chart_repeated : (y : ℕ) → get_or (chart rows) (y % cycle) 0 ≡ holder_at rows y
  chart_repeated y =
      chart_at rows (y % cycle) (mod-lt y (omega arith)) ∙ sym (cycles_again (y / cycle) (y % cycle)) ∙ ap (holder_at rows) (div-add-mod' y cycle)

  pub chart_delivers : passes_system rows ≡ true → (k : ℕ) → 1 ≤ k → k ≤ length rows
      → Delivers (row_of k rows).period (row_of k rows).budget (λ y. eqb (get_or (chart rows) (y % cycle) 0) k)
  chart_delivers p k l h = delivers_same _ _ _ _ (λ y. ap (λ (j : ℕ). eqb j k) (chart_repeated y)) (served_each rows p k l h)
