-- Only periods and budgets count in a layout, so a chart of columns is the chart of the rows that they come from.
--   Alike r s == two rows have one period and one budget
-- Assumes nothing.
use Prim.Native.Nat.{ℕ}
use mathlib.Core.Path.{◌≡◌, refl, sym, ap, ap₂, ◌∙◌, fun_ext}
use mathlib.Core.List.{List, ◌∷◌, map}
use lib.Dec.{leb}
use Rattle.least.specs.Lists.{count_from}
use Rattle.least.specs.Each.{Each}
use Rattle.least.specs.Each.Each.{none, more}
use Rattle.refusal.specs.Limits.{cycle}
use Rattle.load.specs.declared.Row.{Row}
use Rattle.delivery.specs.Assignment.{Assignment}
use Rattle.layout.specs.Layout.{holder_of, due_at, chart}
use Rattle.layout.proofs.Share.{left}
use Rattle.layout.proofs.Holders.{taken, due_first}

pub record Alike (r s : Row) : Type 0 where
  pub period : r.period ≡ s.period
  pub budget : r.budget ≡ s.budget

left_alike : (r s : Row) (A B : Assignment) → Alike r s → A ≡ B → (y : ℕ) → left r.period r.budget A y ≡ left s.period s.budget B y
left_alike r s A B h e y = rw (h.period, h.budget, e) refl

pub due_alike : {rs ss : List Row} → Each Alike rs ss → (y : ℕ) → due_at rs y ≡ due_at ss y
due_alike none y = refl
due_alike (more {x = r} {y = s} {xs = rs} {ys = ss} h hs) y =
    let e : taken rs ≡ taken ss = fun_ext (λ u. ap (λ (d : List ℕ). leb 1 (holder_of d)) (due_alike hs u)) in
    due_first r rs y ∙ ap₂ (λ (d : ℕ) (ds : List ℕ). d ∷ ds) (left_alike r s (taken rs) (taken ss) h e y) (due_alike hs y) ∙ sym (due_first s ss y)

pub chart_alike : {rs ss : List Row} → Each Alike rs ss → chart rs ≡ chart ss
unfolding chart
chart_alike h = ap (λ (f : ℕ → ℕ). map f (count_from 0 cycle)) (fun_ext (λ y. ap holder_of (due_alike h y)))
