-- `hand_set::first_rows` meets its contract: each turn puts one row more into the struct.
-- Assumes nothing.
use Prim.Native.Nat.{ℕ, ◌<◌}
use native.Mathlib.Omega.{arith}
use mathlib.Core.Path.{◌≡◌, refl, ap, ap₂, ◌∙◌}
use lib.ListN.{length, take}
use Rattle.least.specs.Lists.{pad}
use Rattle.least.proofs.Members.{get_d_any}
use Rattle.load.specs.declared.Row.{Row}
use Rattle.load.specs.declared.Rows.{Rows}
use Rattle.load.specs.Load.{row}
use Rattle.load.specs.Code.Weigh.{rows_from}
use Rattle.hand_set.proofs.Gathered.{with_row, rows_next}
use Rattle.hand_set.proofs.first_rows.Goals as goal

pub loop-i-init : goal.loop-i-init
unfolding pad
loop-i-init c = refl

pub loop-i-preserved : goal.loop-i-preserved
loop-i-preserved c =
    let xs = c.args.rows.now in
    let i = c.loop-i.i in
    let h : i < length xs = omega arith in
    ap₂ (λ (all : Rows) (r : Row). with_row all i r) c.loop-i.invariant (get_d_any xs i _ (row 0 0 0) h) ∙ rows_next xs (length xs) i h (omega arith)

pub returns : goal.returns
returns c =
    let xs = c.args.rows.now in
    c.loop-i.invariant ∙ ap (λ (i : ℕ). rows_from (take i xs) (length xs)) (omega arith)
