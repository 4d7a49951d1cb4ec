-- `layout::lay_out` meets its contract. The invariant: the parts above the first k have their ticks.
-- Assumes nothing.
use Rattle.std.proofs.Common.{rules}
use Rattle.std.proofs.lemmas.List.{places, get_or-replicate}
use Rattle.std.proofs.lemmas.Slice.{drop-append-drop}
use Prim.Native.Nat.{ℕ, ◌-◌, ◌≤◌, ◌<◌}
use native.Mathlib.Omega.{arith}
use lib.ListN.{length, get_or, take, drop, replicate, length-append}
use lib.Seq.{length-take-le, get_or-take}
use mathlib.Core.Path.{◌≡◌, ap, ◌∙◌}
use mathlib.Core.List.{List, ◌++◌}
use Rattle.load.specs.declared.Rows.{Rows}
use Rattle.load.specs.Code.Rows.{no_row, FineRows}
use Rattle.load.specs.Weigh.{rows_of}
use Rattle.refusal.specs.Limits.{cycle}
use Rattle.layout.specs.Layout.{chart}
use Rattle.layout.proofs.Laying.{laid_start, laid_below, laid_all}
use Rattle.layout.proofs.lay_out.Goals as goal

-- the struct holds what it counts
rows_long : (rows : Rows) → FineRows rows → length (rows_of rows) ≡ rows.count
unfolding rows_of
rows_long rows f = length-take-le rows.count rows.rows f.room

row_at : (rows : Rows) → FineRows rows → (k : ℕ) → k < rows.count → get_or (rows_of rows) k no_row ≡ get_or rows.rows k no_row
unfolding rows_of
row_at rows f k l = get_or-take rows.count rows.rows k no_row l

-- the ticks of a cycle are free
zeros : (out new rest : List ℕ) → cycle ≤ length out → new ≡ replicate (length (take 720 out)) 0 → (y : ℕ) → y < 720 → get_or (new ++ rest) y 0 ≡ 0
zeros out new rest l e y h = let n = length-take-le 720 out l in rw (e, n) (search (rules, places, get_or-replicate))

long : (out new : List ℕ) → cycle ≤ length out → length new ≡ length (take 720 out) → length new ≡ 720
long out new l e = e ∙ length-take-le 720 out l

pub loop-k-init : goal.loop-k-init
loop-k-init c = laid_start (rows_of c.args.rows.now) c.args.rows.now.count (c.fill.new.self ++ drop 720 c.args.out.now) (rows_long c.args.rows.now c.requires.0) (zeros c.args.out.now c.fill.new.self _ c.requires.1 (c.fill.ensures.after (λ y e. e)))

pub loop-k-preserved : goal.loop-k-preserved
loop-k-preserved c =
    let l = c.loop-k in
    let R = c.args.rows.now in
    let f = c.requires.0 in
    let e = row_at R f (l.k - 1) (omega arith) in
    laid_below (rows_of R) l.k _ l.out _ c.loop-k-test.true (omega (arith, rows_long R f)) (rw e (f.each (l.k - 1) (omega arith)).period_some) l.invariant (rw e c.place.ensures)

pub returns : goal.returns
returns c =
    let l = c.loop-k in
    let e : l.k ≡ 0 = omega arith in
    let n = long c.args.out.now c.fill.new.self c.requires.1 c.fill.ensures.len in
    laid_all (rows_of c.args.rows.now) (c.fill.new.self ++ drop 720 c.args.out.now) l.out (simp length-append (omega (arith, n))) (rw e at l.invariant)
    ∙ ap (λ (rest : List ℕ). chart (rows_of c.args.rows.now) ++ rest) (drop-append-drop 720 c.args.out.now c.fill.new.self 720 (omega arith) n)
