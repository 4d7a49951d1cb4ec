-- `sharing::codes_over` meets its contract: each turn fills one place.
-- Assumes nothing.
use Prim.Native.Nat.{ℕ}
use native.Mathlib.Omega.{arith}
use mathlib.Core.Path.{◌≡◌, refl, sym, ap, ap₂, ◌∙◌}
use mathlib.Core.List.{List, ◌++◌, map, map-map}
use lib.ListN.{take, drop, set, length-map}
use lib.Seq.{take_all}
use Rattle.std.specs.Option.{unwrap_or}
use Rattle.stretch.specs.declared.Span.{Span}
use Rattle.stretch.specs.Stretch.{bytes_of}
use Rattle.codes.specs.Code.Codes.{code_if}
use Rattle.plan_file.specs.Code.Entries.{names_of}
use Rattle.sharing.specs.Code.Sharing.{code_or0}
use Rattle.sharing.proofs.Filled.{over_next}
use Rattle.sharing.proofs.codes_over.Goals as goal

pub loop-j-init : goal.loop-j-init
loop-j-init c = refl

pub loop-j-preserved : goal.loop-j-preserved
loop-j-preserved c =
    let l = c.loop-j in
    let value = c.unwrap_or.ensures ∙ ap (λ o. unwrap_or o 0) (c.name_code.ensures ∙ ap code_if c.bytes.ensures) in
    ap (λ (codes : List ℕ). set codes l.j c.unwrap_or.result) l.invariant
    ∙ over_next (λ p. code_or0 (bytes_of c.args.s.now p)) _ c.args.before l.j _ _ 0 c.loop-j-test.true (omega arith) value

pub returns : goal.returns
unfolding names_of
returns c =
    let l = c.loop-j in
    let names = take c.args.names.now.count c.args.names.now.span in
    let code = λ (p : Span). code_or0 (bytes_of c.args.s.now p) in
    let all : take l.j (map code names) ≡ map code names = take_all l.j (map code names) (rw (length-map names code) c.loop-j-test.false) in
    let count : l.j ≡ c.args.names.now.count = omega arith in
    l.invariant
    ∙ ap₂ (λ (front : List ℕ) (k : ℕ). front ++ drop k c.args.before) (all ∙ sym (map-map code_or0 (bytes_of c.args.s.now) names)) count
