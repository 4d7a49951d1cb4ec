-- `sharing::is_shared` meets its contract: there is a second part that names the lock just if two or more do.
-- Assumes nothing.
use Prim.Native.Nat.{ℕ}
use mathlib.Core.Path.{◌≡◌, refl, sym, ap, ◌∙◌}
use mathlib.Core.Bool.{Bool, true, false, not, ◌&&◌}
use mathlib.Core.List.{[]}
use borrow.Author.Tests.{eqb-true}
use lib.Dec.{eqb}
use lib.ListN.{length, take}
use lib.Seq.{take-length}
use Rattle.std.specs.List.{filter, slice_get}
use Rattle.std.proofs.Common.{rules, tests, option_map}
use Rattle.std.proofs.lemmas.Iterator.{YieldsList-from_slice}
use Rattle.std.proofs.lemmas.Iterator.Consumers.{YieldsList-at, YieldsList-from_filter, nth_from_yields_List}
use Rattle.sharing.specs.Code.Sharing.{has_number}
use Rattle.sharing.proofs.Second.{second}
use Rattle.sharing.proofs.is_shared.Goals as goal

-- 0 is the number of no lock
counts : (code : ℕ) (b : Bool) → (code ≡ 0 → ⊥) → b ≡ not (eqb code 0) && b
counts code b some = go (eqb code 0) refl
  where
    go : (t : Bool) → eqb code 0 ≡ t → b ≡ not (eqb code 0) && b
    go true e = absurd (some (eqb-true _ _ e))
    go false e = ap (λ (t : Bool). not t && b) (sym e)

pub returns-then-code-ne0 : goal.returns-then-code-ne0
returns-then-code-ne0 c =
    let code = c.args.code in
    let rows = c.args.parts.now in
    let test = has_number code in
    -- what `cc` is told: all rows are the rows
    let whole : take (length rows) rows ≡ rows = take-length rows in
    let found : option_map (λ y. y.now) c.nth.result ≡ slice_get (filter test rows) 1 =
    nth_from_yields_List c.nth.result _ 1 c.nth.ensures.ran
    (YieldsList-from_filter _ test (YieldsList-at c.filter-namers.ensures.source (YieldsList-from_slice rows (cc))) c.filter-namers.ensures.closure (λ x b q k. search (rules, tests))) in
    c.is_some.ensures ∙ second [] test rows c.nth.result found ∙ counts code _ c.if-code-ne0.true
