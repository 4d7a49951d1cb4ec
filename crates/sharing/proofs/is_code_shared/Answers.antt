-- `sharing::is_code_shared` meets its contract: there is a second part that names the lock just if two or more do.
-- Assumes nothing.
use mathlib.Core.Path.{◌≡◌, sym, ap, ◌∙◌}
use mathlib.Core.Bool.{Bool, ◌&&◌}
use mathlib.Core.List.{[]}
use lib.Dec.{leb}
use lib.ListN.{length, take}
use lib.Seq.{take-length}
use Rattle.std.specs.List.{count_by, filter, slice_get}
use Rattle.std.proofs.Common.{rules, tests, option_map}
use Rattle.std.proofs.lemmas.Iterator.{YieldsList-from_slice}
use Rattle.std.proofs.lemmas.Iterator.Consumers.{YieldsList-at, YieldsList-from_filter, nth_from_yields_List}
use Rattle.sharing.specs.Code.Sharing.{names_it}
use Rattle.sharing.proofs.Second.{second}
use Rattle.sharing.proofs.is_code_shared.Goals as goal

pub returns-then-is_some : goal.returns-then-is_some
returns-then-is_some c =
    let rows = c.args.rows.now in
    let test = names_it c.args.code in
    -- what `cc` is told: all rows are the rows
    let whole : take (length rows) rows ≡ rows = take-length rows in
    let found : option_map (λ y. y.now) c.nth.result ≡ slice_get (filter test rows) 1 =
    nth_from_yields_List c.nth.result _ 1 c.nth.ensures.ran
    (YieldsList-from_filter _ test (YieldsList-at c.filter-namers.ensures.source (YieldsList-from_slice rows (cc))) c.filter-namers.ensures.closure (λ x b q k. search (rules, tests))) in
    c.is_some-then-is_some.ensures ∙ second [] test rows c.nth.result found ∙ ap (λ (b : Bool). b && leb 2 (count_by test rows)) (sym c.if-is_some.true ∙ c.is_some.ensures)
