-- `codes::place_of` meets its contract: the place that `position` gives is the one that is asked for.
-- Assumes nothing.
use mathlib.Core.Path.{◌≡◌}
use lib.Dec.{eqb}
use Rattle.std.proofs.Common.{arith, rules, tests}
use Rattle.std.proofs.lemmas.Iterator.{YieldsList-from_slice}
use Rattle.std.proofs.lemmas.Iterator.Search.{position_from_yields_List}
use Rattle.codes.specs.Code.Codes.{place_of}
use Rattle.codes.proofs.place_of.Goals as goal

pub returns : goal.returns
returns c =
    let code = c.args.code in
    let codes = c.args.codes.now in
    let e : c.position.result ≡ place_of code codes = position_from_yields_List (λ x. eqb x code) _ _ c.position.result c.position.ensures.ran (YieldsList-from_slice codes (cc)) (λ x b q k. search (rules, tests)) in
    grind (arith, e)
