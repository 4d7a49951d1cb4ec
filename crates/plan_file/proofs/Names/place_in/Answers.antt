-- `plan_file::Names::place_in` meets its contract.
-- Assumes nothing.
use mathlib.Core.Path.{◌≡◌, ◌∙◌}
use lib.ListN.{take}
use Rattle.std.proofs.Common.{rules, tests}
use Rattle.std.specs.List.{position}
use Rattle.std.proofs.lemmas.Iterator.{YieldsList-from_slice}
use Rattle.std.proofs.lemmas.Iterator.Search.{position_from_yields_List}
use Rattle.text.specs.Bytes.{same}
use Rattle.stretch.specs.declared.Span.{Span}
use Rattle.stretch.specs.Stretch.{bytes_of}
use Rattle.plan_file.specs.Code.Entries.{names_of}
use Rattle.plan_file.proofs.Places.{place_map}
use Rattle.plan_file.proofs.Names.place_in.Goals as goal

pub returns : goal.returns
unfolding names_of
returns c =
    let a = c.args in
    let qs = take a.self.now.count a.self.now.span in
    let name = bytes_of a.s.now a.p in
    let test = λ (q : Span). same name (bytes_of a.s.now q) in
    let e : c.position.result ≡ position test qs = position_from_yields_List test _ _ c.position.result c.position.ensures.ran (YieldsList-from_slice qs (cc)) (λ x b q k. search (rules, tests)) in
    e ∙ place_map a.s.now name qs
