-- `fields::is_name` meets its contract.
-- Assumes nothing.
use mathlib.Core.Path.{◌≡◌, ◌∙◌}
use mathlib.Core.Bool.{false, and-false}
use mathlib.Core.List.{List}
use lib.ListN.{length}
use Prim.Native.Nat.{ℕ, ◌≤◌, ◌<◌}
use borrow.Author.Tests.{le-leb, lt-leb}
use Rattle.std.proofs.Common.{rules, tests, ◌⊎◌, inl, inr}
use Rattle.std.specs.List.{list_all}
use Rattle.std.proofs.lemmas.Iterator.{YieldsList-from_slice}
use Rattle.std.proofs.lemmas.Iterator.Search.{all_from_yields_List}
use Rattle.fields.specs.Fields.{is_name, is_name_byte}
use Rattle.fields.proofs.Bytewise.{all_every}
use Rattle.fields.proofs.is_name.Goals as goal

pub returns-then-f-le-NAME_LIMIT : goal.returns-then-f-le-NAME_LIMIT
unfolding is_name
returns-then-f-le-NAME_LIMIT c =
    let f = c.args.f.now in
    let e : c.all.result ≡ list_all is_name_byte f = all_from_yields_List is_name_byte _ _ c.all.result c.all.ensures.ran (YieldsList-from_slice f (cc)) (λ x b q k. search (rules, tests)) in
    let h = c.if-f-le-NAME_LIMIT.true in
    simp (le-leb _ _ h.0, le-leb _ _ h.1) (e ∙ all_every is_name_byte f)

untested : (f : List ℕ) → ((1 ≤ length f) × (8 < length f)) ⊎ (length f < 1) → is_name f ≡ false
unfolding is_name
untested f (inl h) = simp (lt-leb (length f) 8 h.1, and-false)
untested f (inr h) = simp (lt-leb 1 (length f) h)

pub returns-else-f-le-NAME_LIMIT : goal.returns-else-f-le-NAME_LIMIT
returns-else-f-le-NAME_LIMIT c = cc (untested _ c.if-f-le-NAME_LIMIT.either)
