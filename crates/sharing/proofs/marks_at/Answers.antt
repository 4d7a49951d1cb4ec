-- `sharing::marks_at` meets its contract: each turn fills one place.
-- Assumes nothing.
use native.Mathlib.Omega.{arith}
use mathlib.Core.Path.{◌≡◌, refl, ◌∙◌}
use mathlib.Core.Bool.{false}
use mathlib.Core.List.{[]}
use Rattle.std.proofs.Common.{None}
use lib.ListN.{length, take, get_or, length-map}
use lib.Seq.{take-length}
use Rattle.least.specs.Lists.{pad}
use Rattle.refusal.specs.Limits.{lock_limit}
use Rattle.sharing.proofs.Filled.{filled_next, filled_all, pad_whole}
use Rattle.sharing.specs.Code.Sharing.{code_shared}
use Rattle.sharing.proofs.marks_at.Goals as goal

pub loop-j-init : goal.loop-j-init
unfolding pad
loop-j-init c = refl

pub loop-j-preserved : goal.loop-j-preserved
loop-j-preserved c =
    let row = c.told-parts c.args.k c.requires in
    -- what `cc` is told: all rows are the rows
    let whole : take (length c.args.parts.now) c.args.parts.now ≡ c.args.parts.now = take-length c.args.parts.now in
    filled_next (code_shared c.args.parts.now) lock_limit false (get_or c.args.parts.now c.args.k []) (omega (arith, row)) c.loop-j.j None c.loop-j.marks c.is_code_shared.result c.loop-j.invariant (omega (arith, row, c.loop-j-test.true)) (let is = c.is_code_shared.ensures in cc is)

pub returns : goal.returns
returns c =
    let row = c.told-parts c.args.k c.requires in
    let test = code_shared c.args.parts.now in
    filled_all test lock_limit false _ (omega (arith, row)) c.loop-j.j _ c.loop-j.invariant (omega (arith, row, c.loop-j-test.false))
    ∙ pad_whole lock_limit false _ (length-map _ test ∙ row)
