-- `sharing::marks_by_number` meets its contract: each turn fills one place.
-- Assumes nothing.
use native.Mathlib.Omega.{arith}
use Prim.Native.Nat.{ℕ}
use mathlib.Core.Path.{◌≡◌, refl, ap, ◌∙◌}
use mathlib.Core.Bool.{Bool, false}
use mathlib.Core.List.{List}
use lib.ListN.{take, length-map}
use Rattle.least.specs.Lists.{pad}
use Rattle.refusal.specs.Limits.{lock_limit}
use Rattle.sharing.proofs.Filled.{filled_next, filled_all, pad_whole}
use Rattle.sharing.specs.Code.Sharing.{number_shared}
use Rattle.sharing.proofs.marks_by_number.Goals as goal

-- the first n parts are looked at
among : (m n : ℕ) (parts : List (List ℕ)) (code : ℕ) (r : Bool) → r ≡ number_shared (take m parts) code → m ≡ n → r ≡ number_shared (take n parts) code
among m n parts code r e same = e ∙ ap (λ (k : ℕ). number_shared (take k parts) code) same

pub loop-j-init : goal.loop-j-init
unfolding pad
loop-j-init c = refl

pub loop-j-preserved : goal.loop-j-preserved
loop-j-preserved c =
    let row = c.told-parts c.args.k c.requires.1 in
    filled_next _ lock_limit false _ (omega (arith, row)) c.loop-j.j _ _ _ c.loop-j.invariant (omega (arith, row, c.loop-j-test.true)) (among _ c.args.n c.args.parts.now _ _ c.is_shared.ensures (omega arith))

pub returns : goal.returns
returns c =
    let row = c.told-parts c.args.k c.requires.1 in
    let test = number_shared (take c.args.n c.args.parts.now) in
    filled_all test lock_limit false _ (omega (arith, row)) c.loop-j.j _ c.loop-j.invariant (omega (arith, row, c.loop-j-test.false))
    ∙ pad_whole lock_limit false _ (length-map _ test ∙ row)
