-- Examples A to L of paper 01 and those of requests: every claim of the table holds, from the definitions.
-- Assumes nothing.
use Prim.Native.Nat.{◌+◌, ◌<◌}
use native.Mathlib.Omega.{arith}
use mathlib.Core.Path.{refl}
use mathlib.Core.List.{List, ◌++◌}
use lib.ListN.{take, drop}
use Rattle.examples.specs.Table.{Example, table, AllHold, ◌and◌, nothing_more}
use Rattle.examples.proofs.Opened.{opened}
use Rattle.examples.proofs.F.{keeps-F, keeps_f_one_named, keeps-F-alone}

smaller-B : (3 + 3 < 2 + 5) × (3 < 5)
smaller-B = (omega arith, omega arith)

paper_01_holds : AllHold (take 23 table)
unfolding opened
paper_01_holds =
    refl  -- A
    and refl and refl and refl and smaller-B and refl  -- B
    and refl and refl  -- C
    and refl  -- D
    and refl  -- E
    and keeps-F  -- F
    and refl  -- G
    and refl  -- H
    and refl  -- I
    and refl  -- J
    and refl and refl and refl and refl and refl  -- K
    and refl and refl and refl  -- L
    and nothing_more

requests_hold : AllHold (drop 23 table)
unfolding opened
requests_hold =
    refl and refl and keeps_f_one_named and keeps-F-alone  -- M-100
    and refl and refl and refl and refl and refl and refl and refl and refl  -- M-109
    and nothing_more

both_hold : {xs ys : List Example} → AllHold xs → AllHold ys → AllHold (xs ++ ys)
both_hold nothing_more h = h
both_hold (c and cs) h = c and both_hold cs h

pub examples : AllHold table
examples = both_hold paper_01_holds requests_hold
