-- A second element that passes: there is one just if two or more pass.
-- Assumes nothing.
use Prim.Native.Nat.{◌<◌}
use native.Mathlib.Omega.{arith}
use mathlib.Core.Path.{◌≡◌, refl, sym, ◌∙◌}
use mathlib.Core.Bool.{Bool, true, false}
use mathlib.Core.List.{List}
use borrow.Author.Tests.{leb-true, le-leb}
use lib.Dec.{leb}
use lib.ListN.{length, get_or}
use Rattle.std.specs.List.{count_by, filter, slice_get}
use Rattle.std.specs.Option.{is_some}
use Rattle.std.proofs.Common.{Option, Some, None, Bor, option_map}
use Rattle.std.proofs.lemmas.List.Sums.{length-filter}
use Rattle.std.proofs.lemmas.Option.{slice_get_within, slice_get-get_or}

-- whether there is a second element that passes
pub second : {A : Type 0} (d : A) (test : A → Bool) (xs : List A) (o : Option (Bor A)) → option_map (λ y. y.now) o ≡ slice_get (filter test xs) 1 → is_some o ≡ leb 2 (count_by test xs)
second d test xs (Some y) e =
    let within : 1 < length (filter test xs) = slice_get_within (filter test xs) 1 y.now (sym e) in
    sym (le-leb 2 (count_by test xs) (omega (arith, within, length-filter test xs)))
second {A} d test xs None e = go (leb 2 (count_by test xs)) refl
  where
    go : (b : Bool) → leb 2 (count_by test xs) ≡ b → false ≡ leb 2 (count_by test xs)
    go true f =
        let some : slice_get (filter test xs) 1 ≡ Some (get_or (filter test xs) 1 d) = slice_get-get_or (filter test xs) 1 d (omega (arith, leb-true _ _ f, length-filter test xs)) in
        let none : ◌≡◌ {A = Option A} None (Some (get_or (filter test xs) 1 d)) = e ∙ some in cc
    go false f = sym f
