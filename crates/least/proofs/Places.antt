-- Lists by places: what stands at a place of a list that is made from another.
-- Assumes nothing.
use Prim.Native.Nat.{ℕ, ◌≤◌, ◌<◌}
use native.Mathlib.Omega.{arith}
use mathlib.Core.Path.{◌≡◌, sym, ap, ◌∙◌}
use mathlib.Core.List.{List, map}
use lib.ListN.{length, take, get_or, length-map, get_or-map}
use lib.Seq.{ext_get_or, get_or-take, length-take-le}
use Rattle.least.proofs.Members.{get_d_any}

pub get-map : {A B : Type 0} (f : A → B) (xs : List A) (k : ℕ) (d : A) (e : B) → k < length xs → get_or (map f xs) k e ≡ f (get_or xs k d)
get-map f xs k d e h = get_d_any (map f xs) k e (f d) (rw (length-map xs f) h) ∙ get_or-map f xs k d

-- the first n of a list, changed one by one
pub map-take_each : {A B : Type 0} (f : A → B) (n : ℕ) (xs : List A) (ys : List B) (d : A) → n ≤ length xs → length ys ≡ n → ((k : ℕ) → k < n → f (get_or xs k d) ≡ get_or ys k (f d)) → map f (take n xs) ≡ ys
map-take_each f n xs ys d fits size each =
    let count : length (map f (take n xs)) ≡ n = length-map (take n xs) f ∙ length-take-le n xs fits in
    ext_get_or (f d) (map f (take n xs)) ys (count ∙ sym size)
    (λ k l. let h : k < n = omega (arith, l, count) in get_or-map f (take n xs) k d ∙ ap f (get_or-take n xs k d h) ∙ each k h)
