-- One more call after those before it, where it was answered as they were; or none, where there was nothing to lend.
use Rattle.std.proofs.Common.{◌≡◌, refl, List, [], ◌∷◌, ◌++◌, Result, Ok, Err, sym, subst}
use Rattle.std.specs.Prelude.{MatchResult, OnOk}
use Rattle.std.specs.List.{FoldsTo}
use Rattle.std.proofs.lemmas.Fn.{FoldsTo-push}

pub one_more : {P X T : Type 0} (S : P → X → T → P → Type 0) (ok : T) (first before after : P) (x : X) (r : T) → ((xs : List X) × FoldsTo (λ p y q. S p y ok q) first xs before) → S before x r after → r ≡ ok → (xs : List X) × FoldsTo (λ p y q. S p y ok q) first xs after
one_more S ok first before after x r (xs, calls) call e =
    (xs ++ (x ∷ []), FoldsTo-push (λ p y q. S p y ok q) first xs before x after calls (subst (λ v. S before x v after) e call))

pub one_or_none : {P X Y Q R E T : Type 0} (S : P → X → T → P → Type 0) (C : R → Q → Y → Type 0) (named : Y → X) (ok : T) (first before after : P) (opened : Result R E) → ((xs : List X) × FoldsTo (λ p y q. S p y ok q) first xs before) → MatchResult opened (λ r. (y : Y) × (q : Q) × C r q y × S before (named y) ok after) (λ _. after ≡ before) → (xs : List X) × FoldsTo (λ p y q. S p y ok q) first xs after
one_or_none S C named ok first before after (Ok r) calls (y, q, given, call) = one_more S ok first before after (named y) ok calls call refl
one_or_none S C named ok first before after (Err e) (xs, calls) same = (xs, subst (FoldsTo (λ p y q. S p y ok q) first xs) (sym same) calls)

-- where a call is answered with Ok, what it did with that answer
pub answered : {Y E P : Type 0} (S : Y → Result (Unit {0}) E → Type 0) (y : Y) (r : Result (Unit {0}) E) → S y r → (S y (Ok tt) → P) → OnOk r P
answered S y (Ok tt) s f = f s
answered S y (Err e) s f = tt
