-- `codes::name_code` meets its contract. The invariant: the bytes behind those that are left are bytes of a name, and the number is theirs.
-- Assumes nothing.
use Prim.Native.Nat.{ℕ, ◌+◌, ◌*◌, ◌^◌, ◌<◌}
use native.Mathlib.Omega.{arith}
use mathlib.Core.Path.{◌≡◌, sym, subst}
use mathlib.Core.Bool.{true}
use mathlib.Core.List.{List, [], ◌∷◌, ◌++◌}
use Rattle.std.proofs.lemmas.Grind.{common_steps}
use Rattle.fields.specs.Fields.{is_name_byte}
use Rattle.codes.proofs.Codes.{Read, read_none, read_more, read_fits, read_stop, read_all, code_of_length}
use Rattle.codes.proofs.name_code.Goals as goal
use Rattle.codes.proofs.name_code.Goals.{In-Some, Else-not-is_name_byte}

-- the last byte of those that are left
read : (c : In-Some) → Read c.args.f.now (c.next.new.self.iter.rest.now ++ (c.in-Some.b.now ∷ [])) c.loop-b.code
read c = rw c.in-Some.ensures.steps at c.loop-b.invariant.2

-- it is one of a name
good : (c : Else-not-is_name_byte) → is_name_byte c.in-Some.b.now ≡ true
good c = cc

fits : (c : Else-not-is_name_byte) → c.loop-b.code * 256 + c.in-Some.b.now < 2 ^ 64
fits c = read_fits _ _ _ _ (read (goal.at.Else-not-is_name_byte c).In-Some) c.loop-b.invariant.1 (good c)

pub returns-then-f-lt1 : goal.returns-then-f-lt1
returns-then-f-lt1 c = sym (code_of_length _ c.then-f-lt1.either)

pub loop-b-init : goal.loop-b-init
loop-b-init c =
    let f = c.args.f.now in
    let e : f ≡ c.into_iter-b-iterator.result.iter.rest.now = grind (arith, common_steps) in
    (c.if-f-lt1.false, c.if-f-gt-NAME_LIMIT.false, subst (λ (r : List ℕ). Read f r 0) e (read_none f))

pub returns-then-not-is_name_byte : goal.returns-then-not-is_name_byte
returns-then-not-is_name_byte c = sym (read_stop _ _ _ _ (read (goal.at.returns-then-not-is_name_byte c).In-Some) (cc))

pub overflow_mul-code : goal.overflow_mul-code
overflow_mul-code c = omega (arith, fits c)

pub overflow_add-code : goal.overflow_add-code
overflow_add-code c = omega (arith, fits (goal.at.overflow_add-code c).Else-not-is_name_byte)

pub loop-b-preserved : goal.loop-b-preserved
loop-b-preserved c =
    let e = (goal.at.loop-b-preserved c).Else-not-is_name_byte in
    (c.loop-b.invariant.0, c.loop-b.invariant.1, rw c.from.ensures (read_more _ _ _ _ (read (goal.at.Else-not-is_name_byte e).In-Some) (good e)))

pub returns : goal.returns
returns c = let v = c.loop-b.invariant in sym (read_all _ _ _ c.in-None.ensures.steps.0 v.0 v.1 v.2)
