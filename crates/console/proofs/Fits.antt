-- A listing that is answered fits the bytes that are lent, and 3,470 bytes are enough for any listing; so the program's 8,192 are.
-- Assumes nothing.
use Prim.Native.Nat.{ℕ, ◌≤◌}
use native.Mathlib.Omega.{arith}
use mathlib.Core.Path.{◌≡◌, refl, sym, ap, ◌∙◌}
use mathlib.Core.List.{List}
use Rattle.refusal.specs.declared.Refusal.{Refusal}
use Rattle.refusal.specs.declared.Refusal.TheVariants.{NoRoom}
use Rattle.refusal.specs.Number.{refusal_number}
use Rattle.refusal.specs.Questions.{Answer}
use Rattle.refusal.specs.Questions.Answer.{answered, refused}
use Rattle.refusal.proofs.Answers.{answered_not_refused, answer_same_refusal}
use Rattle.plan_file.specs.Numbers.{PlanPart, parts_of}
use Rattle.plan_file.proofs.PlanParts.{parts_fine, parts_few}
use Rattle.listing.proofs.Lengths.{listing_limit}
use Rattle.answers.specs.Answers.{plan_of}
use Rattle.answers.proofs.PlanRows.{plan_unread}
use Rattle.planner.specs.Demand3.{NoneToPlan, Demanded}
use Rattle.planner.specs.Demand3.NoneToPlan.{ten, eleven}
use Rattle.planner.specs.Demand3.Demanded.{none_passes, fits, too_long}
use Rattle.planner.proofs.Demand3.{plan_demanded}
use Rattle.planner.proofs.Short.{printed_most}
use Rattle.planner.proofs.Behind.{unread_by_no_other}
use Rattle.console.specs.Printed.{program_room}

-- refusals 10 and 11 are not 14
number_not_14 : (r : Refusal) → refusal_number r ≤ 11 → r ≡ NoRoom → ⊥
number_not_14 r h e = omega (arith, ap refusal_number e)

none_to_11 : {ps : List PlanPart} {r : Refusal} → NoneToPlan ps r → refusal_number r ≤ 11
none_to_11 (ten n) = omega arith
none_to_11 (eleven each never) = omega arith

pub enough_room : (room : ℕ) → listing_limit ≤ room → (s : List ℕ) → plan_of s room ≡ refused NoRoom → ⊥
enough_room room h s e = go (parts_of s) refl
  where
    read : (ps : List PlanPart) → parts_of s ≡ answered ps → (a : Answer (List ℕ)) → a ≡ refused NoRoom → Demanded ps room a → ⊥
    read ps f a d (none_passes {r} n) = number_not_14 r (none_to_11 n) (answer_same_refusal d)
    read ps f a d (fits p l) = answered_not_refused d
    read ps f a d (too_long p l) = omega (arith, l, printed_most (parts_fine s ps f) p (parts_few s ps f))

    go : (a : Answer (List PlanPart)) → parts_of s ≡ a → ⊥
    go (answered ps) f = read ps f (plan_of s room) e (plan_demanded s room ps f)
    go (refused r) f = unread_by_no_other s r NoRoom f refl (answer_same_refusal (sym (plan_unread s r f room) ∙ e))

-- the program lends 8,192 bytes, enough for any listing
pub any_listing_fits : (s : List ℕ) → plan_of s program_room ≡ refused NoRoom → ⊥
any_listing_fits s e = enough_room program_room (omega arith) s e
