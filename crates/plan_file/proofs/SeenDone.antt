-- What it says that every question of a record has the answer yes.
-- Assumes nothing.
use Prim.Native.Nat.{ℕ, zero, suc, ◌≤◌, ◌<◌}
use mathlib.Core.Path.{◌≡◌, refl}
use mathlib.Core.Bool.{Bool, true, false, ◌&&◌}
use mathlib.Core.List.{List, [], ◌∷◌}
use borrow.Author.Tests.{leb-true, not-true}
use lib.Dec.{leb}
use lib.ListN.{length, get_or}
use Rattle.least.proofs.Lists.{and_iff}
use Rattle.text.specs.Bytes.{mention}
use Rattle.text.specs.Decimal.{value_of}
use Rattle.refusal.specs.declared.Outcome.TheVariants.{Done}
use Rattle.refusal.specs.declared.Refusal.TheVariants.{FileTooLong, Misplaced}
use Rattle.refusal.specs.Limits.{number_limit, part_limit, task_limit, lock_limit}
use Rattle.refusal.specs.Questions.{Question, ask, first_no}
use Rattle.refusal.specs.FirstNo.{all_yes}
use Rattle.refusal.proofs.Questions.{done_iff}
use Rattle.fields.specs.Fields.{is_name, is_number}
use Rattle.fields.proofs.Fields.{number_iff}
use Rattle.plan_file.specs.Reading.{part_questions, task_questions, lock_questions}

number_range : (c : List ℕ) → is_number c ≡ true → (1 ≤ value_of c) × (value_of c ≤ number_limit)
number_range c e = let n = (number_iff c).0 e in (n.from, n.to)

-- the answer to each question, counted from 0
yes_in : (qs : List Question) → all_yes qs ≡ true → (k : ℕ) → (get_or qs k (ask FileTooLong true)).yes ≡ true
unfolding all_yes
yes_in [] e k = refl
yes_in (q ∷ qs) e zero = ((and_iff q.yes (all_yes qs)).0 e).0
yes_in (q ∷ qs) e (suc k) = yes_in qs ((and_iff q.yes (all_yes qs)).0 e).1 k

yes_at : (qs : List Question) → first_no qs ≡ Done → (k : ℕ) → (get_or qs k (ask FileTooLong true)).yes ≡ true
yes_at qs e k = yes_in qs ((done_iff qs).0 e) k

pub part_done : (n : ℕ) (allowed : Bool) (parts : List (List ℕ)) (name P : List ℕ) → first_no (part_questions n allowed parts name P) ≡ Done → (allowed ≡ true) × (length parts < part_limit) × (1 ≤ value_of P) × (value_of P ≤ number_limit) × (is_name name ≡ true)
unfolding part_questions
part_done n allowed parts name P e =
    let yes-to = yes_at (part_questions n allowed parts name P) e in
    let p = number_range P (yes-to 3) in
    (yes-to 0, leb-true (suc (length parts)) part_limit (yes-to 4), p.0, p.1, yes-to 1)

pub task_done : (n : ℕ) (allowed : Bool) (tasks : List (List ℕ)) (name T C D : List ℕ) → first_no (task_questions n allowed tasks name T C D) ≡ Done → (allowed ≡ true) × (length tasks < task_limit) × (1 ≤ value_of C) × (value_of C ≤ value_of D) × (value_of D ≤ value_of T) × (value_of T ≤ number_limit) × (is_name name ≡ true)
unfolding task_questions
task_done n allowed tasks name T C D e =
    let yes-to = yes_at (task_questions n allowed tasks name T C D) e in
    let numbers = (and_iff (is_number T) (is_number C && is_number D)).0 (yes-to 3) in
    let order = (and_iff (leb (value_of C) (value_of D)) (leb (value_of D) (value_of T))).0 (yes-to 4) in
    (yes-to 0, leb-true (suc (length tasks)) task_limit (yes-to 5), (number_range C ((and_iff (is_number C) (is_number D)).0 numbers.1).0).0, leb-true (value_of C) (value_of D) order.0, leb-true (value_of D) (value_of T) order.1, (number_range T numbers.0).1, yes-to 1)

pub lock_done : (n : ℕ) (allowed known : Bool) (locks : List (List ℕ)) (C : ℕ) (name c : List ℕ) → first_no (lock_questions n allowed known locks C name c) ≡ Done → (allowed ≡ true) × (known ≡ false) × (1 ≤ value_of c) × (length (mention locks name) ≤ lock_limit) × (value_of c ≤ C) × (is_name name ≡ true)
unfolding lock_questions
lock_done n allowed known locks C name c e =
    let yes-to = yes_at (lock_questions n allowed known locks C name c) e in
    (yes-to 0, not-true known (yes-to 2), (number_range c (yes-to 3)).0, leb-true (length (mention locks name)) lock_limit (yes-to 5), leb-true (value_of c) C (yes-to 4), yes-to 1)

pub end_done : (n : ℕ) (allowed : Bool) → first_no (ask (Misplaced n) allowed ∷ []) ≡ Done → allowed ≡ true
end_done n allowed e = yes_at (ask (Misplaced n) allowed ∷ []) e 0
