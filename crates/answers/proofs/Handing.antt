-- What is handed on and over of an answer in lent bytes.
-- Assumes nothing.
use Prim.Native.Nat.{ℕ}
use mathlib.Core.Path.{◌≡◌, refl, sym, ap, ◌∙◌}
use mathlib.Core.List.{List}
use Rattle.std.specs.Prelude.{Result, Err}
use Rattle.refusal.specs.declared.Refusal.{Refusal}
use Rattle.refusal.specs.Questions.{Answer}
use Rattle.refusal.specs.Questions.Answer.{answered, refused}
use Rattle.answers.specs.declared.Planned.{Planned}
use Rattle.answers.specs.Answers.{planned, buffer_after, HandedOver}
use Rattle.answers.specs.Code.Handing.{count_of, planned_from, HandedOn}

-- a refusal goes up, and no byte changes
pub refused_on : (a : Answer (List ℕ)) (out : List ℕ) (r : Refusal) → a ≡ refused r → HandedOn a out (Err r) out
unfolding count_of buffer_after
refused_on a out r e = record { result = sym (ap count_of e); bytes = sym (ap (λ (b : Answer (List ℕ)). buffer_after b out) e) }

planned_same : (a : Answer (List ℕ)) → planned_from (count_of a) ≡ planned a
unfolding count_of planned
planned_same (answered text) = refl
planned_same (refused r) = refl

-- what was handed on is handed over
pub handed_over : {a : Answer (List ℕ)} {before after : List ℕ} {r : Result ℕ Refusal} {p : Planned} → HandedOn a before r after → p ≡ planned_from r → HandedOver a before p after
handed_over {a} h e = record { result = e ∙ ap planned_from h.result ∙ planned_same a; bytes = h.bytes }
