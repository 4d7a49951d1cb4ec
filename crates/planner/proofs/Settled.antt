-- Demand 3 leaves nothing free: two listings that satisfy `Printed` for the same parts are equal, and so are two answers that satisfy `Demanded` for the same parts and
-- room. An operation that meets demand 3 answers a readable file just as `plan` does, and one that meets demand 1 too, every file. Demand 2 leaves nothing of a chart free.
-- Assumes nothing.
use Prim.Native.Nat.{ℕ, ◌≤◌}
use native.Mathlib.Omega.{arith}
use native.Mathlib.Decide.{dec_le}
use mathlib.Core.Path.{◌≡◌, refl, sym, ap, ap₂, subst, ◌∙◌}
use mathlib.Core.Logic.{◌↔◌}
use mathlib.Core.List.{List, ◌∷◌, map}
use lib.ListN.{length}
use Rattle.least.specs.Each.{Each}
use Rattle.least.specs.Each.Each.{none, more}
use Rattle.refusal.specs.declared.Refusal.{Refusal}
use Rattle.refusal.specs.declared.Refusal.TheVariants.{NoBudget}
use Rattle.refusal.specs.Questions.{Answer}
use Rattle.refusal.specs.Questions.Answer.{answered, refused}
use Rattle.refusal.proofs.Answers.{answer_same_value}
use Rattle.task_set.specs.Partition.{Partition}
use Rattle.load.specs.declared.Row.{Row}
use Rattle.load.specs.Load.{bounds_of}
use Rattle.layout.specs.Layout.{chart}
use Rattle.candidates.specs.Candidates.{pair, shown_ceiling}
use Rattle.plan_file.specs.Numbers.{PlanPart, parts_of}
use Rattle.plan_file.proofs.Reading.{parts_refused_iff}
use Rattle.listing.specs.Listing.{Share, ceilings_under, listing_of}
use Rattle.answers.specs.declared.Planned.{Planned}
use Rattle.answers.specs.Answers.{chart_of, HandedOver, PlanAnswered}
use Rattle.answers.specs.Plan.{Plan}
use Rattle.answers.specs.Choice.{FromKept}
use Rattle.answers.proofs.KeptRows.{map_of_each}
use Rattle.answers.proofs.PlanRows.{plan_unread}
use Rattle.planner.specs.Refusals.{RefusedBehind, chart_questions}
use Rattle.planner.specs.Numbers.{ChartIs}
use Rattle.planner.specs.Demand1.{Demand1}
use Rattle.planner.specs.Demand3.{printed_rows, PrintedShare, Printed, NoBudgetAt, NoneToPlan, Demanded, Demand3}
use Rattle.planner.specs.Demand3.NoneToPlan.{ten, eleven}
use Rattle.planner.specs.Demand3.Demanded.{none_passes, fits, too_long}
use Rattle.planner.proofs.Demand3.{plan_demanded}
use Rattle.planner.proofs.Refusals.{every_refusal}
use Rattle.planner.proofs.Numbers.{every_number}
use Rattle.planner.proofs.Exactly.{none_to_plan, printed_passes}

-- two kept rows of a part with the same X are one
module _ (v : Partition) (r s : Row) (k : FromKept v r) (l : FromKept v s) (a : r.holding ≤ s.holding) (b : s.holding ≤ r.holding) where
  same_pair : pair r.budget r.holding ≡ pair s.budget s.holding
  same_pair = go (dec_le r.budget s.budget)
    where
      go : Dec (r.budget ≤ s.budget) → pair r.budget r.holding ≡ pair s.budget s.holding
      go (yes h) = l.kept.alone _ k.kept.candidate a (omega arith)
      go (no h) = sym (k.kept.alone _ l.kept.candidate b (omega arith))

  same_row : r ≡ s
  same_row i = record { period = (k.period ∙ sym l.period) i; budget = (same_pair i).budget; holding = (same_pair i).holding }

same_rows : {vs : List Partition} {rs ss : List Row} → Each FromKept vs rs → Each FromKept vs ss → Each (λ r s. s.holding ≤ r.holding) rs ss → Each (λ s r. r.holding ≤ s.holding) ss rs → rs ≡ ss
same_rows none none none none = refl
same_rows (more {x = v} {y = r} k ks) (more {y = s} l ls) (more a as') (more b bs) =
    ap₂ (λ (x : Row) (xs : List Row). x ∷ xs) (same_row v r s k l b a) (same_rows ks ls as' bs)

-- the name and the ceilings follow from the part and the row
same_share : (p : PlanPart) (s u : Share) → PrintedShare p s → PrintedShare p u → s.row ≡ u.row → s.bound ≡ u.bound → s ≡ u
same_share p s u h k row bound i = record {
  name = (h.name ∙ sym k.name) i;
  row = row i;
  bound = bound i;
  ceilings = (h.ceilings ∙ ap (λ (r : Row). ceilings_under (shown_ceiling p.numbers r.holding) 1 p.locks) row ∙ sym k.ceilings) i;
}

same_shares : {ps : List PlanPart} {ss us : List Share} → Each PrintedShare ps ss → Each PrintedShare ps us → printed_rows ss ≡ printed_rows us → map (λ s. s.bound) ss ≡ map (λ s. s.bound) us → ss ≡ us
same_shares none none rows bounds = refl
same_shares (more {x = p} {y = s} {ys = ss} h hs) (more {y = u} {ys = us} k ks) rows bounds =
    let row : s.row ≡ u.row = cc in
    let bound : s.bound ≡ u.bound = cc in
    let rows_behind : printed_rows ss ≡ printed_rows us = cc in
    let bounds-behind : map (λ s. s.bound) ss ≡ map (λ s. s.bound) us = cc in
    ap₂ (λ (x : Share) (xs : List Share). x ∷ xs) (same_share p s u h k row bound) (same_shares hs ks rows_behind bounds-behind)

rows_settled : {ps : List PlanPart} {text other : List ℕ} (p : Printed ps text) (q : Printed ps other) → printed_rows p.shares ≡ printed_rows q.shares
rows_settled p q =
    same_rows p.kept q.kept
    (map_of_each (λ s. s.row) (p.greatest _ (printed_passes q) q.kept (q.least _ (printed_passes p))))
    (map_of_each (λ s. s.row) (q.greatest _ (printed_passes p) p.kept (p.least _ (printed_passes q))))

pub text_settled : (ps : List PlanPart) (text other : List ℕ) → Printed ps text → Printed ps other → text ≡ other
text_settled ps text other p q =
    let rows = rows_settled p q in
    let bounds = p.bounds ∙ ap bounds_of rows ∙ sym q.bounds in
    p.bytes ∙ ap listing_of (same_shares p.choice q.choice rows bounds) ∙ sym q.bytes

-- the first part without a budget is one
first_settled : {ps : List PlanPart} {j k : ℕ} → NoBudgetAt ps j → NoBudgetAt ps k → j ≤ k
first_settled {j = j} {k = k} m n = go (dec_le j k)
  where
    go : Dec (j ≤ k) → j ≤ k
    go (yes h) = h
    go (no h) = let c = m.first k n.from (omega arith) in absurd (n.none c.1.setting c.1.budget c.1.local)

pub refusal_settled : {ps : List PlanPart} {r q : Refusal} → NoneToPlan ps r → NoneToPlan ps q → r ≡ q
refusal_settled (ten m) (ten n) = ap NoBudget (let a = first_settled m n in let b = first_settled n m in omega arith)
refusal_settled (ten {j} m) (eleven each never) = let c = each j m.from m.to in absurd (m.none c.1.setting c.1.budget c.1.local)
refusal_settled (eleven each never) (ten {j} n) = let c = each j n.from n.to in absurd (n.none c.1.setting c.1.budget c.1.local)
refusal_settled (eleven each never) (eleven others nor) = refl

pub answer_settled : {ps : List PlanPart} {room : ℕ} {a b : Answer (List ℕ)} → Demanded ps room a → Demanded ps room b → a ≡ b
answer_settled (none_passes m) (none_passes n) = ap refused (refusal_settled m n)
answer_settled (none_passes n) (fits p l) = absurd (none_to_plan n _ (printed_passes p))
answer_settled (none_passes n) (too_long p l) = absurd (none_to_plan n _ (printed_passes p))
answer_settled (fits p l) (none_passes n) = absurd (none_to_plan n _ (printed_passes p))
answer_settled (fits p l) (fits q m) = ap answered (text_settled _ _ _ p q)
answer_settled (fits p l) (too_long q m) = absurd (omega (arith, l, m, ap length (text_settled _ _ _ p q)))
answer_settled (too_long p l) (none_passes n) = absurd (none_to_plan n _ (printed_passes p))
answer_settled (too_long p l) (fits q m) = absurd (omega (arith, l, m, ap length (text_settled _ _ _ p q)))
answer_settled (too_long p l) (too_long q m) = refl

pub demand_3_settled : (Promise : List ℕ → List ℕ → Planned → List ℕ → Type 0) → Demand3 Promise →
    (s before : List ℕ) (r : Planned) (after : List ℕ) (ps : List PlanPart) → parts_of s ≡ answered ps → Promise s before r after → PlanAnswered s before r after
demand_3_settled Promise met s before r after ps e kept =
    let m = met s before r after ps kept e in
    subst (λ (a : Answer (List ℕ)). HandedOver a before r after) (answer_settled m.1 (plan_demanded s (length before) ps e)) m.2

pub plan_settled : (Promise : List ℕ → List ℕ → Planned → List ℕ → Type 0) → Demand1 Promise → Demand3 Promise →
    (s before : List ℕ) (r : Planned) (after : List ℕ) → Promise s before r after → PlanAnswered s before r after
plan_settled Promise one three s before r after h = go (parts_of s) refl
  where
    go : (x : Answer (List PlanPart)) → parts_of s ≡ x → PlanAnswered s before r after
    go (answered ps) e = demand_3_settled Promise three s before r after ps e h
    go (refused x) e = subst (λ (a : Answer (List ℕ)). HandedOver a before r after) (sym (plan_unread s x e (length before))) (one.plan.unread s before r after x h ((parts_refused_iff s x).0 e))

-- demand 2 leaves nothing of a chart free
pub chart_settled : (s : List ℕ) (room : ℕ) (a : Answer (List ℕ)) → ((r : Refusal) → (a ≡ refused r) ↔ RefusedBehind s (chart_questions room) r) →
    ((bytes : List ℕ) → a ≡ answered bytes → ChartIs s bytes) → a ≡ chart_of s room
chart_settled s room (refused r) iff are = sym ((every_refusal.chart s room r).1 ((iff r).0 refl))
chart_settled s room (answered bytes) iff are = go (chart_of s room) refl
  where
    go : (x : Answer (List ℕ)) → chart_of s room ≡ x → answered bytes ≡ chart_of s room
    go (answered others) e =
        let c = are bytes refl in
        let d = every_number.chart_bytes s room others e in
        ap answered (c.is ∙ ap (λ (p : Plan). chart p.rows) (answer_same_value (sym c.planned ∙ d.planned)) ∙ sym d.is) ∙ sym e
    go (refused r) e = (iff r).1 ((every_refusal.chart s room r).0 e) ∙ sym e
