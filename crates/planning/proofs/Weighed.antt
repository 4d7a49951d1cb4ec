-- The rows of a plan are in range, and each has its time: they are weighed, not refused.
-- Assumes nothing.
use Prim.Native.Nat.{◌≤◌}
use native.Mathlib.Omega.{arith}
use mathlib.Core.Path.{◌≡◌, refl, ap}
use mathlib.Core.Bool.{true}
use mathlib.Core.List.Memᴰ
use mathlib.Core.List.{List, [], ◌∷◌, Memᴰ}
use borrow.Author.Tests.{le-leb}
use lib.ListN.{length}
use Rattle.least.specs.declared.Frac.{Frac}
use Rattle.least.specs.Each.{Each}
use Rattle.least.proofs.Lists.{every_all}
use Rattle.least.proofs.Fraction.{finite_below}
use Rattle.refusal.specs.declared.Outcome.TheVariants.{Done}
use Rattle.refusal.specs.Limits.{number_limit, row_limit}
use Rattle.refusal.specs.FirstNo.{all_yes}
use Rattle.refusal.proofs.Questions.{done_iff}
use Rattle.task_set.specs.declared.Task.{Task}
use Rattle.load.specs.declared.Row.{Row}
use Rattle.load.specs.Load.{bounds_of, passes_system}
use Rattle.load.specs.Weigh.{row_in_range, has_time, weigh_questions, weighed, weigh_of}
use Rattle.load.proofs.Load.{bounds_of_ok, passes_finite, load_greatest}
use Rattle.budget.proofs.Passing.{budget_iff}
use Rattle.candidates.proofs.Shown.{deadlines_holding}
use Rattle.plan_file.specs.Numbers.{PlanPart}
use Rattle.plan_file.proofs.PlanParts.{FinePlanPart, AllPartsFine}
use Rattle.answers.specs.Choice.{FromKept, BuiltFromKept}

-- a kept row is in range
pub deadline_most : (p : PlanPart) → FinePlanPart p → (t : Task) → Memᴰ t p.numbers.tasks → t.deadline ≤ number_limit
deadline_most p fine t m = let f = fine.each_task 0 t m in omega (arith, f.deadline_most, f.separation_most)

kept_in_range : (p : PlanPart) (r : Row) → FinePlanPart p → FromKept p.numbers r → row_in_range r ≡ true
unfolding row_in_range
kept_in_range p r fine k =
    let c = k.kept.candidate in
    let b = (budget_iff p.numbers c.setting r.budget).0 c.budget in
    let x = deadlines_holding p.numbers number_limit (deadline_most p fine) c.setting c.allowed in
    simp (le-leb 1 r.budget b.0.positive, le-leb r.budget r.period (omega (arith, b.1, k.period)), le-leb r.period number_limit (omega (arith, k.period, fine.period_most)), le-leb r.holding number_limit (omega (arith, x, c.holding)))

pub rows_in_range : (ps : List PlanPart) {rs : List Row} → AllPartsFine ps → BuiltFromKept ps rs → (r : Row) → Memᴰ r rs → row_in_range r ≡ true
rows_in_range [] fine Each.none r m = absurd (Memᴰ.not-nil m)
rows_in_range (p ∷ ps) fine (Each.more {y = s} h hs) r (Memᴰ.head e) = rw e (kept_in_range p s (fine p (Memᴰ.head refl)) h)
rows_in_range (p ∷ ps) fine (Each.more h hs) r (Memᴰ.tail m) = rows_in_range ps (λ q k. fine q (Memᴰ.tail k)) hs r m

-- rows that pass have their times
bound_has_time : (rows : List Row) → passes_system rows ≡ true → (b : Frac) → Memᴰ b (bounds_of rows) → has_time b ≡ true
bound_has_time rows e b m = le-leb 1 b.den (finite_below (bounds_of_ok rows b m) ((load_greatest rows).0 b m) ((passes_finite rows).0 e)).pos

pub kept_weighed : (ps : List PlanPart) {rs : List Row} → AllPartsFine ps → 1 ≤ length rs → length rs ≤ row_limit → BuiltFromKept ps rs → passes_system rs ≡ true → weigh_of rs ≡ weighed Done rs
unfolding weigh_of weigh_questions all_yes
kept_weighed ps {rs} fine some few kept passes =
    ap (λ o. weighed o rs)
    ((done_iff (weigh_questions rs)).1 (simp (le-leb 1 (length rs) some, le-leb (length rs) row_limit few, every_all row_in_range rs (rows_in_range ps fine kept), every_all has_time (bounds_of rs) (bound_has_time rs passes))))
