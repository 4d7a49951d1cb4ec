-- How great the sums and products over numbers of up to 1,000,000 become.
-- Assumes nothing.
use Prim.Native.Nat.{ℕ, zero, suc, ◌+◌, ◌-◌, ◌*◌, ◌/◌, max, ◌≤◌}
use native.Mathlib.Nat.{le_trans, one-mul, add-mul, mul-le-mul_left, mul-le-mul_right, max-eq_left, max-eq_right}
use native.Mathlib.Omega.{arith}
use native.Mathlib.Decide.{dec_le}
use mathlib.Core.Path.{◌≡◌, refl, sym, ap, subst, ◌∙◌}
use mathlib.Core.Logic.{⊎_elim}
use mathlib.Core.List.Memᴰ
use mathlib.Core.List.{List, ◌∷◌, ◌++◌, Memᴰ}
use lib.ListN.{length, drop, take, length-append, length-drop}
use Rattle.least.specs.declared.Frac.{Frac}
use Rattle.least.specs.Round.{ceil_div}
use Rattle.least.proofs.Round.{ceil_under, ceil_least, ceil_le, ceil_pos, product}
use Rattle.least.proofs.Lists.{nth_member}
use Rattle.least.proofs.Members.{take_member, drop_member}
use Rattle.least.proofs.Greatest.{greatest_le}
use Rattle.least.proofs.Sums.{sum_most}
use Rattle.refusal.specs.Limits.{number_limit, task_limit}
use Rattle.refusal.specs.Questions.{Answer}
use Rattle.refusal.specs.Questions.Answer.{answered, refused}
use Rattle.refusal.proofs.Answers.{answered_not_refused, answer_same_value}
use Rattle.supply.specs.Supply.{round_of}
use Rattle.task_set.specs.declared.Task.{Task}
use Rattle.task_set.specs.Tasks.{held_for, higher, demand_in, greatest_held}
use Rattle.task_set.specs.Blocking.{Setting, blocking_of}
use Rattle.task_set.specs.Code.Fine.{FineTask}
use Rattle.load.specs.declared.Row.{Row}
use Rattle.load.specs.Load.{row, row_sum, demand_of, load_at, bounds_of}
use Rattle.load.proofs.Load.{bounds_of_small}
use Rattle.plan_file.specs.Numbers.{PlanPart, parts_of, no_plan_part, part_at}
use Rattle.plan_file.proofs.Reading.{parts_answered_iff}
use Rattle.plan_file.proofs.PlanParts.{FinePlanPart, parts_fine, parts_few}
use Rattle.listing.proofs.Lengths.{listing_limit}
use Rattle.answers.specs.Answers.{plan_of}
use Rattle.answers.proofs.PlanRows.{plan_unread}
use Rattle.planner.specs.Demand3.{Demanded}
use Rattle.planner.specs.Demand3.Demanded.{none_passes, fits, too_long}
use Rattle.planner.specs.SystemTest.{row_at, L}
use Rattle.planner.specs.Refusals.{PartOf, SupplyFits}
use Rattle.planner.proofs.Demand3.{plan_demanded}
use Rattle.planner.proofs.LocalTest.{local_test}
use Rattle.planner.proofs.Short.{printed_most}
use Rattle.ranges.specs.Ranges.{Weighable, greatest_need, greatest_load, GreatestValues}
use Rattle.ranges.proofs.Reached.{need_reached, supply_reached, load_reached}

-- a task comes in t ticks for at most t − 1 + T ticks, and once if it comes as seldom as it may
releases_most : (t T : ℕ) → 1 ≤ T → T ≤ number_limit → t ≤ number_limit → ceil_div t T * T ≤ 2 * (number_limit - 1)
releases_most t T h k l = go (dec_le t T)
  where
    go : Dec (t ≤ T) → ceil_div t T * T ≤ 2 * (number_limit - 1)
    go (yes q) = omega (arith, mul-le-mul_right T (ceil_least t T 1 h (omega (arith, one-mul T))), one-mul T)
    go (no q) = omega (arith, ceil_under t T h)

-- the tasks of a part of a readable file
module _ (s : List ℕ) (k : ℕ) (p : PlanPart) (d : PartOf s k p) where
  part_fine : FinePlanPart p
  part_fine = subst FinePlanPart d.is (parts_fine s d.parts ((parts_answered_iff s d.parts).1 d.readable) (part_at d.parts k) (nth_member no_plan_part k d.parts d.from d.to))

  task_fine : (x : Task) → Memᴰ x p.numbers.tasks → FineTask p.numbers.locks x
  task_fine = part_fine.each_task p.numbers.locks

  few : length p.numbers.tasks ≤ task_limit
  few = part_fine.few_tasks

  cost_most : (x : Task) → Memᴰ x p.numbers.tasks → x.cost ≤ number_limit
  cost_most x m = let f = task_fine x m in omega (arith, f.cost_most, f.deadline_most, f.separation_most)

  tasks_most : (ts : List Task) → ((x : Task) → Memᴰ x ts → Memᴰ x p.numbers.tasks) → (t : ℕ) → t ≤ number_limit → demand_in ts t ≤ length ts * (2 * (number_limit - 1))
  unfolding demand_in
  tasks_most ts among t h =
      sum_most (λ x. ceil_div t x.separation * x.cost) (2 * (number_limit - 1)) ts
      (λ x m. let f = task_fine x (among x m) in le_trans (mul-le-mul_left (ceil_div t x.separation) (omega (arith, f.cost_most, f.deadline_most))) (releases_most t x.separation (omega (arith, f.cost_some, f.cost_most, f.deadline_most)) f.separation_most h))

  held_most : (l : ℕ) → 1 ≤ l → l ≤ p.numbers.locks → (x : Task) → Memᴰ x p.numbers.tasks → held_for l x ≤ number_limit
  held_most l a b x m = omega (arith, (task_fine x m).uses_most l a b, cost_most x m)

  holding_most : (l r w : ℕ) → 1 ≤ l → l ≤ p.numbers.locks → 1 ≤ r → w ≤ number_limit → greatest_held l p.numbers.tasks + demand_in (higher r p.numbers.tasks) w ≤ greatest_need number_limit
  unfolding greatest_held
  holding_most l r w a b c h =
      let g = greatest_le (held_for l) number_limit p.numbers.tasks (held_most l a b) in
      let e = tasks_most (drop r p.numbers.tasks) (λ x m. drop_member r p.numbers.tasks m) w h in
      omega (arith, g, e, length-drop r p.numbers.tasks, few)

  -- the tasks before one, the one, and those behind it
  module _ (σ : Setting) (lower : List Task) (task : Task) (above : List Task) (e : lower ++ (task ∷ above) ≡ p.numbers.tasks) where
    of : (x : Task) → Memᴰ x (lower ++ (task ∷ above)) → Memᴰ x p.numbers.tasks
    of x m = subst (Memᴰ x) e m

    blocking_most : blocking_of p.numbers.locks σ lower ≤ length lower * number_limit
    blocking_most = ⊎_elim (λ z. omega (arith, z)) (λ r. omega (arith, r.3, some lower r.0 r.2.below, held_most r.1 r.2.from r.2.to r.0 (of r.0 (Memᴰ.append_left (task ∷ above) r.2.below)))) (local_test.blocking p.numbers.locks σ lower).one
      where
        some : (xs : List Task) (x : Task) → Memᴰ x xs → 1 ≤ length xs
        some mathlib.Core.List.[] x m = elim m [ ]
        some (y ∷ ys) x m = omega arith

    need_most : (t : ℕ) → t ≤ number_limit → task.cost + demand_in above t + blocking_of p.numbers.locks σ lower ≤ greatest_need number_limit
    need_most t h =
        let c = cost_most task (of task (Memᴰ.append_right lower (Memᴰ.head refl))) in
        let d = tasks_most above (λ x m. of x (Memᴰ.append_right lower (Memᴰ.tail m))) t h in
        omega (arith, c, d, blocking_most, few, ap length e, length-append lower (task ∷ above))

supply_most : (P Q t : ℕ) → SupplyFits P Q t → (round_of P Q t + 1) * P ≤ 3 * (number_limit - 1)
unfolding round_of
supply_most P Q t f = go (dec_le (t - (P - Q)) P)
  where
    some : 1 ≤ P
    some = omega (arith, f.budget_some, f.budget_most)

    go : Dec (t - (P - Q) ≤ P) → (max (ceil_div (t - (P - Q)) P) 1 + 1) * P ≤ 3 * (number_limit - 1)
    go (yes l) =
        let one : max (ceil_div (t - (P - Q)) P) 1 ≡ 1 = max-eq_right (ceil_least (t - (P - Q)) P 1 some (omega (arith, one-mul P))) in
        rw one (omega (arith, f.period_most))
    go (no l) =
        let c = ceil_div (t - (P - Q)) P in
        let more : max c 1 ≡ c = max-eq_left (ceil_pos (t - (P - Q)) P some (omega arith)) in
        rw more (omega (arith, ceil_under (t - (P - Q)) P some, add-mul c 1 P, one-mul P, f.period_most, f.time_most))

-- what a row above asks for: it may come in every tick only if its budget is one tick
row_most : (t P Q X : ℕ) → 1 ≤ P → Q ≤ P → P ≤ number_limit → X ≤ number_limit → t ≤ number_limit → ceil_div t P * (Q + X) ≤ number_limit * (number_limit + 1)
row_most t zero Q X a b c d h = elim a [ ]
row_most t (suc zero) Q X a b c d h = product number_limit (number_limit + 1) (le_trans (ceil_le t 1 a) h) (omega arith)
row_most t (suc (suc P)) Q X a b c d h =
    let n = ceil_div t (suc (suc P)) in
    let few : n ≤ number_limit / 2 = ceil_least t (suc (suc P)) (number_limit / 2) a (omega arith) in
    omega (arith, product (number_limit / 2) (2 * number_limit) {a = n} {b = Q + X} few (omega arith))

-- the system test of rows that fit
module _ (rows : List Row) (w : Weighable rows) where
  load_most : (i t : ℕ) → 1 ≤ i → i ≤ length rows → t ≤ number_limit → L rows i t ≤ greatest_load number_limit
  unfolding load_at demand_of
  load_most i t a b h =
      let own = w.fit (row_at rows i) (nth_member (row 0 0 0) i rows a b) in
      let above = sum_most (λ r. ceil_div t r.period * row_sum r) (number_limit * (number_limit + 1)) (drop i rows)
      (λ r m. let f = w.fit r (drop_member i rows m) in row_most t r.period r.budget r.holding (omega (arith, f.budget_some, f.budget_most)) f.budget_most f.period_most f.holding_most h) in
      let blocked = greatest_le (λ r. r.holding) ((i - 1) * number_limit) (take (i - 1) rows) (λ r m. omega (arith, (w.fit r (take_member (i - 1) rows m)).holding_most, some (i - 1) m)) in
      omega (arith, own.budget_most, own.period_most, own.holding_most, above, blocked, length-drop i rows, w.count.few)
    where
      some : (j : ℕ) {r : Row} → Memᴰ r (take j rows) → 1 ≤ j
      some zero m = absurd (Memᴰ.not-nil m)
      some (suc j) m = omega arith

  product_most : (a b : Frac) → Memᴰ a (bounds_of rows) → Memᴰ b (bounds_of rows) → a.num * b.den ≤ number_limit * number_limit
  product_most a b m k =
      let small = bounds_of_small number_limit rows (λ r j. let f = w.fit r j in (omega (arith, f.budget_some, f.budget_most), f.period_most)) in
      product number_limit number_limit (small a m).0 (small b k).1

-- the listing of a planned file
listing_short : (s : List ℕ) (room : ℕ) (text : List ℕ) → plan_of s room ≡ answered text → length text ≤ listing_limit
listing_short s room text e = go (parts_of s) refl
  where
    read : (ps : List PlanPart) → parts_of s ≡ answered ps → (a : Answer (List ℕ)) → a ≡ answered text → Demanded ps room a → length text ≤ listing_limit
    read ps f a d (none_passes n) = absurd (answered_not_refused (sym d))
    read ps f a d (fits q l) = omega (arith, ap length (answer_same_value d), printed_most (parts_fine s ps f) q (parts_few s ps f))
    read ps f a d (too_long q l) = absurd (answered_not_refused (sym d))

    go : (a : Answer (List PlanPart)) → parts_of s ≡ a → length text ≤ listing_limit
    go (answered ps) f = read ps f (plan_of s room) e (plan_demanded s room ps f)
    go (refused r) f = absurd (answered_not_refused (sym e ∙ plan_unread s r f room))

pub greatest_values : GreatestValues 1000000
greatest_values = record {
  holding = holding_most;
  need = need_most;
  need_reached = need_reached;
  supply = supply_most;
  supply_reached = supply_reached;
  load = load_most;
  load_reached = load_reached;
  product = product_most;
  listing = listing_short;
  fits = omega arith;
}
