-- What each setting gives the part `stairs n`. Where its lock has the ceiling n − m, X is 4n + m and the least budget is 8n − 2m: with a budget of 8n − a a task
-- has to wait for 2a more ticks than it asks for, and the highest task that is blocked, which has m tasks above it, can wait for 4m. For m = n − 1 none is blocked,
-- and the lowest task decides.
-- Assumes nothing.
use Rattle.std.specs.Prelude.{Some}
use Prim.Native.Nat.{ℕ, zero, suc, ◌+◌, ◌-◌, ◌*◌, ◌≤◌, ◌<◌}
use native.Mathlib.Nat.{le_refl, mul-le-mul_right}
use native.Mathlib.Omega.{arith}
use native.Mathlib.Decide.{dec_le}
use mathlib.Core.Path.{◌≡◌, refl, ap}
use mathlib.Core.Bool.{true}
use mathlib.Core.Logic.{⊎_elim}
use mathlib.Core.List.{List, Memᴰ}
use lib.ListN.{length}
use Rattle.least.specs.Search.{number_or0}
use Rattle.least.specs.Round.{ceil_div}
use Rattle.least.specs.Lists.{greatest, count_from, range, nth_or, those}
use Rattle.least.proofs.Round.{ceil_pos}
use Rattle.supply.proofs.SupplyLaws.{reach, reach_enough, reach_needed}
use Rattle.task_set.specs.declared.Task.{Task}
use Rattle.task_set.specs.Tasks.{higher, demand_in, greatest_held, held_for}
use Rattle.task_set.specs.Partition.{is_shared}
use Rattle.task_set.specs.Blocking.{Setting, blocking_of, need_of}
use Rattle.task_set.specs.Code.ByLock.{lower_than}
use Rattle.task_set.proofs.Blocking.{Reaches, blocking_paper, blocking_lowest, blocking_above}
use Rattle.task_set.proofs.Users.{held_greatest, lower_among, lower_count, blocking_longest}
use Rattle.holding.specs.Holding.{held, holding_of, permitted, holding_time_of}
use Rattle.holding.proofs.Holding.{InTime, held_paper, holding_paper, permitted_paper}
use Rattle.budget.specs.Budget.{task_passes, passes, least_budget}
use Rattle.budget.proofs.Passing.{task_passes_iff, budget_iff}
use Rattle.budget.proofs.ByPlace.{task_passes_at, passes_places}
use Rattle.kept_pairs.proofs.Family.{ceil_one, light, heavy, lights, stair_tasks, stairs, lights_drop, lights_get, lights_demand, held_longest, stairs_length, ceiling_lowest, deadline_smallest, above_ceiling}

-- the supply gives x ticks no sooner than after x + 2(P − Q), and just then where x is at most Q
reach_least : (P Q x : ℕ) → 1 ≤ Q → 1 ≤ x → x + 2 * (P - Q) ≤ reach P Q x
unfolding reach
reach_least P Q x h o = omega (arith, mul-le-mul_right {m = 2} {n = ceil_div x Q + 1} (P - Q) (omega (arith, ceil_pos x Q h o)))

reach_first : (P Q x : ℕ) → 1 ≤ x → x ≤ Q → reach P Q x ≡ x + 2 * (P - Q)
unfolding reach
reach_first P Q x o u = rw (ceil_one x Q o u) (omega arith)

-- a task under a budget Q of P
module _ (P Q b : ℕ) (task : Task) (above : List Task) (some : 1 ≤ Q) (most : Q ≤ P) where
  task_passes_lem : 1 ≤ task.deadline → 1 ≤ need_of b task above task.deadline → need_of b task above task.deadline ≤ Q
      → need_of b task above task.deadline + 2 * (P - Q) ≤ task.deadline → task_passes P Q b task above ≡ true
  task_passes_lem d o u l =
      let x = need_of b task above task.deadline in
      (task_passes_iff P Q b task above).1 (task.deadline, d, le_refl _, reach_enough P Q task.deadline x some most (omega (arith, reach_first P Q x o u)))

  task_asks : (x : ℕ) → 1 ≤ x → ((t : ℕ) → 1 ≤ t → t ≤ task.deadline → x ≤ need_of b task above t) → task_passes P Q b task above ≡ true → x + 2 * (P - Q) ≤ task.deadline
  task_asks x o least e =
      let f = (task_passes_iff P Q b task above).0 e in
      let need = need_of b task above f.0 in
      let l : x ≤ need = least f.0 f.1 f.2 in
      omega (arith, l, f.2, reach_least P Q need some (omega arith), reach_needed P Q f.0 need some most (omega arith) f.3)

-- the part
module _ (n : ℕ) (some : 1 ≤ n) where
  -- its lock, with the ceiling r = n − m
  module _ (r m : ℕ) (low : 1 ≤ r) (is : r + m ≡ n) where
    above_demand : (w : ℕ) → 1 ≤ w → w ≤ 9 * n → demand_in (higher r (stair_tasks n)) w ≡ m
    above_demand w a b = rw (above_ceiling n some r m low is) (lights_demand n m w a b)

    pub stairs_holding : holding_of (stair_tasks n) 1 r ≡ Some (4 * n + m)
    stairs_holding = (holding_paper (stair_tasks n) 1 r (4 * n + m)).1 (
      record { positive = omega arith; passes = (held_paper (stair_tasks n) 1 r (4 * n + m)).1 holds; first = first },
      omega (arith, deadline_smallest n some),
    )
      where
        holds : greatest_held 1 (stair_tasks n) + demand_in (higher r (stair_tasks n)) (4 * n + m) ≤ 4 * n + m
        holds = omega (arith, held_longest n, above_demand (4 * n + m) (omega arith) (omega arith))

        first : (w : ℕ) → 1 ≤ w → held (stair_tasks n) 1 r w ≡ true → 4 * n + m ≤ w
        first w a e = go (dec_le w (9 * n))
          where
            go : Dec (w ≤ 9 * n) → 4 * n + m ≤ w
            go (yes u) = omega (arith, held_longest n, above_demand w a u, (held_paper (stair_tasks n) 1 r w).0 e)
            go (no u) = omega arith

  abbrev lower : ℕ → List Task
  lower k = lower_than k (stair_tasks n)

  -- a setting σ: only its ceiling of lock 1 counts
  module _ (σ : Setting) where
    abbrev blocked : ℕ → ℕ
    blocked k = blocking_of 1 σ (lower k)

    blocking_most : (k : ℕ) → blocked k ≤ 4 * n
    blocking_most k = ⊎_elim (λ z. omega (arith, z)) held_by (blocking_paper 1 σ (lower k)).1
      where
        held_by : (h : Task) × (l : ℕ) × (Memᴰ h (lower k) × Reaches 1 σ (suc (length (lower k))) l) × (blocked k ≡ held_for l h) → blocked k ≤ 4 * n
        held_by (h, l, (m, r), e) =
            let one : l ≡ 1 = omega (arith, r.from, r.upto) in
            omega (arith, e, ap (λ (j : ℕ). held_for j h) one, held_greatest 1 (stair_tasks n) h (lower_among (stair_tasks n) k h m), held_longest n)

    blocking_least : (k : ℕ) → 1 ≤ k → k < n → k < σ 1 → 4 * n ≤ blocked k
    blocking_least k a u h =
        omega (arith, held_longest n, blocking_longest (stair_tasks n) k 1 (omega (arith, ceiling_lowest n some)) 1 σ (omega arith) (omega arith) h (omega (arith, stairs_length n some)))

    blocking_none : (k : ℕ) → k < n → σ 1 ≤ k → blocked k ≡ 0
    blocking_none k u h = blocking_above 1 σ (lower k) low
      where
        low : (l : ℕ) → 1 ≤ l → l ≤ 1 → σ l < suc (length (lower k))
        low l a b = let one : l ≡ 1 = omega arith in omega (arith, ap σ one, lower_count (stair_tasks n) k (omega (arith, stairs_length n some)))

    -- the test at a place above the lowest
    light_at : (Q k : ℕ) → suc k < n → task_passes_at (stairs n) σ Q (suc k) ≡ task_passes (8 * n) Q (blocked (suc k)) (light n (n - suc (suc k))) (lights n (n - suc (suc k)))
    unfolding task_passes_at
    light_at Q k h =
        let e : n - 1 - suc k ≡ n - suc (suc k) = omega arith in
        rw (lights_get n k (n - 1) (omega arith), lights_drop n (suc k) (n - 1), e) refl

    heavy_at : (Q : ℕ) → task_passes_at (stairs n) σ Q 0 ≡ task_passes (8 * n) Q 0 (heavy n) (lights n (n - 1))
    unfolding task_passes_at
    heavy_at Q = rw (blocking_lowest 1 σ) refl

  -- what the tasks ask for in up to 9n ticks
  light_need : (b j t : ℕ) → 1 ≤ t → t ≤ 9 * n → need_of b (light n j) (lights n j) t ≡ 1 + j + b
  unfolding need_of
  light_need b j t l u = omega (arith, lights_demand n j t l u)

  heavy_need : (t : ℕ) → 1 ≤ t → t ≤ 9 * n → need_of 0 (heavy n) (lights n (n - 1)) t ≡ 4 * n + (n - 1)
  unfolding need_of
  heavy_need t l u = omega (arith, lights_demand n (n - 1) t l u)

  -- with the budget 8n − 2m
  module _ (m : ℕ) (under : m < n) where
    light_passes : (b j : ℕ) → j + 1 < n → b ≤ 4 * n → b + 4 * m ≤ 4 * n + 4 * j → task_passes (8 * n) (8 * n - 2 * m) b (light n j) (lights n j) ≡ true
    light_passes b j h l u =
        let e = light_need b j (1 + 4 * n + 5 * j) (omega arith) (omega arith) in
        task_passes_lem (8 * n) (8 * n - 2 * m) b (light n j) (lights n j) (omega arith) (omega arith) (omega arith) (omega (arith, e)) (omega (arith, e)) (omega (arith, e))

    heavy_passes : task_passes (8 * n) (8 * n - 2 * m) 0 (heavy n) (lights n (n - 1)) ≡ true
    heavy_passes =
        let e = heavy_need (4 * n + 5 * (n - 1)) (omega arith) (omega arith) in
        task_passes_lem (8 * n) (8 * n - 2 * m) 0 (heavy n) (lights n (n - 1)) (omega arith) (omega arith) (omega arith) (omega (arith, e)) (omega (arith, e)) (omega (arith, e))

  -- with any budget
  module _ (Q : ℕ) (positive : 1 ≤ Q) (most : Q ≤ 8 * n) where
    light_asks : (b j : ℕ) → j + 1 < n → 4 * n ≤ b → task_passes (8 * n) Q b (light n j) (lights n j) ≡ true → 8 * n ≤ Q + 2 * j
    light_asks b j h l e =
        omega (arith, task_asks (8 * n) Q b (light n j) (lights n j) positive most (1 + j + 4 * n) (omega arith) (λ t a u. omega (arith, light_need b j t a (omega arith))) e)

    heavy_asks : task_passes (8 * n) Q 0 (heavy n) (lights n (n - 1)) ≡ true → 8 * n ≤ Q + 2 * (n - 1)
    heavy_asks e =
        omega (arith, task_asks (8 * n) Q 0 (heavy n) (lights n (n - 1)) positive most (4 * n + (n - 1)) (omega arith) (λ t a u. omega (arith, heavy_need t a (omega arith))) e)

  -- a setting with the ceiling n − m
  module _ (σ : Setting) (m : ℕ) (low : 1 ≤ σ 1) (is : σ 1 + m ≡ n) where
    place_passes : (k : ℕ) → k < n → task_passes_at (stairs n) σ (8 * n - 2 * m) k ≡ true
    place_passes zero h = rw (heavy_at σ (8 * n - 2 * m)) (heavy_passes m (omega arith))
    place_passes (suc k) h = rw (light_at σ (8 * n - 2 * m) k h) (go (dec_le (σ 1) (suc k)))
      where
        go : Dec (σ 1 ≤ suc k) → task_passes (8 * n) (8 * n - 2 * m) (blocked σ (suc k)) (light n (n - suc (suc k))) (lights n (n - suc (suc k))) ≡ true
        go (yes u) =
            let z = blocking_none σ (suc k) h u in
            light_passes m (omega arith) (blocked σ (suc k)) (n - suc (suc k)) (omega arith) (omega (arith, z)) (omega (arith, z))
        go (no u) =
            let z = blocking_most σ (suc k) in
            light_passes m (omega arith) (blocked σ (suc k)) (n - suc (suc k)) (omega arith) (omega (arith, z)) (omega (arith, z))

    place_asks : (Q : ℕ) → 1 ≤ Q → Q ≤ 8 * n → (r : ℕ) → σ 1 ≡ suc r → task_passes_at (stairs n) σ Q r ≡ true → 8 * n ≤ Q + 2 * m
    place_asks Q a u zero e t = omega (arith, heavy_asks Q a u (rw (heavy_at σ Q) at t))
    place_asks Q a u (suc k) e t =
        omega (arith, light_asks Q a u (blocked σ (suc k)) (n - suc (suc k)) (omega arith) (blocking_least σ (suc k) (omega arith) (omega arith) (omega arith)) (rw (light_at σ Q k (omega arith)) at t))

    pub stairs_budget : least_budget (stairs n) σ ≡ Some (8 * n - 2 * m)
    stairs_budget = (budget_iff (stairs n) σ (8 * n - 2 * m)).1 (
      record {
        positive = omega arith;
        passes = (passes_places (stairs n) σ (8 * n - 2 * m)).1 (λ k h. place_passes k (omega (arith, stairs_length n some)));
        first = first;
      },
      omega arith,
    )
      where
        first : (Q : ℕ) → 1 ≤ Q → passes (stairs n) σ Q ≡ true → 8 * n - 2 * m ≤ Q
        first Q a e = go (dec_le Q (8 * n))
          where
            go : Dec (Q ≤ 8 * n) → 8 * n - 2 * m ≤ Q
            go (yes u) = omega (arith, place_asks Q a u (σ 1 - 1) (omega arith) ((passes_places (stairs n) σ Q).0 e (σ 1 - 1) (omega (arith, stairs_length n some))))
            go (no u) = omega arith

    pub stairs_permitted : permitted (stairs n) σ ≡ true
    stairs_permitted = (permitted_paper (stairs n) σ).1 in_time
      where
        in_time : (l : ℕ) → 1 ≤ l → l ≤ 1 → is_shared (stairs n) l ≡ true → InTime (stair_tasks n) l (σ l)
        in_time l a b s =
            let one : l ≡ 1 = omega arith in
            let h = (holding_paper (stair_tasks n) 1 (σ 1) (4 * n + m)).0 (stairs_holding (σ 1) m low is) in
            rw one (4 * n + m, h.0, h.1)

    pub stairs_time : holding_time_of (stairs n) σ ≡ 4 * n + m
    unfolding holding_time_of is_shared those range count_from nth_or greatest number_or0
    stairs_time = rw (stairs_holding (σ 1) m low is) (omega arith)
