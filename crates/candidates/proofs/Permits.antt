-- A setting under which some budget passes is permitted: at the time at which the user of a lock with the smallest deadline passes, the lock is free.
-- Assumes nothing.
use Prim.Native.Nat.{ℕ, zero, suc, ◌+◌, ◌≤◌, ◌<◌}
use native.Mathlib.Nat.{le_refl, le_trans, mul-le-mul_right, one-mul}
use native.Mathlib.Omega.{arith}
use native.Mathlib.Decide.{dec_lt}
use mathlib.Core.Path.{◌≡◌, refl, sym, ap, subst, ◌∙◌}
use mathlib.Core.Bool.{Bool, true, false}
use mathlib.Core.Logic.{⊎_elim}
use mathlib.Core.List.{List, [], ◌∷◌, reverse, Memᴰ}
use lib.ListN.{length, take, drop, get_or, length-reverse}
use lib.Seq.{drop-cons, get_or-take, length-take-le}
use borrow.Author.Tests.{le-leb}
use Rattle.least.specs.Lists.{sum, greatest, numbers_from}
use Rattle.least.proofs.Round.{ceil_pos}
use Rattle.least.proofs.Search.{least_upto}
use Rattle.least.proofs.Numbers.{numbers_pass, numbers_fail}
use Rattle.least.proofs.Members.{place_of, get_d_member, reverse_iff}
use Rattle.least.proofs.Greatest.{greatest_reached}
use Rattle.supply.proofs.SupplyLaws.{supply_le_t}
use Rattle.task_set.specs.declared.Task.{Task}
use Rattle.task_set.specs.Tasks.{held_for, uses, demand_in, lowest_ceiling, greatest_held, smallest_deadline}
use Rattle.task_set.specs.Partition.{Partition}
use Rattle.task_set.specs.Blocking.{Setting, blocking_of, need_of}
use Rattle.task_set.specs.Code.Fine.{blank_task}
use Rattle.task_set.proofs.Blocking.{blocking_paper}
use Rattle.task_set.proofs.Demand.{demand_drop}
use Rattle.holding.specs.Holding.{held, holding_of}
use Rattle.holding.proofs.Holding.{Ranged, InTime, smallest_paper, held_paper, in_range_paper, holding_paper, permitted_paper}
use Rattle.budget.specs.Budget.{passes}
use Rattle.budget.proofs.Passing.{Met, task_passes_iff}
use Rattle.budget.proofs.ByPlace.{task_passes_at, passes_places}
use Rattle.candidates.specs.Statement.{Permitted}

-- the number of an element that passes is at most the greatest such number
numbers_place : {A : Type 0} (test : A → Bool) (d : A) (i j : ℕ) (xs : List A) → j < length xs → test (get_or xs j d) ≡ true → i + j ≤ greatest (numbers_from i test xs)
unfolding greatest
numbers_place test d i j [] h t = absurd (omega arith)
numbers_place test d i zero (x ∷ xs) h t = rw (numbers_pass test i x xs t) (omega arith)
numbers_place test d i (suc j) (x ∷ xs) h t = go (numbers_place test d (suc i) j xs (omega arith) t) (test x) refl
  where
    go : suc i + j ≤ greatest (numbers_from (suc i) test xs) → (b : Bool) → test x ≡ b → i + suc j ≤ greatest (numbers_from i test (x ∷ xs))
    go l true e = rw (numbers_pass test i x xs e) (omega arith)
    go l false e = rw (numbers_fail test i x xs e) (omega arith)

user_number : (l : ℕ) (ts : List Task) (j : ℕ) → j < length ts → uses l (get_or ts j blank_task) ≡ true → suc j ≤ lowest_ceiling l ts
unfolding lowest_ceiling
user_number l ts j h u = omega (arith, numbers_place (uses l) blank_task 1 j ts h u)

-- the tasks from a place on ask for no less than those from a later one on
demand_falls : (ts : List Task) (t d a b : ℕ) → b ≤ d + a → a ≤ b → demand_in (drop b ts) t ≤ demand_in (drop a ts) t
demand_falls ts t zero a b h l = let e : a ≡ b = omega arith in subst (λ (k : ℕ). demand_in (drop k ts) t ≤ demand_in (drop a ts) t) e (le_refl _)
demand_falls ts t (suc d) a b h l = go (dec_lt a b) (λ q. demand_falls ts t d (suc a) b (omega arith) q)
  where
    go : Dec (a < b) → (a < b → demand_in (drop b ts) t ≤ demand_in (drop (suc a) ts) t) → demand_in (drop b ts) t ≤ demand_in (drop a ts) t
    go (yes q) ih = le_trans (ih q) (demand_drop a ts t)
    go (no q) ih = let e : a ≡ b = omega arith in subst (λ (k : ℕ). demand_in (drop k ts) t ≤ demand_in (drop a ts) t) e (le_refl _)

demand_behind : (ts : List Task) (t a b : ℕ) → a ≤ b → demand_in (drop b ts) t ≤ demand_in (drop a ts) t
demand_behind ts t a b l = demand_falls ts t b a b (omega arith) l

-- a task asks for its C at once
demand_asks : (ts : List Task) (t j : ℕ) → 1 ≤ t → j < length ts → 1 ≤ (get_or ts j blank_task).separation → (get_or ts j blank_task).cost + demand_in (drop (suc j) ts) t ≤ demand_in (drop j ts) t
unfolding demand_in sum
demand_asks ts t j o h s =
    rw (drop-cons ts j blank_task h)
    (omega (arith, mul-le-mul_right (get_or ts j blank_task).cost (ceil_pos t (get_or ts j blank_task).separation s o), one-mul (get_or ts j blank_task).cost))

module _ (v : Partition) (σ : Setting) (Q : ℕ)
    (apart : (j : ℕ) → j < length v.tasks → 1 ≤ (get_or v.tasks j blank_task).separation)
    (within : (l j : ℕ) → 1 ≤ l → l ≤ v.locks → j < length v.tasks → held_for l (get_or v.tasks j blank_task) ≤ (get_or v.tasks j blank_task).cost)
    (used : (l : ℕ) → 1 ≤ l → l ≤ v.locks → 1 ≤ greatest_held l v.tasks)
    (ranged : Ranged v σ) (some : 1 ≤ Q) (most : Q ≤ v.period) (p : passes v σ Q ≡ true) where
  -- the task at the place k uses the lock, that at the place j for longest
  module _ (l k j : ℕ) (from : 1 ≤ l) (upto : l ≤ v.locks) (hk : k < length v.tasks) (hj : j < length v.tasks) (uk : uses l (get_or v.tasks k blank_task) ≡ true) (uj : uses l (get_or v.tasks j blank_task) ≡ true)
      (longest : held_for l (get_or v.tasks j blank_task) ≡ greatest_held l v.tasks) where
    number_k : suc k ≤ σ l
    number_k = le_trans (user_number l v.tasks k hk uk) (ranged l from upto).0

    number_j : suc j ≤ σ l
    number_j = le_trans (user_number l v.tasks j hj uj) (ranged l from upto).0

    -- the longest use and the tasks above the ceiling are in the need of the task at k
    in_need : (t : ℕ) → 1 ≤ t → Dec (j < k) → Dec (k < j) → greatest_held l v.tasks + demand_in (drop (σ l) v.tasks) t ≤ need_of (blocking_of v.locks σ (reverse (take k v.tasks))) (get_or v.tasks k blank_task) (drop (suc k) v.tasks) t
    unfolding need_of
    in_need t o (yes q) d =
        let count : length (reverse (take k v.tasks)) ≡ k = length-reverse (take k v.tasks) ∙ length-take-le k v.tasks (omega arith) in
        let same : get_or (take k v.tasks) j blank_task ≡ get_or v.tasks j blank_task = get_or-take k v.tasks j blank_task q in
        let member : Memᴰ (get_or v.tasks j blank_task) (reverse (take k v.tasks)) = (reverse_iff (get_or v.tasks j blank_task) (take k v.tasks)).1 (subst (λ (x : Task). Memᴰ x (take k v.tasks)) same (get_d_member (take k v.tasks) j blank_task (omega (arith, length-take-le k v.tasks (omega arith))))) in
        omega (arith, longest, (blocking_paper v.locks σ (reverse (take k v.tasks))).0 (get_or v.tasks j blank_task) l (member, record { from = from; upto = upto; ceiling = omega (arith, count, number_k) }), demand_behind v.tasks t (suc k) (σ l) number_k)
    in_need t o (no q) (yes d) =
        omega (arith, longest, within l j from upto hj, demand_asks v.tasks t j o hj (apart j hj), demand_behind v.tasks t (suc k) j d, demand_behind v.tasks t (suc j) (σ l) number_j)
    in_need t o (no q) (no d) =
        let e : j ≡ k = omega arith in
        omega (arith, longest, within l j from upto hj, ap (λ (i : ℕ). (get_or v.tasks i blank_task).cost) e, demand_behind v.tasks t (suc k) (σ l) number_k)

    free : (t : ℕ) → t ≤ (get_or v.tasks k blank_task).deadline → (get_or v.tasks k blank_task).deadline ≡ smallest_deadline l v.tasks → 1 ≤ t → greatest_held l v.tasks + demand_in (drop (σ l) v.tasks) t ≤ t → InTime v.tasks l (σ l)
    unfolding holding_of
    free t a e o h =
        let w = least_upto (held v.tasks l (σ l)) (smallest_deadline l v.tasks) 1 t o (omega arith) ((held_paper v.tasks l (σ l) t).1 h) in
        let is = (holding_paper v.tasks l (σ l) w.0).0 w.2 in
        (w.0, is.0, is.1)

    passes_free : (get_or v.tasks k blank_task).deadline ≡ smallest_deadline l v.tasks → InTime v.tasks l (σ l)
    unfolding task_passes_at
    passes_free e = at ((task_passes_iff v.period Q _ _ _).0 ((passes_places v σ Q).0 p k hk))
      where
        at : Met v.period Q (blocking_of v.locks σ (reverse (take k v.tasks))) (get_or v.tasks k blank_task) (drop (suc k) v.tasks) → InTime v.tasks l (σ l)
        at (t, o, a, met) = free t a e o (omega (arith, in_need t o (dec_lt j k) (dec_lt k j), supply_le_t v.period Q t some most))

  lock_free : (l : ℕ) → 1 ≤ l → l ≤ v.locks → InTime v.tasks l (σ l)
  unfolding greatest_held
  lock_free l from upto = ⊎_elim (λ z. absurd (omega (arith, used l from upto))) go (greatest_reached (held_for l) v.tasks)
    where
      go : (u : Task) × Memᴰ u v.tasks × (greatest_held l v.tasks ≡ held_for l u) → InTime v.tasks l (σ l)
      go (u, mu, e) =
          let uu : uses l u ≡ true = le-leb 1 (held_for l u) (omega (arith, used l from upto)) in
          let s = (smallest_paper l v.tasks u mu uu).1 in
          let pk = place_of blank_task v.tasks s.1 in
          let pj = place_of blank_task v.tasks mu in
          passes_free l pk.0 pj.0 from upto pk.1 pj.1 (sym (ap (uses l) pk.2) ∙ s.2) (sym (ap (uses l) pj.2) ∙ uu) (sym (ap (held_for l) pj.2) ∙ sym e) (sym (ap (λ (x : Task). x.deadline) pk.2) ∙ s.3)

  pub passing_permits : Permitted v σ
  passing_permits = record { ranged = (in_range_paper v σ).1 ranged; held = (permitted_paper v σ).1 (λ l a b s. lock_free l a b) }
