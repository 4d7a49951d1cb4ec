-- A lock with a higher ceiling is held no longer; so a setting with higher ceilings has an X that is no greater.
-- Assumes nothing.
use Rattle.std.specs.Prelude.{Some}
use Prim.Native.Nat.{ℕ, zero, suc, ◌≤◌, ◌<◌}
use native.Mathlib.Nat.{le_refl, le_trans, le_of_eq, eq-or-lt_of_le, le_of_suc-le-suc}
use native.Mathlib.Omega.{arith}
use mathlib.Core.Path.{◌≡◌, refl, sym, ap, ◌∙◌}
use mathlib.Core.Bool.{Bool, true, false}
use mathlib.Core.Logic.{◌⊎◌, inl, inr}
use mathlib.Core.List.{List, Memᴰ}
use Rattle.least.specs.Search.{number_or0}
use Rattle.least.proofs.Search.{least_upto}
use Rattle.least.proofs.Greatest.{greatest_mono}
use Rattle.task_set.specs.declared.Task.{Task}
use Rattle.task_set.specs.Tasks.{higher, demand_in, smallest_deadline}
use Rattle.task_set.specs.Partition.{Partition, is_shared, shared_locks}
use Rattle.task_set.specs.Blocking.{Setting}
use Rattle.task_set.proofs.Demand.{demand_drop}
use Rattle.holding.specs.Holding.{held, holding_of, permitted, holding_time_of}
use Rattle.holding.proofs.Holding.{held_paper, holding_paper, counted_time, counted_shared, counted_private, shared_iff, permitted_paper}

-- the tasks above a greater number ask for no more
pub demand_above : (ts : List Task) (r r' w : ℕ) → r ≤ r' → demand_in (higher r' ts) w ≤ demand_in (higher r ts) w
demand_above ts r zero w l = let e : r ≡ 0 = omega arith in rw e (le_refl (demand_in ts w))
demand_above ts r (suc r') w l = go (λ h. demand_above ts r r' w h) (eq-or-lt_of_le l)
  where
    go : (r ≤ r' → demand_in (higher r' ts) w ≤ demand_in (higher r ts) w) → (r ≡ suc r') ⊎ (r < suc r') → demand_in (higher (suc r') ts) w ≤ demand_in (higher r ts) w
    go ih (inl e) = le_of_eq (ap (λ (k : ℕ). demand_in (higher k ts) w) (sym e))
    go ih (inr h) = le_trans (demand_drop r' ts w) (ih (le_of_suc-le-suc h))

pub held_above : (ts : List Task) (l r r' w : ℕ) → r ≤ r' → held ts l r w ≡ true → held ts l r' w ≡ true
held_above ts l r r' w h t = (held_paper ts l r' w).1 (omega (arith, demand_above ts r r' w h, (held_paper ts l r w).0 t))

pub holding_falls : (ts : List Task) (l r r' w : ℕ) → r ≤ r' → holding_of ts l r ≡ Some w → (w' : ℕ) × (holding_of ts l r' ≡ Some w') × (w' ≤ w)
unfolding holding_of
holding_falls ts l r r' w h e =
    let p = (holding_paper ts l r w).0 e in
    let f = least_upto (held ts l r') (smallest_deadline l ts) 1 w p.0.positive (omega (arith, p.1)) (held_above ts l r r' w h p.0.passes) in
    (f.0, f.2, f.3)

-- the same of the time that counts
pub counted_falls : (v : Partition) (l r r' w : ℕ) → r ≤ r' → counted_time v l r ≡ Some w → (w' : ℕ) × (counted_time v l r' ≡ Some w') × (w' ≤ w)
counted_falls v l r r' w h e = go (is_shared v l) refl
  where
    go : (s : Bool) → is_shared v l ≡ s → (w' : ℕ) × (counted_time v l r' ≡ Some w') × (w' ≤ w)
    go true s = let f = holding_falls v.tasks l r r' w h (sym (counted_shared v l r s) ∙ e) in (f.0, counted_shared v l r' s ∙ f.1, f.2)
    go false s = (0, counted_private v l r' s, omega arith)

-- a permitted setting σ, and τ with ceilings that are no lower
module _ (v : Partition) (σ τ : Setting) (ok : permitted v σ ≡ true) (up : (l : ℕ) → 1 ≤ l → l ≤ v.locks → σ l ≤ τ l) where
  number_falls : (l : ℕ) → Memᴰ l (shared_locks v) → number_or0 (holding_of v.tasks l (τ l)) ≤ number_or0 (holding_of v.tasks l (σ l))
  unfolding number_or0
  number_falls l k =
      let m = (shared_iff v l).0 k in
      let t = (permitted_paper v σ).0 ok l m.0 m.1 m.2 in
      let e = (holding_paper v.tasks l (σ l) t.0).1 (t.1, t.2) in
      let f = holding_falls v.tasks l (σ l) (τ l) t.0 (up l m.0 m.1) e in
      rw (e, f.1) f.2

  pub holding_time_falls : holding_time_of v τ ≤ holding_time_of v σ
  unfolding holding_time_of
  holding_time_falls = greatest_mono (λ l. number_or0 (holding_of v.tasks l (τ l))) (λ l. number_or0 (holding_of v.tasks l (σ l))) (shared_locks v) number_falls
