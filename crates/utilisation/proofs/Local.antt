-- A budget that passes is at least the utilisation of the part: Q/P ≥ Σ C/T.
-- Assumes nothing.
use Prim.Native.Nat.{ℕ, zero, suc, ◌+◌, ◌*◌, ◌≤◌}
use native.Mathlib.Nat.{le_refl, le_trans, mul_comm, mul_assoc, mul_left_comm, add-mul, zero-mul, mul-le-mul_left, le_of_mul-le-mul_right, div-mul-le_self}
use native.Mathlib.Omega.{arith}
use mathlib.Core.Path.{◌≡◌, refl, sym, ap, subst}
use mathlib.Core.Bool.{true}
use mathlib.Core.List.{List, [], ◌∷◌, Memᴰ}
use Rattle.least.specs.Lists.{sum}
use Rattle.supply.specs.Supply.{supply_of}
use Rattle.supply.proofs.SupplyLaws.{reach_needed, reach_line}
use Rattle.envelope.specs.Code.Envelope.{slope_scale}
use Rattle.envelope.proofs.Under.{slope_under}
use Rattle.task_set.specs.declared.Task.{Task}
use Rattle.task_set.specs.Tasks.{demand_in}
use Rattle.task_set.specs.Partition.{Partition}
use Rattle.task_set.specs.Blocking.{Setting, blocking_of, need_of}
use Rattle.budget.specs.Budget.{passes}
use Rattle.budget.proofs.Passing.{Met, passes_paper}
use Rattle.utilisation.specs.Code.Utilisation.{share, share_in}

-- what is supplied in t ticks is at most the budget's share of them
supply_share : (P Q t : ℕ) → 1 ≤ Q → Q ≤ P → P * supply_of P Q t ≤ Q * t
supply_share P Q t h b = go (supply_of P Q t) refl
  where
    go : (x : ℕ) → supply_of P Q t ≡ x → P * supply_of P Q t ≤ Q * t
    go zero e = omega (arith, ap (λ (x : ℕ). P * x) e)
    go (suc x) e = omega (arith, reach_line P Q (supply_of P Q t) h b, mul-le-mul_left Q (reach_needed P Q t (supply_of P Q t) h b (omega arith) (le_refl _)))

-- the tasks ask for at least their share of any time
demand_share : (ts : List Task) → ((k : Task) → Memᴰ k ts → 1 ≤ k.separation) → (t : ℕ) → share_in ts * t ≤ slope_scale * demand_in ts t
unfolding share_in demand_in sum
demand_share [] some t = omega (arith, zero-mul t)
demand_share (k ∷ ks) some t =
    omega (
      arith,
      demand_share ks (λ j m. some j (Memᴰ.tail m)) t,
      slope_under k.separation k.cost t (some k (Memᴰ.head refl)),
      add-mul (share k.cost k.separation) (share_in ks) t,
    )

-- the tasks of a part in range
abbrev pub InRange : List Task → Type 0
InRange ts = (k : Task) → Memᴰ k ts → (1 ≤ k.separation) × (k.deadline ≤ k.separation)

module _ (v : Partition) (σ : Setting) (Q : ℕ) (o : 1 ≤ Q) (u : Q ≤ v.period) where
  abbrev P : ℕ
  P = v.period

  first_share : (task : Task) (higher : List Task) → InRange (task ∷ higher) → Met P Q (blocking_of v.locks σ []) task higher → P * share_in (task ∷ higher) ≤ Q * slope_scale
  unfolding share_in sum need_of
  first_share task higher fine (t, from, upto, met) =
      let own = share task.cost task.separation in
      let first : own * t ≤ slope_scale * task.cost = omega (arith, mul-le-mul_left own (le_trans upto (fine task (Memᴰ.head refl)).1), div-mul-le_self (task.cost * slope_scale) task.separation) in
      let rest = demand_share higher (λ k q. (fine k (Memᴰ.tail q)).0) t in
      let all : (own + share_in higher) * t ≤ slope_scale * supply_of P Q t = omega (arith, add-mul own (share_in higher) t, first, rest, met) in
      le_of_mul-le-mul_right {k = t} (omega (arith, mul-le-mul_left P all, mul_assoc P (own + share_in higher) t, mul_left_comm P slope_scale (supply_of P Q t), mul-le-mul_left slope_scale (supply_share P Q t o u), mul_assoc Q slope_scale t, mul_left_comm slope_scale Q t)) from

  pub budget_share : InRange v.tasks → passes v σ Q ≡ true → P * share_in v.tasks ≤ Q * slope_scale
  unfolding share_in sum
  budget_share fine p = go v.tasks refl
    where
      go : (ts : List Task) → v.tasks ≡ ts → P * share_in v.tasks ≤ Q * slope_scale
      go [] e = rw e (omega (arith, mul_comm P 0))
      go (task ∷ higher) e = rw e (first_share task higher (subst InRange e fine) ((passes_paper v σ Q).0 p [] task higher (sym e)))
