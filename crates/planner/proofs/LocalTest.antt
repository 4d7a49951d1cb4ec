-- The local test is what the paper says, and only one number is such.
-- Assumes nothing.
use Rattle.std.specs.Prelude.{Some}
use Prim.Native.Nat.{ℕ, ◌≤◌}
use native.Mathlib.Omega.{arith}
use mathlib.Core.Path.{◌≡◌, refl, sym, ap, ◌∙◌}
use mathlib.Core.Bool.{Bool, true, false}
use mathlib.Core.Logic.{◌⊎◌, inl, inr, ⊎_elim, ◌↔◌}
use mathlib.Core.List.{List, ◌∷◌, ◌++◌, reverse, reverse-reverse}
use Rattle.least.specs.Code.Search.{IsLeast}
use Rattle.task_set.specs.declared.Task.{Task}
use Rattle.task_set.specs.Tasks.{lowest_ceiling}
use Rattle.task_set.specs.Blocking.{Setting, blocking_of, need_of}
use Rattle.task_set.specs.Partition.{Partition, is_shared}
use Rattle.task_set.proofs.Blocking.{blocking_paper}
use Rattle.holding.specs.Holding.{highest_ceiling, holding_time_of}
use Rattle.holding.specs.Code.Holding.{HoldingTime}
use Rattle.holding.proofs.Holding.{held_paper, in_range_paper, highest_shared, highest_private, highest_most, private_lowest, holding_paper, counted_time, counted_shared, counted_private, permitted_paper, holding_time_paper}
use Rattle.budget.specs.Budget.{passes}
use Rattle.budget.proofs.Passing.{passes_paper, budget_iff}
use Rattle.candidates.specs.declared.Pair.{Pair}
use Rattle.candidates.specs.Candidates.{shown_ceiling}
use Rattle.candidates.specs.Statement.{Permitted, Candidate}
use Rattle.candidates.proofs.Shown.{Within, shown_private, shown_least}
use Rattle.planner.specs.LocalTest.{LockHolding, PermittedAt, CeilingFits, SharedLock, PartHolding, BlockingIs, Passes, LeastPassing, ShownAt, LocalTest}
use Rattle.planner.proofs.Reversed.{blocking_reverse}

lock_holding_iff : (ts : List Task) (l r w : ℕ) → HoldingTime ts l r w ↔ LockHolding ts l r w
lock_holding_iff ts l r w = (
  (λ h. record { some = h.positive; held = (held_paper ts l r w).0 h.passes; least = λ v a b. h.first v a ((held_paper ts l r v).1 b) }),
  (λ h. record { positive = h.some; passes = (held_paper ts l r w).1 h.held; first = λ v a b. h.least v a ((held_paper ts l r v).0 b) }),
)

permitted_iff : (v : Partition) (σ : Setting) → Permitted v σ ↔ ((l : ℕ) → 1 ≤ l → l ≤ v.locks → CeilingFits v l (σ l))
permitted_iff v σ = (to, from)
  where
    to : Permitted v σ → (l : ℕ) → 1 ≤ l → l ≤ v.locks → CeilingFits v l (σ l)
    to p l a b = record { if_shared = at; if_private = private_lowest v σ ((in_range_paper v σ).0 p.ranged) l a b }
      where
        at : is_shared v l ≡ true → PermittedAt v l (σ l)
        at s =
            let r = (in_range_paper v σ).0 p.ranged l a b in
            let t = (permitted_paper v σ).0 p.held l a b s in
            record { lowest = r.0; most = omega (arith, r.1, highest_most v l); time = t.0; holds = (lock_holding_iff v.tasks l (σ l) t.0).0 t.1; in_time = t.2 }

    from : ((l : ℕ) → 1 ≤ l → l ≤ v.locks → CeilingFits v l (σ l)) → Permitted v σ
    from h = record {
      ranged = (in_range_paper v σ).1 (λ l a b. ranged l (h l a b) (is_shared v l) refl);
      held = (permitted_paper v σ).1 (λ l a b s. let k = (h l a b).if_shared s in (k.time, (lock_holding_iff v.tasks l (σ l) k.time).1 k.holds, k.in_time));
    }
      where
        ranged : (l : ℕ) → CeilingFits v l (σ l) → (b : Bool) → is_shared v l ≡ b → (lowest_ceiling l v.tasks ≤ σ l) × (σ l ≤ highest_ceiling v l)
        ranged l k true e = let p = k.if_shared e in (p.lowest, omega (arith, p.most, highest_shared v l e))
        ranged l k false e = (omega (arith, k.if_private e), omega (arith, k.if_private e, highest_private v l e))

module _ (v : Partition) (σ : Setting) (p : Permitted v σ) where
  holding_each : (l w : ℕ) → SharedLock v l → LockHolding v.tasks l (σ l) w → w ≤ holding_time_of v σ
  holding_each l w k h =
      let t = (permitted_paper v σ).0 p.held l k.from k.to k.shared in
      let e = counted_shared v l (σ l) k.shared ∙ (holding_paper v.tasks l (σ l) t.0).1 (t.1, t.2) in
      omega (arith, (holding_time_paper v σ p.held).each l t.0 k.from k.to e, h.least t.0 t.1.positive ((held_paper v.tasks l (σ l) t.0).0 t.1.passes))

  abbrev NoneOrOne : Type 0
  NoneOrOne = (((l : ℕ) → SharedLock v l → ⊥) × (holding_time_of v σ ≡ 0)) ⊎ ((l : ℕ) × SharedLock v l × LockHolding v.tasks l (σ l) (holding_time_of v σ))

  -- an X of 0 is that of a part without shared locks
  none_shared : holding_time_of v σ ≡ 0 → NoneOrOne
  none_shared z = inl (none, z)
    where
      none : (l : ℕ) → SharedLock v l → ⊥
      none l k =
          let t = (permitted_paper v σ).0 p.held l k.from k.to k.shared in
          omega (arith, t.1.positive, holding_each l t.0 k ((lock_holding_iff v.tasks l (σ l) t.0).0 t.1))

  holding_one : NoneOrOne
  holding_one = ⊎_elim none_shared (λ k. at k.0 k.1 k.2 k.3 (is_shared v k.0) refl) (holding_time_paper v σ p.held).one
    where
      at : (l : ℕ) → 1 ≤ l → l ≤ v.locks → counted_time v l (σ l) ≡ Some (holding_time_of v σ) → (b : Bool) → is_shared v l ≡ b → NoneOrOne
      at l a b e true s = inr (l, record { from = a; to = b; shared = s }, (lock_holding_iff v.tasks l (σ l) (holding_time_of v σ)).0 ((holding_paper v.tasks l (σ l) (holding_time_of v σ)).0 (sym (counted_shared v l (σ l) s) ∙ e)).0)
      at l a b e false s = none_shared (cc (e, counted_private v l (σ l) s))

  holding_is : PartHolding v σ (holding_time_of v σ)
  holding_is = record { each = holding_each; one = holding_one }

blocking_is : (m : ℕ) (σ : Setting) (lower : List Task) → BlockingIs m σ lower (blocking_of m σ lower)
blocking_is m σ lower =
    let g = blocking_paper m σ lower in
    record {
      each = λ h l k. g.0 h l (k.below, record { from = k.from; upto = k.to; ceiling = k.ceiling });
      one = ⊎_elim inl (λ k. let r = k.2.1 in inr (k.0, k.1, record { below = k.2.0; from = r.from; to = r.upto; ceiling = r.ceiling }, k.3)) g.1;
    }

module _ (v : Partition) (σ : Setting) where
  passes_iff : (Q : ℕ) → (passes v σ Q ≡ true) ↔ Passes v σ Q
  unfolding need_of
  passes_iff Q = (to, from)
    where
      to : passes v σ Q ≡ true → Passes v σ Q
      to q lower task higher e =
          let h = (passes_paper v σ Q).0 q (reverse lower) task higher (ap (λ (l : List Task). l ++ (task ∷ higher)) (reverse-reverse lower) ∙ e) in
          (h.0, h.1, h.2, omega (arith, h.3, blocking_reverse v.locks σ lower))

      from : Passes v σ Q → passes v σ Q ≡ true
      from f = (passes_paper v σ Q).1 (λ lower task higher e. let h = f (reverse lower) task higher e in (h.0, h.1, h.2, omega (arith, h.3, blocking_reverse v.locks σ lower)))

  least_iff : (Q : ℕ) → (IsLeast (passes v σ) Q × (Q ≤ v.period)) ↔ LeastPassing v σ Q
  least_iff Q = (
    (λ h. record { some = h.0.positive; most = h.1; passing = (passes_iff Q).0 h.0.passes; least = λ R a f. h.0.first R a ((passes_iff R).1 f) }),
    (λ h. (record { positive = h.some; passes = (passes_iff Q).1 h.passing; first = λ R a f. h.least R a ((passes_iff R).0 f) }, h.most)),
  )

candidate_iff : (v : Partition) (c : Pair) → Candidate v c ↔ ((σ : Setting) × Permitted v σ × (holding_time_of v σ ≡ c.holding) × LeastPassing v σ c.budget)
candidate_iff v c = (
  (λ d. (d.setting, d.allowed, d.holding, (least_iff v d.setting c.budget).0 ((budget_iff v d.setting c.budget).0 d.budget))),
  (λ h. record { setting = h.0; allowed = h.1; holding = h.2; budget = (budget_iff v h.0 c.budget).1 ((least_iff v h.0 c.budget).1 h.3) }),
)

module _ (v : Partition) (x l : ℕ) (shared : is_shared v l ≡ true) where
  within_iff : (r : ℕ) → Within v x l r ↔ ((p : PermittedAt v l r) × (p.time ≤ x))
  within_iff r = (to, from)
    where
      to : Within v x l r → (p : PermittedAt v l r) × (p.time ≤ x)
      to k =
          let h = (holding_paper v.tasks l r k.time).0 (sym (counted_shared v l r shared) ∙ k.is) in
          (record { lowest = k.low; most = omega (arith, k.high, highest_most v l); time = k.time; holds = (lock_holding_iff v.tasks l r k.time).0 h.0; in_time = h.1 }, k.most)

      from : (p : PermittedAt v l r) × (p.time ≤ x) → Within v x l r
      from (p, u) = record {
        low = p.lowest;
        high = omega (arith, p.most, highest_shared v l shared);
        time = p.time;
        is = counted_shared v l r shared ∙ (holding_paper v.tasks l r p.time).1 ((lock_holding_iff v.tasks l r p.time).1 p.holds, p.in_time);
        most = u;
      }

  shown_is : (r : ℕ) (p : PermittedAt v l r) → p.time ≤ x → ShownAt v x l (shown_ceiling v x l)
  shown_is r p u =
      let s = (within_iff (shown_ceiling v x l)).0 (shown_least v x l r ((within_iff r).1 (p, u))).0 in
      record { permitted = s.0; most = s.1; lowest = λ q k u. (shown_least v x l q ((within_iff q).1 (k, u))).1 }

pub local_test : LocalTest
local_test = record {
  permitted = permitted_iff;
  holding = holding_is;
  blocking = blocking_is;
  budget = passes_iff;
  candidate = candidate_iff;
  shown = λ v x l r s. shown_is v x l s r;
  listed = shown_private;
}

pub lock_holding_settled : {ts : List Task} {l r v w : ℕ} → LockHolding ts l r v → LockHolding ts l r w → v ≡ w
lock_holding_settled {v = v} {w = w} h k = omega (arith, h.least w k.some k.held, k.least v h.some h.held)

module _ {v : Partition} {σ : Setting} where
  holding_le : {X Y : ℕ} → PartHolding v σ X → PartHolding v σ Y → X ≤ Y
  holding_le {X} h k = ⊎_elim (λ z. omega (arith, z.1)) (λ r. k.each r.0 X r.1 r.2) h.one

  pub holding_settled : {X Y : ℕ} → PartHolding v σ X → PartHolding v σ Y → X ≡ Y
  holding_settled h k = omega (arith, holding_le h k, holding_le k h)

module _ {m : ℕ} {σ : Setting} {lower : List Task} where
  blocking_le : {b c : ℕ} → BlockingIs m σ lower b → BlockingIs m σ lower c → b ≤ c
  blocking_le h k = ⊎_elim (λ z. omega arith) (λ r. omega (arith, r.3, k.each r.0 r.1 r.2)) h.one

  pub blocking_settled : {b c : ℕ} → BlockingIs m σ lower b → BlockingIs m σ lower c → b ≡ c
  blocking_settled h k = omega (arith, blocking_le h k, blocking_le k h)

pub budget_settled : {v : Partition} {σ : Setting} {Q R : ℕ} → LeastPassing v σ Q → LeastPassing v σ R → Q ≡ R
budget_settled {Q = Q} {R = R} h k = omega (arith, h.least R k.some k.passing, k.least Q h.some h.passing)

pub shown_settled : {v : Partition} {x l q r : ℕ} → ShownAt v x l q → ShownAt v x l r → q ≡ r
shown_settled {q = q} {r = r} h k = omega (arith, h.lowest r k.permitted k.most, k.lowest q h.permitted h.most)
