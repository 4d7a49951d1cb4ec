-- A private lock is and does what the request says.
-- Assumes nothing.
use Prim.Native.Nat.{ℕ, zero, suc, ◌+◌, ◌≤◌, ◌<◌}
use native.Mathlib.Nat.{le_refl, le_of_eq}
use native.Mathlib.Omega.{arith}
use mathlib.Core.Path.{◌≡◌, refl, sym, ap, subst, ◌∙◌}
use mathlib.Core.Bool.{Bool, true, false, false≢true}
use mathlib.Core.Logic.{⊎_elim, ◌↔◌}
use mathlib.Core.List.{List, [], ◌∷◌, map, Memᴰ}
use lib.ListN.{length}
use Rattle.least.specs.Search.{number_or0}
use Rattle.least.specs.Each.{Each}
use Rattle.least.specs.Each.Each.{none, more}
use Rattle.least.specs.Fraction.{◌⊑◌}
use Rattle.least.proofs.Fraction.{finite_below}
use Rattle.least.specs.Lists.{nth_or, greatest, every}
use Rattle.least.proofs.Lists.{every_same, map_same, no_member}
use Rattle.refusal.specs.Questions.Answer.{answered}
use Rattle.task_set.specs.declared.Task.{Task}
use Rattle.task_set.specs.Tasks.{held_for, lowest_ceiling}
use Rattle.task_set.specs.Partition.{Partition, is_shared, shared_locks}
use Rattle.task_set.specs.Blocking.{Setting, blocking_of}
use Rattle.load.specs.declared.Row.{Row}
use Rattle.load.specs.Load.{load_of}
use Rattle.load.proofs.Load.{Under, load_of_ok, load_mono, passes_finite}
use Rattle.holding.specs.Holding.{holding_of, exists, permitted, holding_time_of}
use Rattle.holding.proofs.Holding.{in_range_paper, shared_iff}
use Rattle.budget.specs.Budget.{passes}
use Rattle.budget.proofs.Passing.{passes_more}
use Rattle.candidates.specs.Statement.{Permitted}
use Rattle.plan_file.specs.Numbers.{PlanPart, parts_of, part_at}
use Rattle.plan_file.specs.Statement.{NamedByAnother}
use Rattle.plan_file.proofs.Sharing.{shared_iff_another_part}
use Rattle.listing.specs.Listing.{Share, ceilings_under}
use Rattle.answers.specs.Choice.{Budgeted, row_under, Chosen, PassingChoice}
use Rattle.answers.specs.Plan.{partitions}
use Rattle.planner.specs.LocalTest.{LockHolding, PermittedAt, CeilingFits, SharedLock}
use Rattle.planner.specs.Demand3.{shown_for, PrintedShare}
use Rattle.planner.proofs.LocalTest.{local_test}
use Rattle.private_locks.specs.PrivateLocks.{PrivateLock, lock_name, SharedAlike, keeps_private, with_shared, FewerShared, Relieved, no_ceiling, PrivateLocks}

-- a test is false just if what it tests is not so
false_iff : {A : Type 0} (b : Bool) → (b ≡ true) ↔ A → (b ≡ false) ↔ (A → ⊥)
false_iff true h = ((λ e. absurd (false≢true (sym e))), λ n. absurd (n (h.0 refl)))
false_iff false h = ((λ e a. false≢true (h.1 a)), λ n. refl)

one_part : (s : List ℕ) (ps : List PlanPart) (k l : ℕ) → parts_of s ≡ answered ps → 1 ≤ k → k ≤ length ps → 1 ≤ l → l ≤ (part_at ps k).numbers.locks
    → (is_shared (part_at ps k).numbers l ≡ false) ↔ (NamedByAnother ps k (lock_name (part_at ps k) l) → ⊥)
one_part s ps k l e a b c d = false_iff (is_shared (part_at ps k).numbers l) (shared_iff_another_part s ps k e a b l c d)

-- the ceilings of a permitted setting, lock by lock
fits : (v : Partition) (σ : Setting) → Permitted v σ → (l : ℕ) → 1 ≤ l → l ≤ v.locks → CeilingFits v l (σ l)
fits v σ = (local_test.permitted v σ).0

lowest : (v : Partition) (σ : Setting) → Permitted v σ → (l : ℕ) → PrivateLock v l → σ l ≡ lowest_ceiling l v.tasks
lowest v σ p l k = (fits v σ p l k.from k.to).if_private k.private

shared_lock : (v : Partition) (l : ℕ) → Memᴰ l (shared_locks v) → SharedLock v l
shared_lock v l k = let m = (shared_iff v l).0 k in record { from = m.0; to = m.1; shared = m.2 }

module _ (v : Partition) (σ τ : Setting) (same : SharedAlike v σ τ) where
  no_permission : permitted v σ ≡ permitted v τ
  unfolding permitted
  no_permission = every_same _ _ (shared_locks v) (λ l k. ap (λ r. exists (holding_of v.tasks l r)) (same l (shared_lock v l k)))

  no_holding : holding_time_of v σ ≡ holding_time_of v τ
  unfolding holding_time_of
  no_holding = ap greatest (map_same _ _ (shared_locks v) (λ l k. ap (λ r. number_or0 (holding_of v.tasks l r)) (same l (shared_lock v l k))))

none_shared : (v : Partition) (σ : Setting) → ((l : ℕ) → SharedLock v l → ⊥) → (permitted v σ ≡ true) × (holding_time_of v σ ≡ 0)
unfolding permitted holding_time_of every greatest
none_shared v σ no-lock =
    let e : shared_locks v ≡ [] = no_member (shared_locks v) (λ l k. no-lock l (shared_lock v l k)) in
    (ap (every (λ l. exists (holding_of v.tasks l (σ l)))) e, ap (λ (ls : List ℕ). greatest (map (λ l. number_or0 (holding_of v.tasks l (σ l))) ls)) e)

blocks : (v : Partition) (σ : Setting) → Permitted v σ → (l : ℕ) → PrivateLock v l → (lower : List Task) (h : Task) → Memᴰ h lower
    → suc (length lower) ≤ lowest_ceiling l v.tasks → held_for l h ≤ blocking_of v.locks σ lower
blocks v σ p l k lower h m below =
    (local_test.blocking v.locks σ lower).each h l (record { below = m; from = k.from; to = k.to; ceiling = omega (arith, lowest v σ p l k) })

-- the `ceiling` line of lock l
nth_ceiling : (σ : Setting) (i l k : ℕ) (names : List (List ℕ)) → l < length names → k ≡ i + l → nth_or no_ceiling (suc l) (ceilings_under σ i names) ≡ record { lock = nth_or [] (suc l) names; number = σ k }
unfolding ceilings_under nth_or
nth_ceiling σ i l k [] h e = absurd (omega arith)
nth_ceiling σ i zero k (name ∷ names) h e = let f : k ≡ i = omega arith in rw f refl
nth_ceiling σ i (suc l) k (name ∷ names) h e = nth_ceiling σ (suc i) l k names (omega arith) (omega arith)

listed : (p : PlanPart) (s : Share) → PrintedShare p s → (l : ℕ) → PrivateLock p.numbers l → l ≤ length p.locks
    → nth_or no_ceiling l s.ceilings ≡ record { lock = lock_name p l; number = lowest_ceiling l p.numbers.tasks }
listed p s printed zero k b = absurd (omega (arith, k.from))
listed p s printed (suc l) k b =
    ap (nth_or no_ceiling (suc l)) printed.ceilings
    ∙ nth_ceiling (shown_for p s) 1 l (suc l) p.locks b (omega arith)
    ∙ ap (λ (r : ℕ). record { lock = lock_name p (suc l); number = r }) (local_test.listed p.numbers s.row.holding (suc l) k.private)

module _ (v : Partition) (τ : Setting) where
  keeps_shared : (l : ℕ) → is_shared v l ≡ true → keeps_private v τ l ≡ τ l
  unfolding keeps_private
  keeps_shared l e = simp e

  keeps_private_lem : (l : ℕ) → is_shared v l ≡ false → keeps_private v τ l ≡ lowest_ceiling l v.tasks
  unfolding keeps_private
  keeps_private_lem l e = simp e

  shared_only : ((l : ℕ) → SharedLock v l → PermittedAt v l (τ l)) → Permitted v (keeps_private v τ) × SharedAlike v (keeps_private v τ) τ
  shared_only h = ((local_test.permitted v (keeps_private v τ)).1 each, λ l k. keeps_shared l k.shared)
    where
      each : (l : ℕ) → 1 ≤ l → l ≤ v.locks → CeilingFits v l (keeps_private v τ l)
      each l a b = record { if_shared = λ e. rw (keeps_shared l e) (h l (record { from = a; to = b; shared = e })); if_private = keeps_private_lem l }

no_other : (v : Partition) (σ τ : Setting) → Permitted v σ → Permitted v τ → SharedAlike v σ τ → (l : ℕ) → 1 ≤ l → l ≤ v.locks → σ l ≡ τ l
no_other v σ τ p q same l a b = go (is_shared v l) refl
  where
    go : (s : Bool) → is_shared v l ≡ s → σ l ≡ τ l
    go true s = same l (record { from = a; to = b; shared = s })
    go false s = (fits v σ p l a b).if_private s ∙ sym ((fits v τ q l a b).if_private s)

-- with fewer shared locks
module _ (v : Partition) (marks : List Bool) (fewer : FewerShared v marks) (σ : Setting) (Q : ℕ) (b : Budgeted v σ Q) where
  abbrev fewer_locks : Partition
  fewer_locks = with_shared v marks

  still_permitted : Permitted fewer_locks (keeps_private fewer_locks σ)
  still_permitted = (shared_only fewer_locks σ each).0
    where
      each : (l : ℕ) → SharedLock fewer_locks l → PermittedAt fewer_locks l (σ l)
      each l k =
          let p = (fits v σ b.allowed l k.from k.to).if_shared (fewer l k).shared in
          record { lowest = p.lowest; most = p.most; time = p.time; holds = p.holds; in_time = p.in_time }

  no_higher : (l : ℕ) → 1 ≤ l → l ≤ v.locks → keeps_private fewer_locks σ l ≤ σ l
  no_higher l a c = go (is_shared fewer_locks l) refl
    where
      go : (s : Bool) → is_shared fewer_locks l ≡ s → keeps_private fewer_locks σ l ≤ σ l
      go true s = le_of_eq (keeps_shared fewer_locks σ l s)
      go false s = omega (arith, keeps_private_lem fewer_locks σ l s, ((in_range_paper v σ).0 b.allowed.ranged l a c).0)

  still_passes : passes fewer_locks (keeps_private fewer_locks σ) Q ≡ true
  unfolding passes
  still_passes = passes_more v σ (keeps_private fewer_locks σ) Q Q b.some (le_refl Q) b.most no_higher b.passing

  no_greater : holding_time_of fewer_locks (keeps_private fewer_locks σ) ≤ holding_time_of v σ
  no_greater = ⊎_elim (λ z. omega (arith, z.1)) (λ r. at r.0 r.1 r.2) (local_test.holding fewer_locks (keeps_private fewer_locks σ) still_permitted).one
    where
      at : (l : ℕ) → SharedLock fewer_locks l → LockHolding v.tasks l (keeps_private fewer_locks σ l) (holding_time_of fewer_locks (keeps_private fewer_locks σ)) → holding_time_of fewer_locks (keeps_private fewer_locks σ) ≤ holding_time_of v σ
      at l k h =
          (local_test.holding v σ b.allowed).each l (holding_time_of fewer_locks (keeps_private fewer_locks σ)) (fewer l k)
          (subst (λ (r : ℕ). LockHolding v.tasks l r (holding_time_of fewer_locks (keeps_private fewer_locks σ))) (keeps_shared fewer_locks σ l k.shared) h)

  relieves : Budgeted fewer_locks (keeps_private fewer_locks σ) Q × (holding_time_of fewer_locks (keeps_private fewer_locks σ) ≤ holding_time_of v σ)
  relieves = (record { allowed = still_permitted; some = b.some; most = b.most; passing = still_passes }, no_greater)

-- of all parts
relieved_row : (v w : Partition) (r : Row) (marks : List Bool) → FewerShared v marks → w ≡ with_shared v marks → Chosen v r → (s : Row) × Chosen w s × Under s r
relieved_row v w r marks fewer e c =
    let b = relieves v marks fewer c.setting c.budget c.local in
    let σ = keeps_private (with_shared v marks) c.setting in
    let s = row_under (with_shared v marks) σ c.budget in
    (s, subst (λ (u : Partition). Chosen u s) (sym e) (record { setting = σ; budget = c.budget; local = b.0; is = refl }), subst (Under s) (sym c.is) (record { period = refl; sums = omega (arith, b.1); holds = b.1 }))

relieved_rows : {ps qs : List PlanPart} {rs : List Row} → Each Relieved ps qs → Each Chosen (partitions ps) rs → (ss : List Row) × Each Chosen (partitions qs) ss × Each Under ss rs
relieved_rows none none = ([], none, none)
relieved_rows (more {x = p} {y = q} d ds) (more {y = r} c cs) =
    let h = relieved_row p.numbers q.numbers r d.0 d.1 d.2 c in
    let k = relieved_rows ds cs in
    (h.0 ∷ k.0, more h.1 k.1, more h.2 k.2)

lighter : (ps qs : List PlanPart) → Each Relieved ps qs → (rs : List Row) → PassingChoice ps rs → (ss : List Row) × PassingChoice qs ss × (load_of ss ⊑ load_of rs)
lighter ps qs d rs c =
    let k = relieved_rows d c.choice in
    let l = load_mono k.2 in
    (k.0, record { choice = k.1; system = (passes_finite k.0).1 (finite_below (load_of_ok k.0) l ((passes_finite rs).0 c.system)) }, l)

pub private_locks : PrivateLocks
private_locks = record {
  relieves = relieves;
  lighter = lighter;
  one_part = one_part;
  lowest = lowest;
  no_permission = no_permission;
  no_holding = no_holding;
  none_shared = none_shared;
  blocks = blocks;
  listed = listed;
  shared_only = shared_only;
  no_other = no_other;
}
