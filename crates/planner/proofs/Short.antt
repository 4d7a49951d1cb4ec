-- What is printed of a readable file is short: 3,470 bytes at most.
-- Assumes nothing.
use Prim.Native.Nat.{ℕ, suc, ◌+◌, ◌≤◌, ◌<◌}
use native.Mathlib.Omega.{arith}
use mathlib.Core.Path.{◌≡◌, refl, sym, ap, subst, ◌∙◌}
use mathlib.Core.List.Memᴰ
use mathlib.Core.List.{List, [], ◌∷◌, Memᴰ}
use lib.ListN.{length}
use Rattle.least.specs.Each.{Each}
use Rattle.least.specs.Each.Each.{more}
use Rattle.least.proofs.Each.{length_equal}
use Rattle.least.proofs.Lists.{map_iff}
use Rattle.refusal.specs.Limits.{number_limit, part_limit}
use Rattle.task_set.specs.Blocking.{Setting}
use Rattle.task_set.specs.Partition.{Partition}
use Rattle.load.specs.declared.Row.{Row}
use Rattle.load.proofs.Load.{bounds_of_small}
use Rattle.holding.proofs.Holding.{in_range_paper, highest_most}
use Rattle.candidates.specs.Statement.{Permitted}
use Rattle.candidates.proofs.Shown.{deadlines_holding}
use Rattle.plan_file.specs.Numbers.{PlanPart}
use Rattle.plan_file.proofs.PlanParts.{FinePlanPart, AllPartsFine}
use Rattle.listing.specs.Listing.{Ceiling, Share, ceilings_under}
use Rattle.listing.proofs.Lengths.{listing_limit, ShortCeiling, ShortShare, listing_most}
use Rattle.planning.proofs.Weighed.{deadline_most}
use Rattle.planner.specs.Demand3.{printed_rows, shown_for, PrintedShare, Printed}

-- the ceilings under a setting, of the locks of these names
under_length : (σ : Setting) (l : ℕ) (names : List (List ℕ)) → length (ceilings_under σ l names) ≡ length names
unfolding ceilings_under
under_length σ l [] = refl
under_length σ l (name ∷ names) = ap suc (under_length σ (suc l) names)

record LockAt (σ : Setting) (l : ℕ) (names : List (List ℕ)) (c : Ceiling) : Type 0 where
  named : Memᴰ c.lock names
  at : ℕ
  from : l ≤ at
  to : at < l + length names
  is : c.number ≡ σ at

under_member : (σ : Setting) (l : ℕ) (names : List (List ℕ)) (c : Ceiling) → Memᴰ c (ceilings_under σ l names) → LockAt σ l names c
unfolding ceilings_under
under_member σ l [] c x' = elim x' [ ]
under_member σ l (name ∷ names) c (Memᴰ.head e) = record {
  named = Memᴰ.head (ap (λ (x : Ceiling). x.lock) e);
  at = l;
  from = omega arith;
  to = omega arith;
  is = ap (λ (x : Ceiling). x.number) e;
}
under_member σ l (name ∷ names) c (Memᴰ.tail m) =
    let r = under_member σ (suc l) names c m in
    record { named = Memᴰ.tail r.named; at = r.at; from = omega (arith, r.from); to = omega (arith, r.to); is = r.is }

-- a ceiling is a task number
ceiling_most : (v : Partition) (σ : Setting) → Permitted v σ → (l : ℕ) → 1 ≤ l → l ≤ v.locks → σ l ≤ length v.tasks
ceiling_most v σ h l a b = omega (arith, ((in_range_paper v σ).0 h.ranged l a b).1, highest_most v l)

-- what is printed of a part
module _ (p : PlanPart) (fine : FinePlanPart p) (s : Share) (h : PrintedShare p s) where
  period_is : s.row.period ≡ p.numbers.period
  period_is = ap (λ (r : Row). r.period) h.is

  ceilings_few : length s.ceilings ≤ 8
  ceilings_few = omega (arith, ap length h.ceilings, under_length (shown_for p s) 1 p.locks, fine.few_locks, fine.locks_are)

  ceiling_short : (c : Ceiling) → Memᴰ c s.ceilings → ShortCeiling c
  ceiling_short c m =
      let r = under_member (shown_for p s) 1 p.locks c (subst (Memᴰ c) h.ceilings m) in
      let n = ceiling_most p.numbers (shown_for p s) h.local.allowed r.at r.from (omega (arith, r.to, fine.locks_are)) in
      record { lock = fine.lock_names_most c.lock r.named; number = omega (arith, r.is, n, fine.few_tasks) }

  share_short : s.bound.num ≤ number_limit → s.bound.den ≤ number_limit → ShortShare s
  share_short num den = record {
    name = omega (arith, ap length h.name, fine.name_most);
    period = omega (arith, period_is, fine.period_most);
    budget = omega (arith, ap (λ (r : Row). r.budget) h.is, h.local.most, fine.period_most);
    holding = omega (arith, ap (λ (r : Row). r.holding) h.is, deadlines_holding p.numbers number_limit (deadline_most p fine) (shown_for p s) h.local.allowed);
    num = num;
    den = den;
    few = ceilings_few;
    each = ceiling_short;
  }

each_right : {A B : Type 0} {R : A → B → Type 0} {xs : List A} {ys : List B} (y : B) → Each R xs ys → Memᴰ y ys → (x : A) × Memᴰ x xs × R x y
each_right {A = A} {B = B} {R = R} y Rattle.least.specs.Each.none x4 = elim x4 [ ]
each_right {R = R} y (more {x = x} h hs) (Memᴰ.head e) = (x, Memᴰ.head refl, subst (R x) (sym e) h)
each_right y (more h hs) (Memᴰ.tail m) = let r = each_right y hs m in (r.0, Memᴰ.tail r.1, r.2)

module _ {ps : List PlanPart} {text : List ℕ} (fine : AllPartsFine ps) (p : Printed ps text) where
  rows_served : (r : Row) → Memᴰ r (printed_rows p.shares) → (1 ≤ r.period) × (r.period ≤ number_limit)
  rows_served r m =
      let x = (map_iff (λ s. s.row) r p.shares).0 m in
      let q = each_right x.0 p.choice x.1 in
      let f = fine q.0 q.1 in
      let e : r.period ≡ q.0.numbers.period = ap (λ (k : Row). k.period) (sym x.2) ∙ period_is q.0 f x.0 q.2 in
      (omega (arith, e, f.period_some), omega (arith, e, f.period_most))

  shares_short : (s : Share) → Memᴰ s p.shares → ShortShare s
  shares_short s m =
      let q = each_right s p.choice m in
      let b = bounds_of_small number_limit (printed_rows p.shares) rows_served s.bound (subst (Memᴰ s.bound) p.bounds (Memᴰ.map (λ k. k.bound) m)) in
      share_short q.0 (fine q.0 q.1) s q.2 b.0 b.1

  pub printed_most : length ps ≤ part_limit → length text ≤ listing_limit
  printed_most few = omega (arith, ap length p.bytes, listing_most p.shares (omega (arith, length_equal p.choice)) shares_short)
