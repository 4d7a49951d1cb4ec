-- The ceilings shown for x: the lowest that are held for at most x. They are permitted wherever any setting has X ≤ x, and then no such setting passes with a smaller budget.
--   Within v x l r      == r is a ceiling of lock l that is in range, and the time that counts there is permitted and at most x
--   lowest_within v x l == the search for the lowest such r
-- Assumes nothing.
use Rattle.std.specs.Prelude.{Option, Some, None}
use Prim.Native.Nat.{ℕ, suc, ◌-◌, ◌≤◌}
use native.Mathlib.Nat.{le_refl, le_trans, le_of_eq}
use native.Mathlib.Omega.{arith}
use mathlib.Core.Path.{◌≡◌, refl, sym, ap, ap₂, ◌∙◌, fun_ext}
use mathlib.Core.Bool.{Bool, true, false, false≢true}
use mathlib.Core.Logic.{⊎_elim, ◌↔◌}
use mathlib.Core.List.{List, [], ◌∷◌, map, Memᴰ}
use lib.ListN.{length}
use borrow.Author.Tests.{leb-true, le-leb}
use Rattle.least.specs.Search.{least_from, number_or0}
use Rattle.least.specs.Lists.{smallest, those}
use Rattle.least.proofs.Search.{least_found, least_upto}
use Rattle.least.proofs.Lists.{those_member, smallest_le}
use Rattle.task_set.specs.declared.Task.{Task}
use Rattle.task_set.specs.Tasks.{uses, lowest_ceiling, smallest_deadline}
use Rattle.task_set.specs.Partition.{Partition, is_shared}
use Rattle.task_set.specs.Blocking.{Setting}
use Rattle.holding.specs.Holding.{holding_of, within, highest_ceiling, holding_time_of}
use Rattle.holding.proofs.Holding.{highest_shared, highest_private, in_range_paper, holding_paper, counted_time, counted_shared, counted_private, permitted_times, holding_time_paper}
use Rattle.holding.proofs.Falling.{holding_time_falls}
use Rattle.budget.specs.Budget.{passes, least_budget}
use Rattle.budget.proofs.Passing.{passes_more, budget_iff}
use Rattle.candidates.specs.declared.Pair.{Pair}
use Rattle.candidates.specs.Candidates.{pair, shown_ceiling}
use Rattle.candidates.specs.Statement.{Permitted, Candidate, IsKept}

pub record Within (v : Partition) (x l r : ℕ) : Type 0 where
  pub low : lowest_ceiling l v.tasks ≤ r
  pub high : r ≤ highest_ceiling v l
  pub time : ℕ
  pub is : counted_time v l r ≡ Some time
  pub most : time ≤ x

-- each lock's ceiling is one of these
abbrev pub AllWithin : Partition → ℕ → Setting → Type 0
AllWithin v x σ = (l : ℕ) → 1 ≤ l → l ≤ v.locks → Within v x l (σ l)

pub within_iff : (x : ℕ) (a : Option ℕ) → (within x a ≡ true) ↔ ((w : ℕ) × (a ≡ Some w) × (w ≤ x))
within_iff x (Some w) = ((λ t. (w, refl, leb-true w x t)), λ h. let e : w ≡ h.0 = cc h.1 in le-leb w x (omega (arith, h.2)))
within_iff x None = ((λ t. absurd (false≢true t)), λ h. let z : ◌≡◌ {A = ℕ} 0 1 = cc h.1 in absurd (omega arith))

-- the settings with X ≤ x, lock by lock
module _ (v : Partition) (x : ℕ) (σ : Setting) where
  pub permitted_within : Permitted v σ → holding_time_of v σ ≤ x → AllWithin v x σ
  permitted_within ok u l a b =
      let r = (in_range_paper v σ).0 ok.ranged l a b in
      let t = (permitted_times v σ).0 ok.held l a b in
      record {
        low = r.0;
        high = r.1;
        time = t.0;
        is = t.1;
        most = le_trans ((holding_time_paper v σ ok.held).each l t.0 a b t.1) u;
      }

  pub within_permitted : AllWithin v x σ → Permitted v σ
  within_permitted all = record {
    ranged = (in_range_paper v σ).1 (λ l a b. ((all l a b).low, (all l a b).high));
    held = (permitted_times v σ).1 (λ l a b. let t = all l a b in (t.time, t.is));
  }

  pub within_holding : AllWithin v x σ → holding_time_of v σ ≤ x
  within_holding all =
      ⊎_elim (λ z. omega (arith, z)) (λ h. reached h.0 h.3 (all h.0 h.1 h.2)) (holding_time_paper v σ (within_permitted all).held).one
    where
      reached : (l : ℕ) → counted_time v l (σ l) ≡ Some (holding_time_of v σ) → Within v x l (σ l) → holding_time_of v σ ≤ x
      reached l h t = let e : holding_time_of v σ ≡ t.time = cc (h, t.is) in omega (arith, t.most)

-- a deadline that no task exceeds is at least every X
smallest_most : (x : ℕ) (ks : List Task) → ((k : Task) → Memᴰ k ks → k.deadline ≤ x) → smallest (map (λ k. k.deadline) ks) ≤ x
unfolding smallest
smallest_most x [] h = omega arith
smallest_most x (k ∷ ks) h = le_trans (smallest_le (k.deadline ∷ map (λ k. k.deadline) ks) (Memᴰ.head refl)) (h k (Memᴰ.head refl))

-- a time that counts is at most the smallest deadline among the users
pub counted_most : (v : Partition) (l r w : ℕ) → counted_time v l r ≡ Some w → w ≤ smallest_deadline l v.tasks
counted_most v l r w e = go (is_shared v l) refl
  where
    go : (s : Bool) → is_shared v l ≡ s → w ≤ smallest_deadline l v.tasks
    go true s = ((holding_paper v.tasks l r w).0 (sym (counted_shared v l r s) ∙ e)).1
    go false s = let z : 0 ≡ w = cc (counted_private v l r s, e) in omega arith

pub deadlines_holding : (v : Partition) (x : ℕ) → ((k : Task) → Memᴰ k v.tasks → k.deadline ≤ x) → (σ : Setting) → Permitted v σ → holding_time_of v σ ≤ x
unfolding smallest_deadline
deadlines_holding v x most σ ok = within_holding v x σ all
  where
    all : AllWithin v x σ
    all l a b =
        let k = permitted_within v (holding_time_of v σ) σ ok (le_refl _) l a b in
        let d = smallest_most x (those (uses l) v.tasks) (λ t j. most t (those_member (uses l) v.tasks j).0) in
        record { low = k.low; high = k.high; time = k.time; is = k.is; most = le_trans (counted_most v l (σ l) k.time k.is) d }

-- the search for the ceiling of one lock
module _ (v : Partition) (x l : ℕ) where
  abbrev pub lowest_within : Option ℕ
  lowest_within = least_from (λ r. within x (counted_time v l r)) (lowest_ceiling l v.tasks) (suc (highest_ceiling v l) - lowest_ceiling l v.tasks)

  -- of a shared lock it is the search of the definition
  pub within_shared : is_shared v l ≡ true → lowest_within ≡ least_from (λ r. within x (holding_of v.tasks l r)) (lowest_ceiling l v.tasks) (suc (length v.tasks) - lowest_ceiling l v.tasks)
  within_shared s =
      ap₂ (λ (time : ℕ → Option ℕ) (high : ℕ). least_from (λ r. within x (time r)) (lowest_ceiling l v.tasks) (suc high - lowest_ceiling l v.tasks)) (fun_ext (λ r. counted_shared v l r s)) (highest_shared v l s)

  -- a private lock is listed with its lowest ceiling
  pub shown_private : is_shared v l ≡ false → shown_ceiling v x l ≡ lowest_ceiling l v.tasks
  unfolding shown_ceiling
  shown_private s = simp s

  pub found_shown : (r : ℕ) → lowest_within ≡ Some r → shown_ceiling v x l ≡ r
  unfolding shown_ceiling number_or0
  found_shown r e = go (is_shared v l) refl
    where
      go : (s : Bool) → is_shared v l ≡ s → shown_ceiling v x l ≡ r
      go true s = simp s (ap number_or0 (sym (within_shared s) ∙ e))
      go false s = let f = least_found _ _ _ r e in omega (arith, shown_private s, f.from, f.below, highest_private v l s)

  pub found_within : (r : ℕ) → lowest_within ≡ Some r → Within v x l (shown_ceiling v x l)
  found_within r e =
      let f = least_found _ _ _ r e in
      let h = (within_iff x (counted_time v l r)).0 f.passes in
      rw (found_shown r e) (record { low = f.from; high = omega (arith, f.from, f.below); time = h.0; is = h.1; most = h.2 })

  pub found_first : (r : ℕ) → Within v x l r → (s : ℕ) × (lowest_within ≡ Some s) × (s ≤ r)
  found_first r k =
      let t = (within_iff x (counted_time v l r)).1 (k.time, k.is, k.most) in
      let f = least_upto (λ s. within x (counted_time v l s)) (suc (highest_ceiling v l) - lowest_ceiling l v.tasks) (lowest_ceiling l v.tasks) r k.low (omega (arith, k.low, k.high)) t in
      (f.0, f.2, f.3)

  pub shown_least : (r : ℕ) → Within v x l r → Within v x l (shown_ceiling v x l) × (shown_ceiling v x l ≤ r)
  shown_least r k = let f = found_first r k in (found_within f.0 f.1, omega (arith, found_shown f.0 f.1, f.2))

  pub missed_none : lowest_within ≡ None → (r : ℕ) → Within v x l r → ⊥
  missed_none e r k = let f = found_first r k in let z : ◌≡◌ {A = ℕ} 0 1 = cc f.1 in omega arith

-- all locks have a ceiling that is held for at most x: they make a permitted setting with X ≤ x
module _ (v : Partition) (x : ℕ) (found : (l : ℕ) → 1 ≤ l → l ≤ v.locks → (r : ℕ) × (lowest_within v x l ≡ Some r)) where
  all_found : AllWithin v x (shown_ceiling v x)
  all_found l a b = let f = found l a b in found_within v x l f.0 f.1

  pub found_permitted : Permitted v (shown_ceiling v x)
  found_permitted = within_permitted v x (shown_ceiling v x) all_found

  pub found_holding : holding_time_of v (shown_ceiling v x) ≤ x
  found_holding = within_holding v x (shown_ceiling v x) all_found

-- some lock has none: no setting is permitted with X ≤ x
pub found_none : (v : Partition) (x l : ℕ) → 1 ≤ l → l ≤ v.locks → lowest_within v x l ≡ None → (σ : Setting) → Permitted v σ → holding_time_of v σ ≤ x → ⊥
found_none v x l a b e σ ok u = missed_none v x l e (σ l) (permitted_within v x σ ok u l a b)

-- any permitted setting with X ≤ x beside the ceilings shown for x
module _ (v : Partition) (x : ℕ) (σ : Setting) (ok : Permitted v σ) (u : holding_time_of v σ ≤ x) where
  pub shown_under : (l : ℕ) → 1 ≤ l → l ≤ v.locks → Within v x l (shown_ceiling v x l) × (shown_ceiling v x l ≤ σ l)
  shown_under l a b = shown_least v x l (σ l) (permitted_within v x σ ok u l a b)

  shown_within : AllWithin v x (shown_ceiling v x)
  shown_within l a b = (shown_under l a b).0

  pub shown_permitted : Permitted v (shown_ceiling v x)
  shown_permitted = within_permitted v x (shown_ceiling v x) shown_within

  pub shown_holding : holding_time_of v (shown_ceiling v x) ≤ x
  shown_holding = within_holding v x (shown_ceiling v x) shown_within

  pub shown_exact : holding_time_of v σ ≡ x → holding_time_of v (shown_ceiling v x) ≡ x
  shown_exact e =
      omega (arith, shown_holding, holding_time_falls v (shown_ceiling v x) σ shown_permitted.held (λ l a b. (shown_under l a b).1))

  pub shown_budget : (Q : ℕ) → passes v σ Q ≡ true → 1 ≤ Q → Q ≤ v.period → (R : ℕ) × (least_budget v (shown_ceiling v x) ≡ Some R) × (R ≤ Q)
  unfolding least_budget
  shown_budget Q t a b =
      let f = least_upto (passes v (shown_ceiling v x)) v.period 1 Q a (omega arith) (passes_more v σ (shown_ceiling v x) Q Q a (le_refl Q) b (λ l c d. (shown_under l c d).1) t) in
      (f.0, f.2, f.3)

-- the same of candidates
module _ (v : Partition) where
  pub candidate_shown : (x : ℕ) (c : Pair) → Candidate v c → c.holding ≤ x → (R : ℕ) × (least_budget v (shown_ceiling v x) ≡ Some R) × (R ≤ c.budget)
  candidate_shown x c d u =
      let b = (budget_iff v d.setting c.budget).0 d.budget in
      shown_budget v x d.setting d.allowed (omega (arith, d.holding)) c.budget b.0.passes b.0.positive b.1

  pub no_budget_below : (x : ℕ) → least_budget v (shown_ceiling v x) ≡ None → (c : Pair) → Candidate v c → c.holding ≤ x → ⊥
  no_budget_below x e c d u = let f = candidate_shown x c d u in let z : ◌≡◌ {A = ℕ} 0 1 = cc f.1 in omega arith

  -- the ceilings shown for a kept pair are its own: they have its X and its budget
  pub kept_shown : (c : Pair) → IsKept v c
      → (least_budget v (shown_ceiling v c.holding) ≡ Some c.budget) × (holding_time_of v (shown_ceiling v c.holding) ≡ c.holding) × Permitted v (shown_ceiling v c.holding)
  kept_shown c k =
      let d = k.candidate in
      let ok = shown_permitted v c.holding d.setting d.allowed (le_of_eq d.holding) in
      let x = shown_exact v c.holding d.setting d.allowed (le_of_eq d.holding) d.holding in
      let b = candidate_shown c.holding c d (le_refl c.holding) in
      let other : Candidate v (pair b.0 c.holding) = record { setting = shown_ceiling v c.holding; allowed = ok; holding = x; budget = b.1 } in
      let e = k.alone _ other (le_refl c.holding) (omega (arith, b.2)) in
      (b.1 ∙ ap (λ p. Some p.budget) e, x, ok)
