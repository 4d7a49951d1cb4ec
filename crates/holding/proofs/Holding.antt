-- Holding times, permitted settings and X in the paper's words: the search up to the smallest deadline finds the holding time w if it is
-- at most that deadline, and nothing else.
-- Assumes nothing.
use Rattle.std.specs.Prelude.{Option, Some, None}
use Prim.Native.Nat.{ℕ, ◌+◌, ◌≤◌}
use native.Mathlib.Nat.{le_of_eq}
use native.Mathlib.Omega.{arith}
use mathlib.Core.Path.{◌≡◌, refl, sym, ap, ◌∙◌}
use mathlib.Core.Bool.{Bool, true, false, cond, ◌&&◌, false≢true}
use mathlib.Core.Logic.{◌⊎◌, inl, inr, ◌↔◌}
use mathlib.Core.List.Memᴰ
use mathlib.Core.List.{List, map, Memᴰ}
use lib.Dec.{leb}
use lib.ListN.{length}
use borrow.Author.Tests.{leb-true, le-leb}
use Rattle.least.specs.Search.{number_or0}
use Rattle.least.specs.Lists.{greatest, range, those}
use Rattle.least.proofs.Search.{least_iff}
use Rattle.least.proofs.Lists.{and_iff, range_iff, every_range, every_member, every_all, those_member, those_passing, smallest_le, smallest_member}
use Rattle.least.proofs.Numbers.{numbers_most}
use Rattle.least.proofs.Greatest.{ZeroOrReached, greatest_each, greatest_le, greatest_reached}
use Rattle.task_set.specs.declared.Task.{Task}
use Rattle.task_set.specs.Tasks.{uses, higher, demand_in, lowest_ceiling, greatest_held, smallest_deadline}
use Rattle.task_set.specs.Partition.{Partition, is_shared, shared_locks}
use Rattle.task_set.specs.Blocking.{Setting}
use Rattle.holding.specs.Holding.{held, holding_of, highest_ceiling, in_range, exists, permitted, holding_time_of}
use Rattle.holding.specs.Code.Holding.{HoldingTime}

-- the smallest deadline among the users of lock l: at most that of each, and that of one
pub smallest_paper : (l : ℕ) (ts : List Task) (task : Task) → Memᴰ task ts → uses l task ≡ true → (smallest_deadline l ts ≤ task.deadline) × ((k : Task) × Memᴰ k ts × (uses l k ≡ true) × (k.deadline ≡ smallest_deadline l ts))
unfolding smallest_deadline
smallest_paper l ts task m u =
    let d = Memᴰ.map (λ (k : Task). k.deadline) (those_passing (uses l) ts m u) in
    let s = Memᴰ.of_map (λ (k : Task). k.deadline) (those (uses l) ts) (smallest_member _ d) in
    let k = those_member (uses l) ts s.1 in
    (smallest_le _ d, (s.0, k.0, k.1, s.2))

pub held_paper : (ts : List Task) (l r w : ℕ) → (held ts l r w ≡ true) ↔ (greatest_held l ts + demand_in (higher r ts) w ≤ w)
unfolding held
held_paper ts l r w = (leb-true _ w, le-leb _ w)

between_iff : (low r n : ℕ) → ((leb low r && leb r n) ≡ true) ↔ ((low ≤ r) × (r ≤ n))
between_iff low r n = (to, λ h. (and_iff (leb low r) (leb r n)).1 (le-leb low r h.0, le-leb r n h.1))
  where
    to : (leb low r && leb r n) ≡ true → (low ≤ r) × (r ≤ n)
    to e = let h = (and_iff (leb low r) (leb r n)).0 e in (leb-true low r h.0, leb-true r n h.1)

-- each ceiling is from the lock's lowest to its highest
abbrev pub Ranged : Partition → Setting → Type 0
Ranged v σ = (l : ℕ) → 1 ≤ l → l ≤ v.locks → (lowest_ceiling l v.tasks ≤ σ l) × (σ l ≤ highest_ceiling v l)

pub in_range_paper : (v : Partition) (σ : Setting) → (in_range v σ ≡ true) ↔ Ranged v σ
unfolding in_range
in_range_paper v σ =
    ((λ e l a b. (between_iff _ _ _).0 ((every_range _ 1 v.locks).0 e l a b)), λ h. (every_range _ 1 v.locks).1 (λ l a b. (between_iff _ _ _).1 (h l a b)))

-- the highest ceiling of a shared lock and of a private one
module _ (v : Partition) (l : ℕ) where
  pub highest_shared : is_shared v l ≡ true → highest_ceiling v l ≡ length v.tasks
  unfolding highest_ceiling
  highest_shared e = simp e

  pub highest_private : is_shared v l ≡ false → highest_ceiling v l ≡ lowest_ceiling l v.tasks
  unfolding highest_ceiling
  highest_private e = simp e

  lowest_most : lowest_ceiling l v.tasks ≤ length v.tasks
  unfolding lowest_ceiling
  lowest_most = omega (arith, numbers_most (uses l) 0 v.tasks)

  -- it is a task number, and no lower than the lowest
  pub highest_most : highest_ceiling v l ≤ length v.tasks
  highest_most = go (is_shared v l) refl
    where
      go : (b : Bool) → is_shared v l ≡ b → highest_ceiling v l ≤ length v.tasks
      go true e = le_of_eq (highest_shared e)
      go false e = omega (arith, highest_private e, lowest_most)

  pub lowest≤highest : lowest_ceiling l v.tasks ≤ highest_ceiling v l
  lowest≤highest = go (is_shared v l) refl
    where
      go : (b : Bool) → is_shared v l ≡ b → lowest_ceiling l v.tasks ≤ highest_ceiling v l
      go true e = omega (arith, highest_shared e, lowest_most)
      go false e = le_of_eq (sym (highest_private e))

-- a private lock keeps its lowest ceiling
pub private_lowest : (v : Partition) (σ : Setting) → Ranged v σ → (l : ℕ) → 1 ≤ l → l ≤ v.locks → is_shared v l ≡ false → σ l ≡ lowest_ceiling l v.tasks
private_lowest v σ ranged l a b e = let r = ranged l a b in omega (arith, r.0, r.1, highest_private v l e)

pub holding_paper : (ts : List Task) (l r w : ℕ) → (holding_of ts l r ≡ Some w) ↔ (HoldingTime ts l r w × (w ≤ smallest_deadline l ts))
unfolding holding_of
holding_paper ts l r w = least_iff (held ts l r) (smallest_deadline l ts) w

exists_iff : (a : Option ℕ) → (exists a ≡ true) ↔ ((w : ℕ) × (a ≡ Some w))
unfolding exists
exists_iff (Some w) = ((λ e. (w, refl)), λ h. refl)
exists_iff None = ((λ e. absurd (false≢true e)), λ h. let z : ◌≡◌ {A = ℕ} 0 1 = cc h.1 in absurd (omega arith))

-- lock l at r has a holding time that is at most the smallest deadline
abbrev pub InTime : List Task → ℕ → ℕ → Type 0
InTime ts l r = (w : ℕ) × HoldingTime ts l r w × (w ≤ smallest_deadline l ts)

in_time : (ts : List Task) (l r : ℕ) → (exists (holding_of ts l r) ≡ true) ↔ InTime ts l r
in_time ts l r = (to, from)
  where
    to : exists (holding_of ts l r) ≡ true → InTime ts l r
    to e = let h = (exists_iff (holding_of ts l r)).0 e in let k = (holding_paper ts l r h.0).0 h.1 in (h.0, k.0, k.1)

    from : InTime ts l r → exists (holding_of ts l r) ≡ true
    from h = (exists_iff (holding_of ts l r)).1 (h.0, (holding_paper ts l r h.0).1 (h.1, h.2))

-- the time that counts of lock l at r: a shared lock's holding time, 0 for a private one
unfoldable pub counted_time : Partition → ℕ → ℕ → Option ℕ
counted_time v l r = cond (is_shared v l) (holding_of v.tasks l r) (Some 0)

module _ (v : Partition) (l r : ℕ) where
  pub counted_shared : is_shared v l ≡ true → counted_time v l r ≡ holding_of v.tasks l r
  unfolding counted_time
  counted_shared e = simp e

  pub counted_private : is_shared v l ≡ false → counted_time v l r ≡ Some 0
  unfolding counted_time
  counted_private e = simp e

-- the shared locks are those of the locks 1 to m that are shared
pub shared_iff : (v : Partition) (l : ℕ) → Memᴰ l (shared_locks v) ↔ ((1 ≤ l) × (l ≤ v.locks) × (is_shared v l ≡ true))
shared_iff v l = (to, from)
  where
    to : Memᴰ l (shared_locks v) → (1 ≤ l) × (l ≤ v.locks) × (is_shared v l ≡ true)
    to k = let m = those_member (is_shared v) (range 1 v.locks) k in let r = (range_iff 1 v.locks l).0 m.0 in (r.0, r.1, m.1)

    from : (1 ≤ l) × (l ≤ v.locks) × (is_shared v l ≡ true) → Memᴰ l (shared_locks v)
    from h = those_passing (is_shared v) (range 1 v.locks) ((range_iff 1 v.locks l).1 (h.0, h.1)) h.2

-- in the paper's words: each shared lock's w exists and is at most the smallest deadline among its users
pub permitted_paper : (v : Partition) (σ : Setting) → (permitted v σ ≡ true) ↔ ((l : ℕ) → 1 ≤ l → l ≤ v.locks → is_shared v l ≡ true → InTime v.tasks l (σ l))
unfolding permitted
permitted_paper v σ = (
  (λ e l a b s. (in_time v.tasks l (σ l)).0 (every_member _ (shared_locks v) e ((shared_iff v l).1 (a, b, s)))),
  (λ h. every_all _ (shared_locks v) (λ l k. let m = (shared_iff v l).0 k in (in_time v.tasks l (σ l)).1 (h l m.0 m.1 m.2))),
)

-- each lock has a time that counts
pub permitted_times : (v : Partition) (σ : Setting) → (permitted v σ ≡ true) ↔ ((l : ℕ) → 1 ≤ l → l ≤ v.locks → (w : ℕ) × (counted_time v l (σ l) ≡ Some w))
permitted_times v σ = (to, λ h. (permitted_paper v σ).1 (from h))
  where
    to : permitted v σ ≡ true → (l : ℕ) → 1 ≤ l → l ≤ v.locks → (w : ℕ) × (counted_time v l (σ l) ≡ Some w)
    to e l a b = go (is_shared v l) refl
      where
        go : (s : Bool) → is_shared v l ≡ s → (w : ℕ) × (counted_time v l (σ l) ≡ Some w)
        go true s = let t = (permitted_paper v σ).0 e l a b s in (t.0, counted_shared v l (σ l) s ∙ (holding_paper v.tasks l (σ l) t.0).1 (t.1, t.2))
        go false s = (0, counted_private v l (σ l) s)

    from : ((l : ℕ) → 1 ≤ l → l ≤ v.locks → (w : ℕ) × (counted_time v l (σ l) ≡ Some w)) → (l : ℕ) → 1 ≤ l → l ≤ v.locks → is_shared v l ≡ true → InTime v.tasks l (σ l)
    from h l a b s =
        let t = h l a b in
        let k = (holding_paper v.tasks l (σ l) t.0).0 (sym (counted_shared v l (σ l) s) ∙ t.1) in
        (t.0, k.0, k.1)

abbrev time_of : Partition → Setting → ℕ → ℕ
time_of v σ l = number_or0 (holding_of v.tasks l (σ l))

abbrev counted : Partition → Setting → ℕ → ℕ
counted v σ l = number_or0 (counted_time v l (σ l))

-- X is the greatest of the times that count of all locks
pub holding_time_counted : (v : Partition) (σ : Setting) → holding_time_of v σ ≡ greatest (map (λ l. number_or0 (counted_time v l (σ l))) (range 1 v.locks))
unfolding holding_time_of number_or0
holding_time_counted v σ =
    omega (arith, greatest_le (time_of v σ) _ (shared_locks v) no_more, greatest_le (counted v σ) _ (range 1 v.locks) no_less)
  where
    no_more : (l : ℕ) → Memᴰ l (shared_locks v) → time_of v σ l ≤ greatest (map (counted v σ) (range 1 v.locks))
    no_more l k =
        let m = (shared_iff v l).0 k in
        omega (arith, ap number_or0 (counted_shared v l (σ l) m.2), greatest_each (counted v σ) (range 1 v.locks) l ((range_iff 1 v.locks l).1 (m.0, m.1)))

    no_less : (l : ℕ) → Memᴰ l (range 1 v.locks) → counted v σ l ≤ greatest (map (time_of v σ) (shared_locks v))
    no_less l k = go (is_shared v l) refl
      where
        go : (s : Bool) → is_shared v l ≡ s → counted v σ l ≤ greatest (map (time_of v σ) (shared_locks v))
        go true s =
            let r = (range_iff 1 v.locks l).0 k in
            omega (arith, ap number_or0 (counted_shared v l (σ l) s), greatest_each (time_of v σ) (shared_locks v) l ((shared_iff v l).1 (r.0, r.1, s)))
        go false s = omega (arith, ap number_or0 (counted_private v l (σ l) s))

-- X is the greatest time that counts, or 0 without any
pub record IsGreatest (v : Partition) (σ : Setting) (X : ℕ) : Type 0 where
  pub each : (l w : ℕ) → 1 ≤ l → l ≤ v.locks → counted_time v l (σ l) ≡ Some w → w ≤ X
  pub one : (X ≡ 0) ⊎ ((l : ℕ) × (1 ≤ l) × (l ≤ v.locks) × (counted_time v l (σ l) ≡ Some X))

module _ (v : Partition) (σ : Setting) (ok : permitted v σ ≡ true) where
  holding_time_each : (l w : ℕ) → 1 ≤ l → l ≤ v.locks → counted_time v l (σ l) ≡ Some w → w ≤ holding_time_of v σ
  unfolding holding_time_of number_or0
  holding_time_each l w a b h = go (is_shared v l) refl
    where
      go : (s : Bool) → is_shared v l ≡ s → w ≤ holding_time_of v σ
      go true s =
          omega (arith, ap number_or0 (sym (counted_shared v l (σ l) s) ∙ h), greatest_each (time_of v σ) (shared_locks v) l ((shared_iff v l).1 (a, b, s)))
      go false s = let z : 0 ≡ w = cc (counted_private v l (σ l) s, h) in omega arith

  abbrev OneOrNone : Type 0
  OneOrNone = (holding_time_of v σ ≡ 0) ⊎ ((l : ℕ) × (1 ≤ l) × (l ≤ v.locks) × (counted_time v l (σ l) ≡ Some (holding_time_of v σ)))

  holding_time_one : OneOrNone
  unfolding holding_time_of number_or0
  holding_time_one = go (greatest_reached (time_of v σ) (shared_locks v))
    where
      go : ZeroOrReached (time_of v σ) (shared_locks v) (holding_time_of v σ) → OneOrNone
      go (inl z) = inl z
      go (inr r) =
          let k = (shared_iff v r.0).0 r.1 in
          let t = (permitted_paper v σ).0 ok r.0 k.0 k.1 k.2 in
          let e = (holding_paper v.tasks r.0 (σ r.0) t.0).1 (t.1, t.2) in
          inr (r.0, k.0, k.1, counted_shared v r.0 (σ r.0) k.2 ∙ e ∙ ap Some (sym (ap number_or0 e) ∙ sym r.2))

  pub holding_time_paper : IsGreatest v σ (holding_time_of v σ)
  holding_time_paper = record { each = holding_time_each; one = holding_time_one }
