-- As x falls, the ceilings shown for x rise, and so do blockings; but each task's blocking rises once at most, and then to the greatest that it can be.
--   blocking_at v σ i == the blocking of the task at the place i, from 0, under the setting σ
--   level v x         == how many tasks are blocked, under the ceilings shown for x, as long as under the highest ceilings
-- Assumes nothing.
use Rattle.std.specs.Prelude.{Some}
use Prim.Native.Nat.{ℕ, ◌≤◌, ◌<◌}
use native.Mathlib.Nat.{le_trans}
use native.Mathlib.Omega.{arith}
use native.Mathlib.Decide.{ℕ_discrete, dec_le}
use mathlib.Core.Path.{◌≡◌, refl, sym, ◌∙◌}
use mathlib.Core.Bool.{Bool, true, false, cond}
use mathlib.Core.Logic.{⊎_elim}
use mathlib.Core.List.{List, map}
use lib.Dec.{eqb}
use lib.ListN.{length}
use borrow.Author.Tests.{eq-eqb, ne_eqb}
use Rattle.least.specs.Lists.{sum, count_from}
use Rattle.least.proofs.Lists.{count_to}
use Rattle.least.proofs.Sums.{sum_rises, sum_most, length_count}
use Rattle.task_set.specs.declared.Task.{Task}
use Rattle.task_set.specs.Tasks.{held_for, lowest_ceiling, greatest_held}
use Rattle.task_set.specs.Partition.{Partition, is_shared}
use Rattle.task_set.specs.Blocking.{Setting, blocking_of}
use Rattle.task_set.specs.Code.ByLock.{lower_than}
use Rattle.task_set.proofs.Blocking.{Blocks, blocking_paper, blocking_lowest, blocking_mono}
use Rattle.task_set.proofs.Users.{held_greatest, lower_among, lower_count, blocking_longest}
use Rattle.holding.specs.Holding.{holding_of, highest_ceiling, holding_time_of}
use Rattle.holding.proofs.Holding.{highest_private, counted_time, counted_shared}
use Rattle.holding.proofs.Falling.{counted_falls}
use Rattle.holding.proofs.Shorter.{holding_less}
use Rattle.candidates.specs.Candidates.{shown_ceiling}
use Rattle.candidates.specs.Statement.{Permitted}
use Rattle.candidates.proofs.Shown.{Within, shown_under, shown_least}

abbrev pub blocking_at : Partition → Setting → ℕ → ℕ
blocking_at v σ i = blocking_of v.locks σ (lower_than i v.tasks)

-- 1, where the task at the place i is blocked as long as under the highest ceilings
abbrev at_highest : Partition → Setting → ℕ → ℕ
at_highest v σ i = cond (eqb (blocking_at v σ i) (blocking_at v (highest_ceiling v) i)) 1 0

unfoldable pub level : Partition → ℕ → ℕ
level v x = sum (map (at_highest v (shown_ceiling v x)) (count_from 0 (length v.tasks)))

-- lock l at the ceiling i has a holding time, with which P holds
abbrev HeldAt : Partition → ℕ → ℕ → (ℕ → Type 0) → Type 0
HeldAt v l i P = (w : ℕ) × (holding_of v.tasks l i ≡ Some w) × P w

-- a lock with more than one ceiling in range is shared
raised_shared : (v : Partition) (l : ℕ) → lowest_ceiling l v.tasks < highest_ceiling v l → is_shared v l ≡ true
raised_shared v l h = go (is_shared v l) refl
  where
    go : (b : Bool) → is_shared v l ≡ b → is_shared v l ≡ true
    go true e = e
    go false e = absurd (omega (arith, highest_private v l e))

-- a permitted setting with X ≤ y, and the ceilings shown for y and for a greater x
module _ (v : Partition) (x y : ℕ) (σ : Setting) (ok : Permitted v σ) (u : holding_time_of v σ ≤ y) (h : y ≤ x) where
  within_later : (l : ℕ) → 1 ≤ l → l ≤ v.locks → Within v y l (shown_ceiling v y l)
  within_later l a b = (shown_under v y σ ok u l a b).0

  within_sooner : (l : ℕ) → 1 ≤ l → l ≤ v.locks → Within v x l (shown_ceiling v y l)
  within_sooner l a b = let k = within_later l a b in record { low = k.low; high = k.high; time = k.time; is = k.is; most = le_trans k.most h }

  shown_sooner : (l : ℕ) → 1 ≤ l → l ≤ v.locks → Within v x l (shown_ceiling v x l) × (shown_ceiling v x l ≤ shown_ceiling v y l)
  shown_sooner l a b = shown_least v x l (shown_ceiling v y l) (within_sooner l a b)

  pub ceilings_rise : (l : ℕ) → 1 ≤ l → l ≤ v.locks → shown_ceiling v x l ≤ shown_ceiling v y l
  ceilings_rise l a b = (shown_sooner l a b).1

  pub ceilings_most : (l : ℕ) → 1 ≤ l → l ≤ v.locks → shown_ceiling v y l ≤ highest_ceiling v l
  ceilings_most l a b = (within_later l a b).high

  pub blockings_rise : (i : ℕ) → blocking_at v (shown_ceiling v x) i ≤ blocking_at v (shown_ceiling v y) i
  blockings_rise i = blocking_mono v.locks (shown_ceiling v x) (shown_ceiling v y) (lower_than i v.tasks) ceilings_rise

  pub blockings_most : (i : ℕ) → blocking_at v (shown_ceiling v y) i ≤ blocking_at v (highest_ceiling v) i
  blockings_most i = blocking_mono v.locks (shown_ceiling v y) (highest_ceiling v) (lower_than i v.tasks) ceilings_most

  -- at a ceiling i that is too low for y a lock is held for longer than y
  too_low : (l i w : ℕ) → 1 ≤ l → l ≤ v.locks → shown_ceiling v x l ≤ i → i < shown_ceiling v y l → counted_time v l i ≡ Some w → y < w
  too_low l i w a b low up e = go (dec_le w y)
    where
      go : Dec (w ≤ y) → y < w
      go (no q) = omega arith
      go (yes q) =
          let k : Within v y l i = record { low = le_trans (shown_sooner l a b).0.low low; high = omega (arith, (within_later l a b).high); time = w; is = e; most = q } in
          absurd (omega (arith, (shown_least v y l i k).1))

  -- so a lock that is raised above i only for y has such a holding time at i
  held_longer : (l i : ℕ) → 1 ≤ l → l ≤ v.locks → shown_ceiling v x l ≤ i → i < shown_ceiling v y l → HeldAt v l i (λ w. y < w)
  held_longer l i a b low up =
      let s = (shown_sooner l a b).0 in
      let f = counted_falls v l (shown_ceiling v x l) i s.time low s.is in
      (f.0, sym (counted_shared v l i (raised_shared v l (omega (arith, s.low, (within_later l a b).high)))) ∙ f.1, too_low l i f.0 a b low up f.1)

  -- one that is not raised above i for y, though it could be, is held at i for at most y
  held_shorter : (k i : ℕ) → 1 ≤ k → k ≤ v.locks → shown_ceiling v y k ≤ i → i < highest_ceiling v k → HeldAt v k i (λ w. w ≤ y)
  held_shorter k i a b low up =
      let s = within_later k a b in
      let f = counted_falls v k (shown_ceiling v y k) i s.time low s.is in
      (f.0, sym (counted_shared v k i (raised_shared v k (omega (arith, s.low)))) ∙ f.1, le_trans f.2 s.most)

  -- so the second has a smaller greatest c than the first
  longest_falls : (l k i : ℕ) → HeldAt v l i (λ w. y < w) → HeldAt v k i (λ w. w ≤ y) → greatest_held k v.tasks < greatest_held l v.tasks
  longest_falls l k i (w, e, long) (z, f, short) = go (dec_le (greatest_held l v.tasks) (greatest_held k v.tasks))
    where
      go : Dec (greatest_held l v.tasks ≤ greatest_held k v.tasks) → greatest_held k v.tasks < greatest_held l v.tasks
      go (no q) = omega arith
      go (yes q) = absurd (omega (arith, holding_less v.tasks k l i q w z e f))

  -- the task at the place i is blocked for longer under the ceilings shown for y
  module _ (i : ℕ) (here : i < length v.tasks) (less : blocking_at v (shown_ceiling v x) i < blocking_at v (shown_ceiling v y) i) where
    abbrev lower : List Task
    lower = lower_than i v.tasks

    count : length lower ≡ i
    count = lower_count v.tasks i (omega arith)

    -- by a lock that is raised above it only for y
    pub record RaisedAbove (l : ℕ) : Type 0 where
      pub from : 1 ≤ l
      pub upto : l ≤ v.locks
      pub low : shown_ceiling v x l ≤ i
      pub up : i < shown_ceiling v y l

    raised_by : (t : Task) (l : ℕ) → Blocks v.locks (shown_ceiling v y) lower t l → blocking_at v (shown_ceiling v y) i ≡ held_for l t → RaisedAbove l
    raised_by t l (k, r) e = go (dec_le (shown_ceiling v x l) i)
      where
        go : Dec (shown_ceiling v x l ≤ i) → RaisedAbove l
        go (no q) =
            absurd (omega (arith, e, (blocking_paper v.locks (shown_ceiling v x) lower).0 t l (k, record { from = r.from; upto = r.upto; ceiling = omega (arith, count) })))
        go (yes q) = record { from = r.from; upto = r.upto; low = q; up = omega (arith, count, r.ceiling) }

    -- all users of such a lock are below the task
    raised_longest : (l : ℕ) → RaisedAbove l → greatest_held l v.tasks ≤ blocking_at v (shown_ceiling v y) i
    raised_longest l r =
        blocking_longest v.tasks i l (le_trans (shown_sooner l r.from r.upto).0.low r.low) v.locks (shown_ceiling v y) r.from r.upto r.up (omega arith)

    raised_lock : (l : ℕ) × RaisedAbove l
    raised_lock = ⊎_elim (λ z. absurd (omega (arith, z))) (λ r. (r.1, raised_by r.0 r.1 r.2 r.3)) (blocking_paper v.locks (shown_ceiling v y) lower).1

    -- no lock at its highest ceiling blocks it for longer
    blocks_most : (t : Task) (k : ℕ) → Blocks v.locks (highest_ceiling v) lower t k → held_for k t ≤ blocking_at v (shown_ceiling v y) i
    blocks_most t k (j, r) = go (dec_le (shown_ceiling v y k) i)
      where
        go : Dec (shown_ceiling v y k ≤ i) → held_for k t ≤ blocking_at v (shown_ceiling v y) i
        go (no q) = (blocking_paper v.locks (shown_ceiling v y) lower).0 t k (j, record { from = r.from; upto = r.upto; ceiling = omega (arith, count) })
        go (yes q) =
            let l = raised_lock.0 in
            let f = raised_lock.1 in
            let g = longest_falls l k i (held_longer l i f.from f.upto f.low f.up) (held_shorter k i r.from r.upto q (omega (arith, count, r.ceiling))) in
            omega (arith, raised_longest l f, held_greatest k v.tasks t (lower_among v.tasks i t j))

    -- what it is blocked for under the ceilings shown for y is what it is blocked for under the highest
    pub blocking_two : blocking_at v (shown_ceiling v y) i ≡ blocking_at v (highest_ceiling v) i
    blocking_two =
        ⊎_elim (λ z. omega (arith, z, blockings_most i)) (λ r. omega (arith, r.3, blockings_most i, blocks_most r.0 r.1 r.2)) (blocking_paper v.locks (highest_ceiling v) lower).1

module _ (v : Partition) (σ : Setting) (i : ℕ) where
  at_highest_lem : blocking_at v σ i ≡ blocking_at v (highest_ceiling v) i → at_highest v σ i ≡ 1
  at_highest_lem e = rw (eq-eqb _ _ e) refl

  below_highest : (blocking_at v σ i ≡ blocking_at v (highest_ceiling v) i → ⊥) → at_highest v σ i ≡ 0
  below_highest n = rw (ne_eqb _ _ n) refl

  at_most_one : at_highest v σ i ≤ 1
  at_most_one = go (ℕ_discrete (blocking_at v σ i) (blocking_at v (highest_ceiling v) i))
    where
      go : Dec (blocking_at v σ i ≡ blocking_at v (highest_ceiling v) i) → at_highest v σ i ≤ 1
      go (yes e) = omega (arith, at_highest_lem e)
      go (no n) = omega (arith, below_highest n)

-- the lowest task is blocked by nobody, so it is one of them
module _ (v : Partition) (x : ℕ) where
  pub level_some : 1 ≤ length v.tasks → 1 ≤ level v x
  unfolding level
  level_some o =
      omega (arith, sum_rises (λ i. 0) (at_highest v (shown_ceiling v x)) (count_from 0 (length v.tasks)) (λ i k. omega arith) 0 (count_to (length v.tasks) 0 0 (omega arith) (omega arith)) (omega (arith, lowest)))
    where
      lowest : at_highest v (shown_ceiling v x) 0 ≡ 1
      lowest = at_highest_lem v (shown_ceiling v x) 0 (blocking_lowest v.locks (shown_ceiling v x) ∙ sym (blocking_lowest v.locks (highest_ceiling v)))

  pub level_most : level v x ≤ length v.tasks
  unfolding level
  level_most =
      omega (arith, length_count (length v.tasks) 0, sum_most (at_highest v (shown_ceiling v x)) 1 (count_from 0 (length v.tasks)) (λ i k. at_most_one v (shown_ceiling v x) i))

module _ (v : Partition) (x y : ℕ) (σ : Setting) (ok : Permitted v σ) (u : holding_time_of v σ ≤ y) (h : y ≤ x) where
  highest_stays : (i : ℕ) → at_highest v (shown_ceiling v x) i ≤ at_highest v (shown_ceiling v y) i
  highest_stays i = go (ℕ_discrete (blocking_at v (shown_ceiling v x) i) (blocking_at v (highest_ceiling v) i))
    where
      go : Dec (blocking_at v (shown_ceiling v x) i ≡ blocking_at v (highest_ceiling v) i) → at_highest v (shown_ceiling v x) i ≤ at_highest v (shown_ceiling v y) i
      go (no n) = omega (arith, below_highest v (shown_ceiling v x) i n)
      go (yes e) =
          let f = at_highest_lem v (shown_ceiling v y) i (omega (arith, e, blockings_rise v x y σ ok u h i, blockings_most v x y σ ok u h i)) in
          omega (arith, f, at_most_one v (shown_ceiling v x) i)

  -- where one task is blocked for longer, there is one more of them at least
  pub level_rises : (i : ℕ) → i < length v.tasks → blocking_at v (shown_ceiling v x) i < blocking_at v (shown_ceiling v y) i → level v x < level v y
  unfolding level
  level_rises i here less =
      sum_rises (at_highest v (shown_ceiling v x)) (at_highest v (shown_ceiling v y)) (count_from 0 (length v.tasks)) (λ j k. highest_stays j) i (count_to (length v.tasks) 0 i (omega arith) (omega arith)) (omega (arith, before, after))
    where
      two : blocking_at v (shown_ceiling v y) i ≡ blocking_at v (highest_ceiling v) i
      two = blocking_two v x y σ ok u h i here less

      before : at_highest v (shown_ceiling v x) i ≡ 0
      before = below_highest v (shown_ceiling v x) i (λ e. omega (arith, two))

      after : at_highest v (shown_ceiling v y) i ≡ 1
      after = at_highest_lem v (shown_ceiling v y) i two
