-- How many different X a part can have: each smaller X raises a ceiling that is shown, so a falling list of X has at most 1 + m·(n − 1) numbers.
--   raised v σ == Σ over the locks of the ceiling above the lock's lowest
--   Used v     == every lock has a user
--   HasX v x   == x is the X of a permitted setting
-- Assumes nothing.
use Rattle.std.specs.Prelude.{Some}
use Prim.Native.Nat.{ℕ, ◌+◌, ◌-◌, ◌*◌, ◌≤◌, ◌<◌}
use native.Mathlib.Nat.{le_of_eq, le_trans, eq-or-lt_of_le, mul-le-mul_right}
use native.Mathlib.Omega.{arith}
use mathlib.Core.Path.{◌≡◌, refl, ap}
use mathlib.Core.Logic.{◌⊎◌, inl, inr, ⊎_elim}
use mathlib.Core.List.{List, [], ◌∷◌, map, Memᴰ}
use lib.ListN.{length}
use Rattle.least.specs.Lists.{sum, range}
use Rattle.least.proofs.Lists.{range_iff}
use Rattle.least.proofs.Pairwise.{Pairwise}
use Rattle.least.proofs.Sums.{sum_rises, sum_most, length-range}
use Rattle.task_set.specs.declared.Task.{Task}
use Rattle.task_set.specs.Tasks.{lowest_ceiling}
use Rattle.task_set.specs.Partition.{Partition}
use Rattle.task_set.specs.Blocking.{Setting}
use Rattle.holding.specs.Holding.{holding_time_of}
use Rattle.holding.proofs.Holding.{Ranged, in_range_paper, highest_most, counted_time, holding_time_paper}
use Rattle.candidates.specs.Candidates.{shown_ceiling}
use Rattle.candidates.specs.Statement.{Permitted}
use Rattle.candidates.proofs.Shown.{Within, permitted_within, shown_under, shown_permitted, shown_holding, shown_exact}

-- how far the ceiling of lock l is above the lowest
abbrev above : List Task → Setting → ℕ → ℕ
above ts σ l = σ l - lowest_ceiling l ts

unfoldable pub raised : Partition → Setting → ℕ
raised v σ = sum (map (λ l. σ l - lowest_ceiling l v.tasks) (range 1 v.locks))

abbrev pub Used : Partition → Type 0
Used v = (l : ℕ) → 1 ≤ l → l ≤ v.locks → 1 ≤ lowest_ceiling l v.tasks

pub raised_most : (v : Partition) (σ : Setting) → Used v → Ranged v σ → raised v σ ≤ v.locks * (length v.tasks - 1)
unfolding raised
raised_most v σ used in_range = le_trans most (mul-le-mul_right (length v.tasks - 1) (omega (arith, length-range 1 v.locks)))
  where
    each : (l : ℕ) → Memᴰ l (range 1 v.locks) → above v.tasks σ l ≤ length v.tasks - 1
    each l k = let r = (range_iff 1 v.locks l).0 k in omega (arith, used l r.0 r.1, (in_range l r.0 r.1).1, highest_most v l)

    most : sum (map (above v.tasks σ) (range 1 v.locks)) ≤ length (range 1 v.locks) * (length v.tasks - 1)
    most = sum_most (above v.tasks σ) (length v.tasks - 1) (range 1 v.locks) each

-- a permitted setting with X ≤ y, and ceilings shown for a greater x whose X is greater than y: these are less raised
module _ (v : Partition) (x y : ℕ) (σ : Setting) (h : y ≤ x) (ok : Permitted v σ) (u : holding_time_of v σ ≤ y) (more : y < holding_time_of v (shown_ceiling v x)) where
  shown_beside : (l : ℕ) → 1 ≤ l → l ≤ v.locks → Within v x l (shown_ceiling v x l) × (shown_ceiling v x l ≤ σ l)
  shown_beside = shown_under v x σ ok (le_trans u h)

  -- the lock that is held longest under the ceilings shown for x has a lower one there
  lower_there : (l : ℕ) → 1 ≤ l → l ≤ v.locks → counted_time v l (shown_ceiling v x l) ≡ Some (holding_time_of v (shown_ceiling v x)) → shown_ceiling v x l < σ l
  lower_there l a b t = go (eq-or-lt_of_le (shown_beside l a b).1)
    where
      go : (shown_ceiling v x l ≡ σ l) ⊎ (shown_ceiling v x l < σ l) → shown_ceiling v x l < σ l
      go (inl e) =
          let k = permitted_within v y σ ok u l a b in
          let same : holding_time_of v (shown_ceiling v x) ≡ k.time = cc (t, ap (counted_time v l) e, k.is) in
          absurd (omega (arith, k.most))
      go (inr q) = q

  pub raised_rises : raised v (shown_ceiling v x) < raised v σ
  unfolding raised
  raised_rises = ⊎_elim (λ z. absurd (omega (arith, z))) rises (holding_time_paper v (shown_ceiling v x) (shown_permitted v x σ ok (le_trans u h)).held).one
    where
      each : (l : ℕ) → Memᴰ l (range 1 v.locks) → above v.tasks (shown_ceiling v x) l ≤ above v.tasks σ l
      each l k = let r = (range_iff 1 v.locks l).0 k in omega (arith, (shown_beside l r.0 r.1).1)

      rises : (l : ℕ) × (1 ≤ l) × (l ≤ v.locks) × (counted_time v l (shown_ceiling v x l) ≡ Some (holding_time_of v (shown_ceiling v x))) → sum (map (above v.tasks (shown_ceiling v x)) (range 1 v.locks)) < sum (map (above v.tasks σ) (range 1 v.locks))
      rises (l, a, b, t) =
          sum_rises (above v.tasks (shown_ceiling v x)) (above v.tasks σ) (range 1 v.locks) each l ((range_iff 1 v.locks l).1 (a, b)) (omega (arith, (shown_beside l a b).0.low, lower_there l a b t))

-- x is the X of a permitted setting
pub record HasX (v : Partition) (x : ℕ) : Type 0 where
  pub setting : Setting
  pub allowed : Permitted v setting
  pub holding : holding_time_of v setting ≡ x

module _ (v : Partition) where
  raised_next : (x y : ℕ) → HasX v x → HasX v y → y < x → raised v (shown_ceiling v x) < raised v (shown_ceiling v y)
  raised_next x y p q l =
      let ok = shown_permitted v y q.setting q.allowed (le_of_eq q.holding) in
      let u = shown_holding v y q.setting q.allowed (le_of_eq q.holding) in
      let e = shown_exact v x p.setting p.allowed (le_of_eq p.holding) p.holding in
      raised_rises v x y (shown_ceiling v y) (omega arith) ok u (omega arith)

  raised_x : (x : ℕ) → Used v → HasX v x → raised v (shown_ceiling v x) ≤ v.locks * (length v.tasks - 1)
  raised_x x used q =
      raised_most v _ used ((in_range_paper v _).0 (shown_permitted v x q.setting q.allowed (le_of_eq q.holding)).ranged)

  module _ (used : Used v) where
    -- a falling list of X
    count_raised : (x : ℕ) (xs : List ℕ) → Pairwise (λ x y. y < x) (x ∷ xs) → ((y : ℕ) → Memᴰ y (x ∷ xs) → HasX v y) → length xs + raised v (shown_ceiling v x) ≤ v.locks * (length v.tasks - 1)
    count_raised x [] p all = omega (arith, raised_x x used (all x (mathlib.Core.List.Memᴰ.head refl)))
    count_raised x (y ∷ ys) (Pairwise.more h p) all =
        let k : Memᴰ y (x ∷ y ∷ ys) = mathlib.Core.List.Memᴰ.tail (mathlib.Core.List.Memᴰ.head refl) in
        omega (arith, raised_next x y (all x (mathlib.Core.List.Memᴰ.head refl)) (all y k) (h y (mathlib.Core.List.Memᴰ.head refl)), count_raised y ys p (λ z j. all z (mathlib.Core.List.Memᴰ.tail j)))

    pub x_count : (xs : List ℕ) → Pairwise (λ x y. y < x) xs → ((y : ℕ) → Memᴰ y xs → HasX v y) → length xs ≤ 1 + v.locks * (length v.tasks - 1)
    x_count [] p all = omega arith
    x_count (x ∷ xs) p all = omega (arith, count_raised x xs p all)
