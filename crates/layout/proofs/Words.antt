-- The layout in the request's words: what each part is due from tick to tick, that the holder is the highest part due, that no part gets more than Q
-- ticks in a period, and how many ticks nobody has.
-- Assumes nothing.
use Prim.Native.Nat.{ℕ, zero, suc, ◌+◌, ◌-◌, ◌*◌, ◌/◌, ◌%◌, ◌≤◌, ◌<◌}
use native.Mathlib.Nat.{div-add-mod'}
use native.Mathlib.Omega.{arith}
use mathlib.Core.Path.{◌≡◌, refl, sym, ap, ◌∙◌}
use mathlib.Core.Bool.{Bool, true, false, cond}
use mathlib.Core.List.{List, [], ◌∷◌, map, Memᴰ}
use lib.Dec.{leb, eqb}
use borrow.Author.Tests.{le-leb, leb-true, leb-false, eqb-true, ne_eqb}
use lib.ListN.{length, drop, get_or}
use Rattle.least.specs.Lists.{sum, every, nth_or, greatest, numbers_from}
use Rattle.least.proofs.Lists.{nth_get, every_member}
use Rattle.refusal.specs.Limits.{cycle}
use Rattle.load.specs.declared.Row.{Row}
use Rattle.load.specs.Load.{passes_system}
use Rattle.load.specs.Code.Rows.{no_row}
use Rattle.delivery.specs.Assignment.{Assignment, given, Delivers}
use Rattle.delivery.proofs.Given.{tick, given_none, given_first, given_never, given_same, given_both, given_periods}
use Rattle.layout.specs.Layout.{begins, holder_of, due_at, holder_at, part_ticks, in_cycle}
use Rattle.layout.proofs.Begins.{begins_multiple}
use Rattle.layout.proofs.Share.{left, gets, left_start, no_more}
use Rattle.layout.proofs.Holders.{taken, due_first, holder_first, first_gets, taken_first, taken_none, first_has, later_has}
use Rattle.layout.proofs.Served.{row_of, part_gets, served_each, delivers_same}

-- within a period the part is due one less for a tick that it gets
left_gets : (P Q : ℕ) (taken : Assignment) (y : ℕ) → begins P (suc y) ≡ false → left P Q taken (suc y) + tick (gets P Q taken y) ≡ left P Q taken y
unfolding left gets
left_gets P Q taken y e = rw e (go (taken y) (leb 1 (left P Q taken y)) refl)
  where
    go : (b c : Bool) → leb 1 (left P Q taken y) ≡ c → left P Q taken y - cond b 0 1 + tick (cond b false c) ≡ left P Q taken y
    go true c f = omega arith
    go false true f = omega (arith, leb-true 1 (left P Q taken y) f)
    go false false f = omega (arith, leb-false 1 (left P Q taken y) f)

-- what a part is due, by those above it
due_part : (k : ℕ) (rows : List Row) → k < length rows → (y : ℕ)
    → get_or (due_at rows y) k 0 ≡ left (get_or rows k no_row).period (get_or rows k no_row).budget (taken (drop (suc k) rows)) y
due_part k [] h y = absurd (omega arith)
due_part zero (r ∷ rs) h y = ap (λ (l : List ℕ). get_or l 0 0) (due_first r rs y)
due_part (suc k) (r ∷ rs) h y = ap (λ (l : List ℕ). get_or l (suc k) 0) (due_first r rs y) ∙ due_part k rs (omega arith) y

module _ (rows : List Row) where
  -- at the start of each of its periods it is due Q
  pub due_begins : (k y : ℕ) → 1 ≤ k → k ≤ length rows → begins (row_of k rows).period y ≡ true → nth_or 0 k (due_at rows y) ≡ (row_of k rows).budget
  due_begins zero y l h e = absurd (omega arith)
  due_begins (suc k) y l h e =
      nth_get 0 k (due_at rows y)
      ∙ due_part k rows h y
      ∙ left_start _ _ _ y (rw (nth_get no_row k rows) at e)
      ∙ sym (ap (λ (r : Row). r.budget) (nth_get no_row k rows))

  -- and within a period one less for each tick of its own
  pub due_less : (k y : ℕ) → 1 ≤ k → k ≤ length rows → begins (row_of k rows).period (suc y) ≡ false
      → nth_or 0 k (due_at rows (suc y)) + tick (part_ticks rows k y) ≡ nth_or 0 k (due_at rows y)
  due_less zero y l h e = absurd (omega arith)
  due_less (suc k) y l h e =
      rw (nth_get 0 k (due_at rows (suc y)), nth_get 0 k (due_at rows y), due_part k rows h (suc y), due_part k rows h y, part_gets k rows h y)
      (left_gets _ _ _ y (rw (nth_get no_row k rows) at e))

holder_nobody : holder_of [] ≡ 0
unfolding holder_of numbers_from greatest
holder_nobody = refl

-- the holder is due a tick
pub holder_due : (ds : List ℕ) → 1 ≤ holder_of ds → 1 ≤ nth_or 0 (holder_of ds) ds
unfolding nth_or
holder_due [] h = absurd (omega (arith, holder_nobody))
holder_due (d ∷ ds) h = rw (holder_first d ds) (go (holder_of ds) refl (leb 1 d) refl (rw (holder_first d ds) at h) (holder_due ds))
  where
    go : (g : ℕ) → holder_of ds ≡ g → (b : Bool) → leb 1 d ≡ b → 1 ≤ cond (leb 1 g) (suc g) (tick b) → (1 ≤ holder_of ds → 1 ≤ nth_or 0 (holder_of ds) ds)
        → 1 ≤ nth_or 0 (cond (leb 1 g) (suc g) (tick b)) (d ∷ ds)
    go zero e true f l ih = leb-true 1 d f
    go zero e false f l ih = absurd (omega arith)
    go (suc g) e b f l ih = rw (le-leb 1 (suc g) (omega arith)) (rw e at (ih (omega (arith, e))))

-- and no part above it is
pub holder_above : (ds : List ℕ) (j : ℕ) → holder_of ds < j → nth_or 0 j ds ≡ 0
unfolding nth_or
holder_above [] j h = refl
holder_above (d ∷ ds) zero h = refl
holder_above (d ∷ ds) (suc j) h = go (holder_of ds) refl (leb 1 d) refl j (rw (holder_first d ds) at h) (holder_above ds)
  where
    go : (g : ℕ) → holder_of ds ≡ g → (b : Bool) → leb 1 d ≡ b → (j : ℕ) → cond (leb 1 g) (suc g) (tick b) < suc j
        → ((i : ℕ) → holder_of ds < i → nth_or 0 i ds ≡ 0) → nth_or 0 (suc j) (d ∷ ds) ≡ 0
    go zero e true f zero l ih = absurd (omega arith)
    go zero e false f zero l ih = omega (arith, leb-false 1 d f)
    go (suc g) e b f zero l ih = absurd (omega (arith, rw (le-leb 1 (suc g) (omega arith)) at l))
    go zero e b f (suc j) l ih = ih (suc j) (omega (arith, e))
    go (suc g) e b f (suc j) l ih = let m : suc (suc g) < suc (suc j) = rw (le-leb 1 (suc g) (omega arith)) at l in ih (suc j) (omega (arith, e))

-- no part gets more than Q ticks in a period, whatever the rows
pub no_more_each : (rows : List Row) (k : ℕ) → 1 ≤ k → k ≤ length rows → (n : ℕ)
    → given (part_ticks rows k) (n * (row_of k rows).period) (row_of k rows).period ≤ (row_of k rows).budget
no_more_each rows zero l h n = absurd (omega arith)
no_more_each rows (suc k) l h n = rw (nth_get no_row k rows) (go (get_or rows k no_row).period refl)
  where
    r : Row
    r = get_or rows k no_row

    go : (P : ℕ) → r.period ≡ P → given (part_ticks rows (suc k)) (n * P) P ≤ r.budget
    go zero e = omega (arith, given_none (part_ticks rows (suc k)) (n * 0))
    go (suc p) e =
        let m = no_more r.period r.budget (taken (drop (suc k) rows)) (n * r.period) (begins_multiple r.period n) (omega (arith, e)) in
        rw e at (rw (← given_same (part_ticks rows (suc k)) _ (part_gets k rows h) (n * r.period) r.period) at m)

-- a tick is nobody's, or some part's
nobody_or_some : (h : ℕ) → 1 ≡ tick (eqb h 0) + tick (leb 1 h)
nobody_or_some zero = refl
nobody_or_some (suc h) = rw (ne_eqb (suc h) 0 (λ e. omega arith), le-leb 1 (suc h) (omega arith)) refl

given_always : (s t : ℕ) → given (λ y. true) s t ≡ t
given_always s zero = given_none _ s
given_always s (suc t) = omega (arith, given_first (λ y. true) s t, given_always (suc s) t)

free_and_taken : (rows : List Row) (s t : ℕ) → given (part_ticks rows 0) s t + given (taken rows) s t ≡ t
free_and_taken rows s t = sym (given_both (part_ticks rows 0) (taken rows) (λ y. true) (λ y. nobody_or_some (holder_at rows y)) s t) ∙ given_always s t

-- every part gets its Q ticks in each of its periods
abbrev Served : List Row → Type 0
Served rows = (k : ℕ) → 1 ≤ k → k ≤ length rows → Delivers (row_of k rows).period (row_of k rows).budget (part_ticks rows k)

module _ (r : Row) (rs : List Row) (s : Served (r ∷ rs)) where
  served_first : Delivers r.period r.budget (first_gets r rs)
  unfolding nth_or
  served_first = delivers_same _ _ _ _ (λ y. sym (first_has r rs y)) (s 1 (omega arith) (omega arith))

  served_rest : Served rs
  unfolding nth_or
  served_rest zero l h = absurd (omega arith)
  served_rest (suc k) l h = delivers_same _ _ _ _ (λ y. sym (later_has r rs k y)) (s (suc (suc k)) (omega arith) (omega arith))

-- then the parts have Q ticks for each period in t ticks that all periods divide
taken_budgets : (t : ℕ) (rows : List Row) → Served rows → ((r : Row) → Memᴰ r rows → t % r.period ≡ 0)
    → given (taken rows) 0 t ≡ sum (map (λ r. t / r.period * r.budget) rows)
unfolding sum
taken_budgets t [] s d = given_never (taken []) (λ u. ap tick (taken_none u)) 0 t
taken_budgets t (r ∷ rs) s d =
    let e : t / r.period * r.period ≡ t = omega (arith, div-add-mod' t r.period, d r (Memᴰ.head refl)) in
    let p = given_periods r.period r.budget (first_gets r rs) (served_first r rs s) (t / r.period) in
    let g : given (first_gets r rs) 0 t ≡ t / r.period * r.budget = rw e at p in
    let rest = taken_budgets t rs (served_rest r rs s) (λ q m. d q (Memᴰ.tail m)) in
    omega (arith, given_both (taken rs) (first_gets r rs) (taken (r ∷ rs)) (taken_first r rs) 0 t, g, rest)

-- of the ticks of a cycle nobody has any but those
pub free_in_cycle : (rows : List Row) → passes_system rows ≡ true → every in_cycle rows ≡ true
    → given (part_ticks rows 0) 0 cycle + sum (map (λ r. cycle / r.period * r.budget) rows) ≡ cycle
unfolding in_cycle
free_in_cycle rows p c =
    let g = taken_budgets cycle rows (served_each rows p) (λ r m. eqb-true _ 0 (every_member in_cycle rows c m)) in
    omega (arith, free_and_taken rows 0 cycle, g)
