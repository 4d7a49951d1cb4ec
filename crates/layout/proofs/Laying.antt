-- Laws for the code that makes the chart: one part after another, the highest first.
--   numbered k h    == the number of a part, counted among all, where it is h among those above the first k; 0 where it is none
--   LaidFrom rows k == the bytes of a cycle have the parts above the first k
-- Assumes nothing.
use Prim.Native.Nat.{ℕ, zero, suc, ◌+◌, ◌-◌, ◌*◌, ◌/◌, ◌%◌, ◌≤◌, ◌<◌}
use native.Mathlib.Nat.{add-zero, add-suc, zero-add, div-add-mod', mod-lt, mul-add-mod_self_right, mod-eq_of_lt}
use native.Mathlib.Omega.{arith}
use native.Mathlib.Numerals.{add-one}
use mathlib.Core.Path.{◌≡◌, refl, sym, ap, ap₂, ◌∙◌}
use mathlib.Core.Logic.{inr}
use mathlib.Core.Bool.{Bool, true, false, cond, not, ◌&&◌}
use mathlib.Core.List.{List, ◌∷◌, ◌++◌}
use lib.Dec.{leb, ltb, eqb}
use borrow.Author.Tests.{le-leb, leb-true, leb-false, lt-leb, ne_eqb, ltb-true, ltb-false}
use lib.ListN.{length, take, drop, get_or, take-append-drop, drop_of_length-le, length-drop}
use lib.Seq.{drop-cons, length-take-le, get_or-take, get_or-drop, ext_get_or}
use Rattle.least.specs.Code.Stored.{Stored}
use Rattle.refusal.specs.Limits.{cycle}
use Rattle.delivery.specs.Assignment.{Assignment, given}
use Rattle.delivery.proofs.Given.{tick, given_none, given_last, given_same_in}
use Rattle.load.specs.declared.Row.{Row}
use Rattle.load.specs.Code.Rows.{no_row}
use Rattle.layout.specs.Layout.{begins, holder_at, chart}
use Rattle.layout.specs.Code.Placing.{free_in, placed_at, Placed}
use Rattle.layout.proofs.Begins.{begins_multiple}
use Rattle.layout.proofs.Share.{left, gets, left_start}
use Rattle.layout.proofs.Holders.{taken, taken_none, holder_at_is}
use Rattle.layout.proofs.Chart.{chart_length, chart_at}

-- inside a period a part is due Q less the free ticks that it had, so it gets the first Q free ones
module _ (P Q : ℕ) (taken : Assignment) where
  abbrev free : Assignment
  free y = not (taken y)

  not_begun : (m i : ℕ) → suc i < P → begins P (m * P + suc i) ≡ false
  not_begun m i l =
      let r : (m * P + suc i) % P ≡ suc i = mul-add-mod_self_right m P (suc i) ∙ mod-eq_of_lt l in
      ne_eqb ((m * P + suc i) % P) 0 (λ e. omega (arith, r, e))

  left_less : (y : ℕ) → begins P (suc y) ≡ false → left P Q taken (suc y) ≡ left P Q taken y - cond (taken y) 0 1
  unfolding left
  left_less y e = rw e refl

  left_in_period : (m i : ℕ) → i < P → left P Q taken (m * P + i) ≡ Q - given free (m * P) i
  left_in_period m zero l = ap (left P Q taken) (add-zero (m * P)) ∙ left_start P Q taken (m * P) (begins_multiple P m) ∙ omega (arith, given_none free (m * P))
  left_in_period m (suc i) l = ap (left P Q taken) (add-suc (m * P) i) ∙ go (left_in_period m i (omega arith)) (taken (m * P + i)) refl
    where
      next : left P Q taken (suc (m * P + i)) ≡ left P Q taken (m * P + i) - cond (taken (m * P + i)) 0 1
      next = left_less (m * P + i) (rw (add-suc (m * P) i) at (not_begun m i l))

      go : left P Q taken (m * P + i) ≡ Q - given free (m * P) i → (b : Bool) → taken (m * P + i) ≡ b → left P Q taken (suc (m * P + i)) ≡ Q - given free (m * P) (suc i)
      go ih true e = next ∙ omega (arith, ih, ap (λ (b : Bool). cond {A = ℕ} b 0 1) e, given_last free (m * P) i, ap (λ (b : Bool). tick (not b)) e)
      go ih false e = next ∙ omega (arith, ih, ap (λ (b : Bool). cond {A = ℕ} b 0 1) e, given_last free (m * P) i, ap (λ (b : Bool). tick (not b)) e)

  gets_first : (m i : ℕ) → i < P → gets P Q taken (m * P + i) ≡ (free (m * P + i) && ltb (given free (m * P) i) Q)
  unfolding gets
  gets_first m i l = go (taken (m * P + i)) (decided (given free (m * P) i))
    where
      decided : (g : ℕ) → leb 1 (Q - g) ≡ ltb g Q
      decided g = by (ltb g Q) refl
        where
          by : (b : Bool) → ltb g Q ≡ b → leb 1 (Q - g) ≡ b
          by true e = le-leb 1 (Q - g) (omega (arith, ltb-true g Q e))
          by false e = lt-leb 1 (Q - g) (omega (arith, ltb-false g Q e))

      go : (b : Bool) → leb 1 (Q - given free (m * P) i) ≡ ltb (given free (m * P) i) Q → cond b false (leb 1 (left P Q taken (m * P + i))) ≡ (not b && ltb (given free (m * P) i) Q)
      go true d = refl
      go false d = ap (leb 1) (left_in_period m i l) ∙ d

abbrev pub numbered : ℕ → ℕ → ℕ
numbered k h = cond (leb 1 h) (k + h) 0

numbered_free : (k h : ℕ) → eqb (numbered k h) 0 ≡ not (leb 1 h)
numbered_free k h = go (leb 1 h) refl
  where
    go : (b : Bool) → leb 1 h ≡ b → eqb (cond b (k + h) 0) 0 ≡ not b
    go true e = ne_eqb (k + h) 0 (λ z. omega (arith, leb-true 1 h e, z))
    go false e = refl

abbrev pub LaidFrom : List Row → ℕ → List ℕ → List ℕ → Type 0
LaidFrom rows k before after = Stored (λ y. numbered k (holder_at (drop k rows) y)) 0 cycle before after

-- one part more below
module _ (r : Row) (rs : List Row) (k : ℕ) (some : 1 ≤ r.period) (bytes : List ℕ) (are : (y : ℕ) → y < cycle → get_or bytes y 0 ≡ numbered (suc k) (holder_at rs y)) where
  abbrev P : ℕ
  P = r.period

  free_are : (y : ℕ) → y < cycle → free_in bytes y ≡ not (taken rs y)
  free_are y l = ap (λ (b : ℕ). eqb b 0) (are y l) ∙ numbered_free (suc k) (holder_at rs y)

  placed_in : (m i : ℕ) → i < P → m * P + i < cycle → placed_at bytes (m * P) r.budget (suc k) i ≡ numbered k (holder_at (r ∷ rs) (m * P + i))
  unfolding placed_at
  placed_in m i l h =
      let y = m * P + i in
      let g = given_same_in (free_in bytes) (λ z. not (taken rs z)) (m * P) i (λ z a b. free_are z (omega arith)) in
      let q = gets_first P r.budget (taken rs) m i l in
      rw (g, free_are y h, are y h, holder_at_is r rs y, q) (go (taken rs y) (ltb (given (λ z. not (taken rs z)) (m * P) i) r.budget) refl)
    where
      go : (b c : Bool) → taken rs (m * P + i) ≡ b →
          cond (not b && c) (suc k) (cond b (suc k + holder_at rs (m * P + i)) 0) ≡ numbered k (cond b (suc (holder_at rs (m * P + i))) (tick (not b && c)))
      go true c e = rw (le-leb 1 (suc (holder_at rs (m * P + i))) (omega arith)) (omega arith)
      go false true e = omega arith
      go false false e = refl

  pub placed_is : (y : ℕ) → y < cycle → placed_at bytes (y / P * P) r.budget (suc k) (y % P) ≡ numbered k (holder_at (r ∷ rs) y)
  placed_is y h =
      let e = div-add-mod' y P in
      placed_in (y / P) (y % P) (mod-lt y some) (omega (arith, e)) ∙ ap (λ (z : ℕ). numbered k (holder_at (r ∷ rs) z)) e

-- every tick is free, as no part is above the last
pub laid_start : (rows : List Row) (k : ℕ) (bytes : List ℕ) → length rows ≡ k → ((y : ℕ) → y < cycle → get_or bytes y 0 ≡ 0) → LaidFrom rows k bytes bytes
laid_start rows k bytes e free = record { each = λ y l. rw zero-add (free y l ∙ sym (none y)); others = λ j u. refl; room = refl }
  where
    none : (y : ℕ) → numbered k (holder_at (drop k rows) y) ≡ 0
    none y = ap (λ (b : Bool). cond b (k + holder_at (drop k rows) y) 0) (ap (λ (rs : List Row). taken rs y) (drop_of_length-le rows {i = k} (omega arith)) ∙ taken_none y)

module _ (rows : List Row) (k : ℕ) (before after next : List ℕ) (l : k < length rows) (some : 1 ≤ (get_or rows k no_row).period) (s : LaidFrom rows (suc k) before after) where
  -- the part k places from the first gets its ticks
  abbrev r : Row
  r = get_or rows k no_row

  laid_next : Placed r.period r.budget (suc k) after next → LaidFrom rows k before next
  laid_next p = record {
    each = λ y h. p.each y h ∙ placed_is r (drop (suc k) rows) k some after (λ z u. rw (zero-add z) at (s.each z u)) y h ∙ ap (λ (rs : List Row). numbered k (holder_at rs y)) (sym (drop-cons rows k no_row l));
    others = λ j u. p.others j u ∙ s.others j u;
    room = p.room ∙ s.room;
  }

pub laid_below : (rows : List Row) (k : ℕ) (before after next : List ℕ) → 0 < k → k ≤ length rows → 1 ≤ (get_or rows (k - 1) no_row).period → LaidFrom rows k before after
    → Placed (get_or rows (k - 1) no_row).period (get_or rows (k - 1) no_row).budget (k - 1 + 1) after next → LaidFrom rows (k - 1) before next
laid_below rows zero before after next a l some s p = absurd (omega arith)
laid_below rows (suc k) before after next a l some s p =
    let e : suc k - 1 ≡ k = omega arith in
    rw e (laid_next rows k before after next l (rw e at some) s (rw (e, add-one k) at p))

-- the bytes behind a cycle are as they were
pub rest_same : {value : ℕ → ℕ} (before after : List ℕ) → Stored value 0 cycle before after → drop cycle after ≡ drop cycle before
rest_same before after s =
    ext_get_or 0 (drop cycle after) (drop cycle before) (length-drop cycle after ∙ ap (λ (n : ℕ). n - cycle) s.room ∙ sym (length-drop cycle before))
    (λ i l. get_or-drop cycle after i 0 ∙ s.others (cycle + i) (inr (omega arith)) ∙ sym (get_or-drop cycle before i 0))

-- all parts are laid out: the chart is in the first bytes
module _ (rows : List Row) (before after : List ℕ) (long : cycle ≤ length before) (s : LaidFrom rows 0 before after) where
  chart_taken : take cycle after ≡ chart rows
  chart_taken =
      let n = length-take-le cycle after (omega (arith, s.room)) in
      ext_get_or 0 (take cycle after) (chart rows) (n ∙ sym (chart_length rows)) (λ y l. at y (omega (arith, n)))
    where
      whole : (h : ℕ) → numbered 0 h ≡ h
      whole h = go (leb 1 h) refl
        where
          go : (b : Bool) → leb 1 h ≡ b → cond b (0 + h) 0 ≡ h
          go true e = zero-add h
          go false e = omega (arith, leb-false 1 h e)

      at : (y : ℕ) → y < cycle → get_or (take cycle after) y 0 ≡ get_or (chart rows) y 0
      at y l = get_or-take cycle after y 0 l ∙ (rw (zero-add y) at (s.each y l)) ∙ whole (holder_at rows y) ∙ sym (chart_at rows y l)

  pub laid_all : after ≡ chart rows ++ drop cycle before
  laid_all = sym (take-append-drop cycle after) ∙ ap₂ ◌++◌ chart_taken (rest_same before after s)
