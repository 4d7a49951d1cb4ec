-- The system test and the load are what the paper says, and only one bound, load and row is such.
-- Assumes nothing.
use Prim.Native.Nat.{ℕ, zero, suc, ◌-◌, ◌≤◌}
use native.Mathlib.Omega.{arith}
use native.Mathlib.Decide.{dec_le}
use mathlib.Core.Path.{◌≡◌, sym, ap, ◌∙◌, subst}
use mathlib.Core.Bool.{true}
use mathlib.Core.Logic.{◌↔◌}
use mathlib.Core.List.{List, reverse}
use borrow.Author.Tests.{leb-true, le-leb}
use lib.ListN.{length, take, drop, get_or}
use Rattle.least.specs.declared.Frac.{Frac}
use Rattle.least.specs.Lists.{nth_or}
use Rattle.least.specs.Fraction.{frac, ◌⊑◌}
use Rattle.least.proofs.Along.{along_at, along_places}
use Rattle.least.proofs.Fraction.{not-⊏}
use Rattle.least.proofs.Lists.{nth_get, nth_member}
use Rattle.least.proofs.Members.{get_d_any}
use Rattle.load.specs.declared.Row.{Row}
use Rattle.load.specs.Load.{row, load_at, row_passes, passes_system, bound_of, bounds_of, load_of, load_row}
use Rattle.load.specs.Weigh.{has_time}
use Rattle.load.proofs.Load.{bound_paper, row_passes_paper, bound_finite, bounds_of-length, load_greatest, load_row_first}
use Rattle.planner.specs.SystemTest.{row_at, bound_at, L, TimeOf, BoundIs, LoadIs, SystemTest}
use Rattle.planner.proofs.Reversed.{load_at-reverse}

-- an element that there is
nth_any : {A : Type 0} (d e : A) (xs : List A) (i : ℕ) → 1 ≤ i → i ≤ length xs → nth_or d i xs ≡ nth_or e i xs
nth_any d e xs zero a b = absurd (omega arith)
nth_any d e xs (suc i) a b = nth_get d i xs ∙ get_d_any xs i d e (omega arith) ∙ sym (nth_get e i xs)

-- only one bound is such
module _ {rows : List Row} {i : ℕ} where
  no_later : {b c : Frac} → BoundIs rows i b → BoundIs rows i c → b.den ≤ c.den
  no_later {b} {c} p q = p.smallest c.den q.time (subst (λ (n : ℕ). frac n c.den ⊑ b) q.value (subst (λ (n : ℕ). c ⊑ frac n b.den) (sym p.value) (q.least b.den p.time)))

  pub bound_settled : {b c : Frac} → BoundIs rows i b → BoundIs rows i c → b ≡ c
  bound_settled {b} {c} p q =
      let e : b.den ≡ c.den = omega (arith, no_later p q, no_later q p) in
      λ k. record { num = (p.value ∙ ap (L rows i) e ∙ sym q.value) k; den = e k }

-- only one load, and one row of it
module _ {rows : List Row} where
  no_earlier : {b c : Frac} {i j : ℕ} → LoadIs rows b i → LoadIs rows c j → j ≤ i
  no_earlier {b} {c} {i} {j} p q = go (dec_le j i)
    where
      go : Dec (j ≤ i) → j ≤ i
      go (yes h) = h
      go (no h) = absurd (not-⊏ (q.first i b p.from (omega arith) p.reached) (p.greatest j c q.from q.to q.reached))

  pub row_settled : {b c : Frac} {i j : ℕ} → LoadIs rows b i → LoadIs rows c j → i ≡ j
  row_settled p q = omega (arith, no_earlier p q, no_earlier q p)

  pub load_settled : {b c : Frac} {i j : ℕ} → LoadIs rows b i → LoadIs rows c j → b ≡ c
  load_settled {c = c} p q = bound_settled p.reached (subst (λ (k : ℕ). BoundIs rows k c) (sym (row_settled p q)) q.reached)

module _ (rows : List Row) where
  -- the rows before row j, nearest first
  abbrev lower : ℕ → List Row
  lower j = reverse (take (j - 1) rows)

  L-reverse : (j t : ℕ) → load_at (lower j) (row_at rows j) (drop j rows) t ≡ L rows j t
  L-reverse j t = load_at-reverse (take (j - 1) rows) (row_at rows j) (drop j rows) t

  row_iff : (j : ℕ) → (row_passes (lower j) (row_at rows j) (drop j rows) ≡ true) ↔ ((t : ℕ) × TimeOf rows j t)
  row_iff j =
      let iff = row_passes_paper (lower j) (row_at rows j) (drop j rows) in (
        (λ e. let h = iff.0 e in (h.0, record { from = h.1; to = h.2; served = omega (arith, h.3, L-reverse j h.0) })),
        λ k. iff.1 (k.0, k.1.from, k.1.to, omega (arith, k.1.served, L-reverse j k.0)),
      )

  passes_iff : (passes_system rows ≡ true) ↔ ((i : ℕ) → 1 ≤ i → i ≤ length rows → (t : ℕ) × TimeOf rows i t)
  unfolding passes_system
  passes_iff = (to, from)
    where
      at_place : (k : ℕ) → row_passes (lower (suc k)) (row_at rows (suc k)) (drop (suc k) rows) ≡ row_passes (reverse (take k rows)) (get_or rows k (row 0 0 0)) (drop (suc k) rows)
      at_place k =
          let e : suc k - 1 ≡ k = omega arith in
          rw e (ap (λ (r : Row). row_passes (reverse (take k rows)) r (drop (suc k) rows)) (nth_get (row 0 0 0) k rows))

      to : passes_system rows ≡ true → (i : ℕ) → 1 ≤ i → i ≤ length rows → (t : ℕ) × TimeOf rows i t
      to q zero a b = absurd (omega arith)
      to q (suc k) a b = (row_iff (suc k)).0 (at_place k ∙ (along_places row_passes (row 0 0 0) rows).0 q k (omega arith))

      from : ((i : ℕ) → 1 ≤ i → i ≤ length rows → (t : ℕ) × TimeOf rows i t) → passes_system rows ≡ true
      from f = (along_places row_passes (row 0 0 0) rows).1 (λ k h. sym (at_place k) ∙ (row_iff (suc k)).1 (f (suc k) (omega arith) (omega arith)))

  -- the bound of row j
  bound_at_lem : (j : ℕ) → 1 ≤ j → j ≤ length rows → bound_at (bounds_of rows) j ≡ bound_of (lower j) (row_at rows j) (drop j rows)
  unfolding bounds_of
  bound_at_lem zero a b = absurd (omega arith)
  bound_at_lem (suc k) a b =
      let e : suc k - 1 ≡ k = omega arith in
      rw e (nth_get (frac 0 0) k (bounds_of rows) ∙ along_at bound_of (row 0 0 0) (frac 0 0) rows k (omega arith) ∙ ap (λ (r : Row). bound_of (reverse (take k rows)) r (drop (suc k) rows)) (sym (nth_get (row 0 0 0) k rows)))

  module _ (j : ℕ) (a : 1 ≤ j) (b : j ≤ length rows) where
    pub time_iff : (has_time (bound_at (bounds_of rows) j) ≡ true) ↔ ((t : ℕ) × TimeOf rows j t)
    time_iff =
        let iff = bound_finite (lower j) (row_at rows j) (drop j rows) in (
          (λ e. (row_iff j).0 (iff.0 (record { pos = leb-true 1 _ (rw (bound_at_lem j a b) at e) }))),
          λ k. rw (bound_at_lem j a b) (le-leb 1 _ (iff.1 ((row_iff j).1 k)).pos),
        )

    bound_is : (t : ℕ) × TimeOf rows j t → BoundIs rows j (bound_at (bounds_of rows) j)
    bound_is k =
        let B = bound_at (bounds_of rows) j in
        let p = bound_paper (lower j) (row_at rows j) (drop j rows) B.num B.den (sym (bound_at_lem j a b)) (leb-true 1 _ (time_iff.1 k)) in
        record {
          time = record { from = p.above; to = p.within; served = omega (arith, p.value, p.served, L-reverse j B.den) };
          value = p.value ∙ L-reverse j B.den;
          least = λ u t. rw (L-reverse j u) at (p.least u t.from t.to (omega (arith, t.served, L-reverse j u)));
          smallest = λ u t g. earliest u t g (dec_le B.den u);
        }
      where
        earliest : (u : ℕ) → TimeOf rows j u → frac (L rows j u) u ⊑ bound_at (bounds_of rows) j → Dec ((bound_at (bounds_of rows) j).den ≤ u) → (bound_at (bounds_of rows) j).den ≤ u
        earliest u t g (yes h) = h
        earliest u t g (no h) =
            let B = bound_at (bounds_of rows) j in
            let p = bound_paper (lower j) (row_at rows j) (drop j rows) B.num B.den (sym (bound_at_lem j a b)) (leb-true 1 _ (time_iff.1 k)) in
            absurd (not-⊏ (rw (L-reverse j u) at (p.first u t.from (omega arith) (omega (arith, t.served, L-reverse j u)))) g)

    is_bound : {c : Frac} → BoundIs rows j c → c ≡ bound_at (bounds_of rows) j
    is_bound {c} h = bound_settled h (bound_is (c.den, h.time))

    any_bound : nth_or (frac 0 1) j (bounds_of rows) ≡ bound_at (bounds_of rows) j
    any_bound = nth_any (frac 0 1) (frac 0 0) (bounds_of rows) j a (omega (arith, bounds_of-length rows))

  load_is : passes_system rows ≡ true → 1 ≤ length rows → LoadIs rows (load_of rows) (load_row rows)
  load_is q s =
      let r = load_row_first rows s in
      let k = load_row rows in
      record {
        from = r.above;
        to = r.within;
        reached = subst (BoundIs rows k) (sym (any_bound k r.above r.within) ∙ r.value) (bound_is k r.above r.within (passes_iff.0 q k r.above r.within));
        greatest = λ i b a l h. rw (is_bound i a l h) ((load_greatest rows).0 _ (nth_member (frac 0 0) i (bounds_of rows) a (omega (arith, bounds_of-length rows))));
        first = λ i b a l h. let m : i ≤ length rows = omega (arith, r.within) in rw (is_bound i a m h, ← any_bound i a m) (r.before i a l);
      }

pub system_test : SystemTest
system_test = record {
  passes = passes_iff;
  bounds = λ rows q i a b. bound_is rows i a b ((passes_iff rows).0 q i a b);
  count = bounds_of-length;
  load = load_is;
}
