-- The system test and the load in the paper's words, and loads are monotone.
--   Bound lower s higher L t == L = L(t) ≤ t, 1 ≤ t ≤ P_s, no time up to P_s has a smaller ratio, and no smaller time has this one
--   Asks r s                 == r has the period of s and costs no more;  Under r s == and holds no longer
-- Assumes nothing.
use mathlib.Core.Path.{◌≡◌, refl, sym, ap, ◌∙◌}
use mathlib.Core.Logic.{◌⊎◌, inl, inr, ⊎_elim, ◌↔◌}
use mathlib.Core.Bool.{Bool, true, false, false≢true}
use mathlib.Core.List.{List, [], ◌∷◌, ◌++◌, reverse, Memᴰ}
use Prim.Native.Nat.{ℕ, zero, suc, ◌≤◌, ◌<◌}
use native.Mathlib.Nat.{le_refl, mul-le-mul_left, mul-le-mul_right, add-le-add}
use native.Mathlib.Omega.{arith}
use native.Mathlib.Decide.{dec_le}
use borrow.Author.Tests.{leb-true, le-leb, lt-leb}
use lib.Dec.{leb}
use lib.ListN.{length}
use Rattle.least.specs.declared.Frac.{Frac}
use Rattle.least.specs.Round.{ceil_div}
use Rattle.least.specs.Lists.{sum, greatest, nth_or, behind, every_behind}
use Rattle.least.specs.Each.{Each}
use Rattle.least.specs.Each.Each.{none, more}
use Rattle.least.specs.Fraction.{frac, no_bound, ◌⊑◌, ◌⊏◌, greatest_of}
use Rattle.least.proofs.Each.{each_map}
use Rattle.least.proofs.Search.{any_iff}
use Rattle.least.proofs.Lists.{nth_get}
use Rattle.least.proofs.Along.{along_iff}
use Rattle.least.proofs.Fraction.{Ok, Finite, AllOk, Reached, FirstGreatest, cond_le, ⊑-noBound, not-⊏, greater_ind, greater_left, greater_right, no_bound_not_finite, finite_below, least_over_ok, least_over_below, least_over_mono, least_over_reached, greatest_of_ok, greatest_of_above, greatest_of_member, first_if_any, greatest_of_mono}
use Rattle.least.proofs.First.{first_greatest}
use Rattle.demand.proofs.Demand.{demand_mono}
use Rattle.load.specs.declared.Row.{Row}
use Rattle.load.specs.Load.{row_sum, demand_of, held_below, load_at, row_passes, passes_system, ratio, bound_of, bounds_of, load_of, load_row}

-- the ratio L/t
pub ratio_is : (L t : ℕ) → L ≤ t → ratio L t ≡ frac L t
unfolding ratio
ratio_is L t h = simp (le-leb L t h)

pub ratio_none : (L t : ℕ) → t < L → ratio L t ≡ no_bound
unfolding ratio
ratio_none L t h = simp (lt-leb L t h)

pub ratio_ok : (L t : ℕ) → 1 ≤ t → Ok (ratio L t)
unfolding ratio
ratio_ok L t h = cond_le Ok L t (λ _. record { some = omega arith }) (λ _. record { some = omega arith })

ratio_small : (L t P : ℕ) → 1 ≤ P → t ≤ P → ((ratio L t).num ≤ P) × ((ratio L t).den ≤ P)
unfolding ratio
ratio_small L t P h k = cond_le (λ (x : Frac). (x.num ≤ P) × (x.den ≤ P)) L t (λ l. (omega arith, k)) (λ _. (h, omega arith))

ratio_proper : (L t : ℕ) → 1 ≤ L → (ratio L t ≡ no_bound) ⊎ ((1 ≤ (ratio L t).num) × ((ratio L t).num ≤ (ratio L t).den))
unfolding ratio
ratio_proper L t h = cond_le (λ (x : Frac). (x ≡ no_bound) ⊎ ((1 ≤ x.num) × (x.num ≤ x.den))) L t (λ l. inr (h, l)) (λ _. inl refl)

-- a ratio with a positive denominator
record Ratio (L t M u : ℕ) : Type 0 where
  nums : M ≡ L
  dens : u ≡ t
  served : L ≤ t

ratio-frac : (L t M u : ℕ) → 1 ≤ u → ratio L t ≡ frac M u → Ratio L t M u
unfolding ratio
ratio-frac L t M u h =
    cond_le (λ x. x ≡ frac M u → Ratio L t M u) L t
    (λ k e. record { nums = sym (ap (λ x. x.num) e); dens = sym (ap (λ x. x.den) e); served = k })
    (λ _ e. let z : 0 ≡ u = ap (λ x. x.den) e in absurd (omega arith))

ratio_mono : (L M t : ℕ) → L ≤ M → ratio L t ⊑ ratio M t
unfolding ratio
ratio_mono L M t h =
    cond_le (λ x. ratio L t ⊑ x) M t
    (λ k. cond_le (λ x. x ⊑ frac M t) L t (λ _. record { cross = mul-le-mul_right t h }) (λ j. absurd (omega arith)))
    (λ _. ⊑-noBound _)

pub record Bound (lower : List Row) (s : Row) (higher : List Row) (L t : ℕ) : Type 0 where
  pub above : 1 ≤ t
  pub within : t ≤ s.period
  pub value : L ≡ load_at lower s higher t
  pub served : L ≤ t
  pub least : (u : ℕ) → 1 ≤ u → u ≤ s.period → load_at lower s higher u ≤ u → frac L t ⊑ frac (load_at lower s higher u) u
  pub first : (u : ℕ) → 1 ≤ u → u < t → load_at lower s higher u ≤ u → frac L t ⊏ frac (load_at lower s higher u) u

module _ (lower : List Row) (s : Row) (higher : List Row) where
  pub bound_of_ok : Ok (bound_of lower s higher)
  unfolding bound_of
  bound_of_ok = least_over_ok _ (λ t h. ratio_ok _ t h) _

  bound_of_below : (u : ℕ) → 1 ≤ u → u ≤ s.period → load_at lower s higher u ≤ u → bound_of lower s higher ⊑ frac (load_at lower s higher u) u
  unfolding bound_of
  bound_of_below u h k l = rw (ratio_is _ u l) at (least_over_below (λ t. ratio (load_at lower s higher t) t) (λ t h. ratio_ok _ t h) s.period u h k)

  bound_reached : (L t : ℕ) → bound_of lower s higher ≡ frac L t → 1 ≤ t → Reached s.period (λ u. ratio (load_at lower s higher u) u) (bound_of lower s higher) → Bound lower s higher L t
  bound_reached L t e h r =
      let q : Ratio (load_at lower s higher r.at) r.at L t = ratio-frac _ _ L t h (sym r.value ∙ e) in
      record {
        above = h;
        within = omega (arith, q.dens, r.within);
        value = q.nums ∙ ap (load_at lower s higher) (sym q.dens);
        served = omega (arith, q.nums, q.dens, q.served);
        least = λ u k l m. rw e at (bound_of_below u k l m);
        first = λ u k l m. rw (e, ratio_is _ u m) at (r.before u k (omega (arith, q.dens)));
      }

  pub bound_paper : (L t : ℕ) → bound_of lower s higher ≡ frac L t → 1 ≤ t → Bound lower s higher L t
  unfolding bound_of
  bound_paper L t e h =
      ⊎_elim (λ n. let z : 0 ≡ t = ap (λ x. x.den) (sym n ∙ e) in absurd (omega arith)) (bound_reached L t e h)
      (least_over_reached (λ u. ratio (load_at lower s higher u) u) (λ u k. ratio_ok _ u k) s.period)

  -- its numbers are at most the period
  pub bound_of_small : 1 ≤ s.period → ((bound_of lower s higher).num ≤ s.period) × ((bound_of lower s higher).den ≤ s.period)
  unfolding bound_of
  bound_of_small h =
      ⊎_elim (λ e. rw e (h, omega arith)) (λ r. rw r.value (ratio_small _ r.at s.period h r.within))
      (least_over_reached (λ u. ratio (load_at lower s higher u) u) (λ u k. ratio_ok _ u k) s.period)

  -- it is a ratio of at most 1, or 1/0
  pub bound_proper : 1 ≤ row_sum s → (bound_of lower s higher ≡ no_bound) ⊎ ((1 ≤ (bound_of lower s higher).num) × ((bound_of lower s higher).num ≤ (bound_of lower s higher).den))
  unfolding bound_of load_at
  bound_proper h =
      ⊎_elim inl (λ r. rw r.value (ratio_proper _ r.at (omega arith))) (least_over_reached (λ u. ratio (load_at lower s higher u) u) (λ u k. ratio_ok _ u k) s.period)

  -- only one fraction is such a bound
  bound_earliest : {L t M u : ℕ} → Bound lower s higher L t → Bound lower s higher M u → t ≤ u
  bound_earliest {L} {t} {M} {u} a b = go (dec_le t u)
    where
      smaller : u < t → frac L t ⊏ frac M u
      smaller h = rw b.value (a.first u b.above h (rw (← b.value) b.served))

      no_greater : frac M u ⊑ frac L t
      no_greater = rw a.value (b.least t a.above a.within (rw (← a.value) a.served))

      go : Dec (t ≤ u) → t ≤ u
      go (yes h) = h
      go (no h) = absurd (not-⊏ (smaller (omega arith)) no_greater)

  pub bound_unique : {L t M u : ℕ} → Bound lower s higher L t → Bound lower s higher M u → frac L t ≡ frac M u
  bound_unique {L} {t} {M} {u} a b =
      let e : t ≡ u = omega (arith, bound_earliest a b, bound_earliest b a) in
      let f : L ≡ M = a.value ∙ ap (load_at lower s higher) e ∙ sym b.value in
      rw (e, f)

  pub row_passes_paper : (row_passes lower s higher ≡ true) ↔ ((t : ℕ) × (1 ≤ t) × (t ≤ s.period) × (load_at lower s higher t ≤ t))
  unfolding row_passes
  row_passes_paper =
      let iff = any_iff (λ t. leb (load_at lower s higher t) t) s.period in
      ((λ e. let p = iff.0 e in (p.0, p.1, p.2, leb-true _ _ p.3)), λ p. iff.1 (p.0, p.1, p.2, le-leb _ _ p.3))

  pub bound_finite : Finite (bound_of lower s higher) ↔ (row_passes lower s higher ≡ true)
  bound_finite = (passes, λ e. let p = row_passes_paper.0 e in finite_below bound_of_ok (bound_of_below p.0 p.1 p.2 p.3) (record { pos = p.1 }))
    where
      passes : Finite (bound_of lower s higher) → row_passes lower s higher ≡ true
      passes f = let b = bound_paper _ _ refl f.pos in row_passes_paper.1 (_, b.above, b.within, rw (← b.value) b.served)

  pub bound_none : (bound_of lower s higher ≡ no_bound) ↔ (row_passes lower s higher ≡ false)
  unfolding bound_of
  bound_none = ((λ e. refused e (row_passes lower s higher) refl), unbound)
    where
      refused : bound_of lower s higher ≡ no_bound → (b : Bool) → row_passes lower s higher ≡ b → row_passes lower s higher ≡ false
      refused e true p = absurd (no_bound_not_finite (rw e at (bound_finite.1 p)))
      refused e false p = p

      too_late : row_passes lower s higher ≡ false → (t : ℕ) → 1 ≤ t → t ≤ s.period → Dec (load_at lower s higher t ≤ t) → ratio (load_at lower s higher t) t ≡ no_bound
      too_late e t h k (yes l) = absurd (false≢true (sym e ∙ row_passes_paper.1 (t, h, k, l)))
      too_late e t h k (no l) = ratio_none _ t (omega arith)

      unbound : row_passes lower s higher ≡ false → bound_of lower s higher ≡ no_bound
      unbound e =
          ⊎_elim (λ n. n) (λ r. r.value ∙ too_late e r.at r.above r.within (dec_le _ _))
          (least_over_reached (λ u. ratio (load_at lower s higher u) u) (λ u k. ratio_ok _ u k) s.period)

-- every bound is a fraction, and there is one for each row
pub behind_ok : (lower rows : List Row) → AllOk (behind bound_of lower rows)
unfolding behind
behind_ok lower [] b x'' = elim x'' [ ]
behind_ok lower (r ∷ rs) b (Memᴰ.head e) = rw e (bound_of_ok lower r rs)
behind_ok lower (r ∷ rs) b (Memᴰ.tail m) = behind_ok (r ∷ lower) rs b m

pub bounds_of_ok : (rows : List Row) → AllOk (bounds_of rows)
unfolding bounds_of
bounds_of_ok rows = behind_ok [] rows

pub load_of_ok : (rows : List Row) → Ok (load_of rows)
unfolding load_of
load_of_ok rows = greatest_of_ok (bounds_of rows) (bounds_of_ok rows)

behind_length : (lower rows : List Row) → length (behind bound_of lower rows) ≡ length rows
unfolding behind
behind_length lower [] = refl
behind_length lower (r ∷ rs) = ap suc (behind_length (r ∷ lower) rs)

pub bounds_of-length : (rows : List Row) → length (bounds_of rows) ≡ length rows
unfolding bounds_of
bounds_of-length rows = behind_length [] rows

-- their numbers are at most the periods
behind_small : (M : ℕ) (lower rows : List Row) → ((r : Row) → Memᴰ r rows → (1 ≤ r.period) × (r.period ≤ M))
    → (b : Frac) → Memᴰ b (behind bound_of lower rows) → (b.num ≤ M) × (b.den ≤ M)
unfolding behind
behind_small M lower [] h b x'' = elim x'' [ ]
behind_small M lower (r ∷ rs) h b (Memᴰ.head e) =
    let p = h r (Memᴰ.head refl) in
    let k = bound_of_small lower r rs p.0 in
    rw e (omega (arith, k.0, p.1), omega (arith, k.1, p.1))
behind_small M lower (r ∷ rs) h b (Memᴰ.tail m) = behind_small M (r ∷ lower) rs (λ s k. h s (Memᴰ.tail k)) b m

pub bounds_of_small : (M : ℕ) (rows : List Row) → ((r : Row) → Memᴰ r rows → (1 ≤ r.period) × (r.period ≤ M))
    → (b : Frac) → Memᴰ b (bounds_of rows) → (b.num ≤ M) × (b.den ≤ M)
unfolding bounds_of
bounds_of_small M rows h = behind_small M [] rows h

-- the system passes exactly if its load is finite
every_more : (lower : List Row) (r : Row) (rs : List Row) → (every_behind row_passes lower (r ∷ rs) ≡ true) ↔ ((row_passes lower r rs ≡ true) × (every_behind row_passes (r ∷ lower) rs ≡ true))
unfolding every_behind
every_more lower r rs = go (row_passes lower r rs) refl
  where
    go : (b : Bool) → row_passes lower r rs ≡ b → (every_behind row_passes lower (r ∷ rs) ≡ true) ↔ ((row_passes lower r rs ≡ true) × (every_behind row_passes (r ∷ lower) rs ≡ true))
    go true e = ((λ h. (e, rw (e, every_behind) at h)), λ h. rw (e, every_behind) h.1)
    go false e = ((λ h. absurd (false≢true (rw (e, every_behind) at h))), λ h. absurd (false≢true (sym e ∙ h.0)))

every_finite : (lower rows : List Row) → (every_behind row_passes lower rows ≡ true) ↔ Finite (greatest_of (behind bound_of lower rows))
unfolding every_behind behind greatest_of
every_finite lower [] = ((λ _. record { pos = omega arith }), λ _. refl)
every_finite lower (r ∷ rs) =
    let iff = every_more lower r rs in
    let rest = every_finite (r ∷ lower) rs in (
      (λ e. greater_ind Finite _ _ (λ _. rest.0 (iff.0 e).1) (λ _. (bound_finite lower r rs).1 (iff.0 e).0)),
      λ f. iff.1 ((bound_finite lower r rs).0 (finite_below (bound_of_ok lower r rs) (greater_left _ _) f), rest.1 (finite_below (greatest_of_ok _ (behind_ok (r ∷ lower) rs)) (greater_right _ _) f)),
    )

pub passes_finite : (rows : List Row) → (passes_system rows ≡ true) ↔ Finite (load_of rows)
unfolding passes_system load_of bounds_of
passes_finite rows = every_finite [] rows

-- every row has a time t within its period that serves it
pub passes_paper : (rows : List Row)
    → (passes_system rows ≡ true)
    ↔ ((lower : List Row) (s : Row) (higher : List Row) → reverse lower ++ (s ∷ higher) ≡ rows → (t : ℕ) × (1 ≤ t) × (t ≤ s.period) × (load_at lower s higher t ≤ t))
unfolding passes_system
passes_paper rows =
    let iff = along_iff row_passes rows in
    ((λ p lower s higher e. (row_passes_paper lower s higher).0 (iff.0 p lower s higher e)), λ f. iff.1 (λ lower s higher e. (row_passes_paper lower s higher).1 (f lower s higher e)))

-- the load is the greatest bound
member_if_any : (xs : List Frac) → 1 ≤ length xs → Memᴰ (greatest_of xs) xs
member_if_any [] h = absurd (omega arith)
member_if_any (x ∷ xs) h = greatest_of_member x xs

pub load_greatest : (rows : List Row) → ((b : Frac) → Memᴰ b (bounds_of rows) → b ⊑ load_of rows) × (1 ≤ length rows → Memᴰ (load_of rows) (bounds_of rows))
unfolding load_of
load_greatest rows = ((λ b m. greatest_of_above (bounds_of_ok rows) m), λ h. member_if_any (bounds_of rows) (omega (arith, bounds_of-length rows)))

-- the row of the load: the first that reaches it
pub record LoadRow (rows : List Row) (k : ℕ) : Type 0 where
  pub above : 1 ≤ k
  pub within : k ≤ length rows
  pub value : nth_or (frac 0 1) k (bounds_of rows) ≡ load_of rows
  pub before : (j : ℕ) → 1 ≤ j → j < k → nth_or (frac 0 1) j (bounds_of rows) ⊏ load_of rows

load_row_place : (rows : List Row) (j : ℕ) → FirstGreatest (bounds_of rows) j → load_row rows ≡ suc j
unfolding load_row load_of
load_row_place rows j f = first_greatest (bounds_of rows) j f

load_row_at : (rows : List Row) (j : ℕ) → FirstGreatest (bounds_of rows) j → LoadRow rows (suc j)
unfolding load_of
load_row_at rows j f = record {
  above = omega arith;
  within = omega (arith, f.within, bounds_of-length rows);
  value = nth_get (frac 0 1) j (bounds_of rows) ∙ f.value;
  before = earlier;
}
  where
    earlier : (k : ℕ) → 1 ≤ k → k < suc j → nth_or (frac 0 1) k (bounds_of rows) ⊏ greatest_of (bounds_of rows)
    earlier zero h l = absurd (omega arith)
    earlier (suc k) h l = rw nth_get (f.before k (omega arith))

pub load_row_first : (rows : List Row) → 1 ≤ length rows → LoadRow rows (load_row rows)
load_row_first rows h =
    let f = first_if_any (bounds_of rows) (omega (arith, bounds_of-length rows)) in
    rw (load_row_place rows f.0 f.1) (load_row_at rows f.0 f.1)

-- demand and load do not fall in t
pub demand_of_mono_t : (rows : List Row) → ((r : Row) → Memᴰ r rows → 1 ≤ r.period) → {t u : ℕ} → t ≤ u → demand_of rows t ≤ demand_of rows u
unfolding demand_of
demand_of_mono_t rows p {t} {u} h = demand_mono (λ r. r.period) row_sum rows p t u h

pub load_at_mono_t : (lower : List Row) (s : Row) (higher : List Row) → ((r : Row) → Memᴰ r higher → 1 ≤ r.period) → {t u : ℕ} → t ≤ u → load_at lower s higher t ≤ load_at lower s higher u
unfolding load_at
load_at_mono_t lower s higher p h = omega (arith, demand_of_mono_t higher p h)

-- rows that ask no less, below which no less is held, have no smaller bounds
pub record Asks (r s : Row) : Type 0 where
  pub period : r.period ≡ s.period
  pub sums : row_sum r ≤ row_sum s

pub record Under (r s : Row) : Type 0 where
  pub period : r.period ≡ s.period
  pub sums : row_sum r ≤ row_sum s
  pub holds : r.holding ≤ s.holding

pub under_asks : {r s : Row} → Under r s → Asks r s
under_asks u = record { period = u.period; sums = u.sums }

held_more : (r s : Row) (lower lower' : List Row) → r.holding ≤ s.holding → held_below lower ≤ held_below lower' → held_below (r ∷ lower) ≤ held_below (s ∷ lower')
unfolding greatest
held_more r s lower lower' h k = omega arith

pub demand_of_mono : (t : ℕ) {rs ss : List Row} → Each Asks rs ss → demand_of rs t ≤ demand_of ss t
unfolding demand_of sum
demand_of_mono t none = le_refl 0
demand_of_mono t (more {x = r} {y = s} h hs) =
    add-le-add (rw h.period (mul-le-mul_left (ceil_div t s.period) h.sums)) (demand_of_mono t hs)

load_at_mono : (lower lower' : List Row) {r s : Row} {rs ss : List Row} (t : ℕ) → held_below lower ≤ held_below lower' → Asks r s → Each Asks rs ss → load_at lower r rs t ≤ load_at lower' s ss t
unfolding load_at
load_at_mono lower lower' t h k ks = omega (arith, demand_of_mono t ks)

pub bound_of_mono : (lower lower' : List Row) {r s : Row} {rs ss : List Row} → held_below lower ≤ held_below lower' → Asks r s → Each Asks rs ss → bound_of lower r rs ⊑ bound_of lower' s ss
unfolding bound_of load_at
bound_of_mono lower lower' {r} {s} {rs} {ss} h k ks =
    rw k.period (least_over_mono _ (λ t h. ratio_ok _ t h) _ (λ t. ratio_mono _ _ t (load_at_mono lower lower' t h k ks)) s.period)

bounds_mono : (lower lower' : List Row) {rs ss : List Row} → held_below lower ≤ held_below lower' → Each Under rs ss → Each (λ a b. a ⊑ b) (behind bound_of lower rs) (behind bound_of lower' ss)
unfolding behind
bounds_mono lower lower' h none = none
bounds_mono lower lower' h (more {x = r} {y = s} k ks) =
    more (bound_of_mono lower lower' h (under_asks k) (each_map (λ _ _. under_asks) ks)) (bounds_mono (r ∷ lower) (s ∷ lower') (held_more r s lower lower' k.holds h) ks)

pub load_mono : {rs ss : List Row} → Each Under rs ss → load_of rs ⊑ load_of ss
unfolding load_of bounds_of
load_mono {rs} {ss} k = greatest_of_mono (bounds_of_ok rs) (bounds_of_ok ss) (bounds_mono [] [] (le_refl _) k)
