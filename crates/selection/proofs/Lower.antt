-- A choice that comes after another and has a smaller load than the bound of one of the other's rows: the lower parts that block this row hold shorter in it.
-- Assumes nothing.
use Prim.Native.Nat.{ℕ, suc, ◌≤◌, ◌<◌}
use native.Mathlib.Omega.{arith}
use native.Mathlib.Decide.{dec_lt, dec_le}
use mathlib.Core.Path.{◌≡◌, sym, ap, ◌∙◌}
use mathlib.Core.Logic.{◌⊎◌, ⊎_elim}
use mathlib.Core.List.{List, reverse, Memᴰ}
use lib.ListN.{length, take, drop, get_or}
use lib.Seq.{get_or-take, length-take-le}
use Rattle.least.specs.declared.Frac.{Frac}
use Rattle.least.specs.Each.{Each}
use Rattle.least.specs.Fraction.{no_bound, ◌⊑◌, ◌⊏◌}
use Rattle.least.proofs.Each.{each_map, each_get, each_drop, length_equal}
use Rattle.least.proofs.Members.{place_of, get_d_member, reverse_iff}
use Rattle.least.proofs.Along.{along_at}
use Rattle.least.proofs.Greatest.{greatest_each, greatest_reached}
use Rattle.least.proofs.Fraction.{Ok, ⊑_trans, not-⊏}
use Rattle.load.specs.declared.Row.{Row}
use Rattle.load.specs.Load.{row_sum, bound_of, bounds_of, load_of}
use Rattle.load.specs.Code.Rows.{no_row, no_frac}
use Rattle.load.proofs.Load.{bound_of_ok, bound_of_small, bound_proper, bound_of_mono, bounds_of-length, load_greatest}
use Rattle.selection.specs.Code.Choosing.{bound_at, held_before}
use Rattle.selection.proofs.Greatest.{After, after_asks}

-- bounds by places
module _ (rows : List Row) where
  bound_place : (s : ℕ) → s < length rows → bound_at rows s ≡ bound_of (reverse (take s rows)) (get_or rows s no_row) (drop (suc s) rows)
  unfolding bounds_of
  bound_place s h = along_at bound_of no_row no_frac rows s h

  pub bound_at_ok : (s : ℕ) → s < length rows → Ok (bound_at rows s)
  bound_at_ok s h = rw (bound_place s h) (bound_of_ok _ _ _)

  pub bound_at_small : (s : ℕ) → s < length rows → 1 ≤ (get_or rows s no_row).period → ((bound_at rows s).num ≤ (get_or rows s no_row).period) × ((bound_at rows s).den ≤ (get_or rows s no_row).period)
  bound_at_small s h l = rw (bound_place s h) (bound_of_small (reverse (take s rows)) (get_or rows s no_row) (drop (suc s) rows) l)

  pub bound_at_proper : (s : ℕ) → s < length rows → 1 ≤ row_sum (get_or rows s no_row) → (bound_at rows s ≡ no_bound) ⊎ ((1 ≤ (bound_at rows s).num) × ((bound_at rows s).num ≤ (bound_at rows s).den))
  bound_at_proper s h l = rw (bound_place s h) (bound_proper (reverse (take s rows)) (get_or rows s no_row) (drop (suc s) rows) l)

  pub bound_at_below : (s : ℕ) → s < length rows → bound_at rows s ⊑ load_of rows
  bound_at_below s h = (load_greatest rows).0 _ (get_d_member (bounds_of rows) s no_frac (omega (arith, bounds_of-length rows)))

  pub load_below : {x : Frac} → 1 ≤ length rows → ((s : ℕ) → s < length rows → bound_at rows s ⊑ x) → load_of rows ⊑ x
  load_below h f = let p = place_of no_frac (bounds_of rows) ((load_greatest rows).1 h) in rw p.2 (f p.0 (omega (arith, p.1, bounds_of-length rows)))

  -- what blocks a row is held by a row before it
  row_before : (s j : ℕ) → s ≤ length rows → j < s → Memᴰ (get_or rows j no_row) (reverse (take s rows))
  row_before s j h l =
      (reverse_iff _ (take s rows)).1 (rw (get_or-take s rows j no_row l) at (get_d_member (take s rows) j no_row (omega (arith, length-take-le s rows h))))

  pub held_before_is : (s j : ℕ) → s ≤ length rows → j < s → (get_or rows j no_row).holding ≤ held_before rows s
  held_before_is s j h l = greatest_each (λ k. k.holding) (reverse (take s rows)) (get_or rows j no_row) (row_before s j h l)

  pub held_by : (s : ℕ) → s ≤ length rows → 0 < held_before rows s → (j : ℕ) × (j < s) × (held_before rows s ≡ (get_or rows j no_row).holding)
  held_by s h l = ⊎_elim (λ z. absurd (omega arith)) reached (greatest_reached (λ k. k.holding) (reverse (take s rows)))
    where
      reached : (r : Row) × Memᴰ r (reverse (take s rows)) × (held_before rows s ≡ r.holding) → (j : ℕ) × (j < s) × (held_before rows s ≡ (get_or rows j no_row).holding)
      reached r =
          let p = place_of no_row (take s rows) ((reverse_iff _ (take s rows)).0 r.1) in
          let q : p.0 < s = omega (arith, p.1, length-take-le s rows h) in
          (p.0, q, r.2 ∙ ap (λ (u : Row). u.holding) (p.2 ∙ get_or-take s rows p.0 no_row q))

module _ {cur c : List Row} (after : Each After cur c) (s : ℕ) (within : s < length cur) where
  bound_no_less : held_before cur s ≤ held_before c s → bound_at cur s ⊑ bound_at c s
  bound_no_less h =
      let l : s < length c = omega (arith, length_equal after) in
      rw (bound_place cur s within, bound_place c s l)
      (bound_of_mono (reverse (take s cur)) (reverse (take s c)) h (after_asks (each_get no_row no_row s after within)) (each_map (λ _ _. after_asks) (each_drop (suc s) after)))

  -- a smaller load only with a smaller blocking
  pub blocked_less : {best : Frac} → best ⊑ bound_at cur s → load_of c ⊏ best → held_before c s < held_before cur s
  blocked_less {best} b h = go (dec_lt (held_before c s) (held_before cur s))
    where
      go : Dec (held_before c s < held_before cur s) → held_before c s < held_before cur s
      go (yes p) = p
      go (no p) =
          let l : s < length c = omega (arith, length_equal after) in
          absurd (not-⊏ h (⊑_trans (bound_at_ok cur s within) b (⊑_trans (bound_at_ok c s l) (bound_no_less (omega arith)) (bound_at_below c s l))))

  -- j is no greater than the first place whose row holds for x: it is before s, and c holds shorter there
  pub lower_holds_less : {best : Frac} (x j : ℕ) → x ≡ held_before cur s → ((k : ℕ) → k < j → (get_or cur k no_row).holding ≡ x → ⊥) → best ⊑ bound_at cur s → load_of c ⊏ best
      → (j < s) × ((get_or c j no_row).holding < x)
  lower_holds_less {best} x j e none b h =
      let less = blocked_less b h in
      let by = held_by cur s (omega arith) (omega arith) in
      let l : j < s = go by.0 by.1 (sym by.2 ∙ sym e) (dec_le j by.0) in
      (l, omega (arith, held_before_is c s j (omega (arith, length_equal after)) l))
    where
      go : (i : ℕ) → i < s → (get_or cur i no_row).holding ≡ x → Dec (j ≤ i) → j < s
      go i q w (yes p) = omega arith
      go i q w (no p) = absurd (none i (omega arith) w)
