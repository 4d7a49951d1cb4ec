-- A search up to the smaller of two limits finds what a search up to one of them finds within the other.
-- Assumes nothing.
use Rattle.std.specs.Prelude.{Option, Some, None}
use Prim.Native.Nat.{ℕ, suc, ◌-◌, min, ◌≤◌, ◌<◌}
use native.Mathlib.Omega.{arith}
use native.Mathlib.Decide.{dec_le}
use mathlib.Core.Path.{◌≡◌, refl, sym, ap, ◌∙◌}
use mathlib.Core.Bool.{Bool, true, false, false≢true}
use mathlib.Core.List.{List}
use lib.ListN.{length}
use borrow.Author.Tests.{le-leb, lt-leb}
use Rattle.least.specs.Search.{least_up_to, number_or0}
use Rattle.least.proofs.Search.{NoneIn, least_at, least_nothing, least_iff, none_iff}
use Rattle.task_set.specs.declared.Task.{Task}
use Rattle.holding.specs.Holding.{within}
use Rattle.holding.specs.Code.Search.{hold_up_to, with_time, lowest_held}

module _ (test : ℕ → Bool) (e x : ℕ) where
  pub found_within_both : (w : ℕ) → least_up_to test (min e x) ≡ Some w → (least_up_to test e ≡ Some w) × (within x (least_up_to test e) ≡ true)
  found_within_both w q =
      let l = (least_iff test (min e x) w).0 q in
      let f = (least_iff test e w).1 (l.0, omega (arith, l.1)) in
      (f, ap (within x) f ∙ le-leb w x (omega (arith, l.1)))

  pub missed_within_both : least_up_to test (min e x) ≡ None → within x (least_up_to test e) ≡ false
  missed_within_both q = go (least_up_to test e) refl
    where
      past : (w : ℕ) → least_up_to test e ≡ Some w → Dec (w ≤ x) → x < w
      past w f (no d) = omega arith
      past w f (yes d) =
          let l = (least_iff test e w).0 f in
          absurd (false≢true (sym ((none_iff test (min e x)).0 q w l.0.positive (omega (arith, l.1))) ∙ l.0.passes))

      go : (a : Option ℕ) → least_up_to test e ≡ a → within x (least_up_to test e) ≡ false
      go None f = ap (within x) f
      go (Some w) f = ap (within x) f ∙ lt-leb w x (past w f (dec_le w x))

-- the search for the lowest ceiling from r on
module _ (ts : List Task) (g limit x : ℕ) where
  abbrev pub held_within : ℕ → Bool
  held_within k = within x (hold_up_to ts g k limit)

  pub ceiling_found : (r k w : ℕ) → NoneIn held_within r k → r ≤ k → k ≤ length ts → hold_up_to ts g k (min limit x) ≡ Some w → lowest_held ts g limit x r ≡ Some (record { ceiling = k; time = w })
  unfolding lowest_held hold_up_to number_or0
  ceiling_found r k w none l h q =
      let f = found_within_both _ limit x w q in
      ap (with_time ts g limit) (least_at held_within (suc (length ts) - r) r k (record { from = l; below = omega arith; passes = f.1; before = none }))
      ∙ ap (λ a. Some (record { ceiling = k; time = number_or0 a })) f.0

  pub ceiling_missed : (r k : ℕ) → NoneIn held_within r k → length ts < k → lowest_held ts g limit x r ≡ None
  unfolding lowest_held
  ceiling_missed r k none h = ap (with_time ts g limit) (least_nothing held_within (suc (length ts) - r) r (λ v a b. none v a (omega arith)))
