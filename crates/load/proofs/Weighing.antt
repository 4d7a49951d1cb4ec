-- The answers of weighing, by the questions in order, and the numbers of the answer.
-- Assumes nothing.
use Rattle.std.specs.Prelude.{Some, None}
use Rattle.std.specs.List.{position}
use Prim.Native.Nat.{ℕ, suc, ◌+◌, ◌≤◌, ◌<◌}
use native.Mathlib.Omega.{arith}
use mathlib.Core.Path.{◌≡◌, refl, sym, ap, ◌∙◌}
use mathlib.Core.Bool.{Bool, true, false, not, ◌&&◌}
use mathlib.Core.List.{List, [], reverse}
use borrow.Author.Tests.{le-leb, lt-leb}
use lib.Dec.{leb}
use lib.ListN.{length, take, drop, get_or, length-take}
use lib.Seq.{length-take-le, get_or-take}
use Rattle.least.specs.declared.Frac.{Frac}
use Rattle.least.specs.Lists.{every, first_of, pad}
use Rattle.least.proofs.Along.{along_at}
use Rattle.least.proofs.First.{first_every, first_not_every, first_greatest, every_place}
use Rattle.least.proofs.Fraction.{FirstGreatest, first_if_any}
use Rattle.least.proofs.Members.{get_d_any}
use Rattle.least.proofs.Pad.{get_d_pad, take_pad}
use Rattle.refusal.specs.declared.Outcome.{Outcome}
use Rattle.refusal.specs.declared.Outcome.TheVariants.{Done, Refused}
use Rattle.refusal.specs.declared.Refusal.TheVariants.{BadHandSet, NoTime}
use Rattle.refusal.specs.Limits.{row_limit}
use Rattle.refusal.specs.FirstNo.{all_yes}
use Rattle.refusal.proofs.Questions.{yes_next, no_answers, done_iff}
use Rattle.refusal.specs.Questions.{first_no}
use Rattle.load.specs.declared.Row.{Row}
use Rattle.load.specs.declared.Rows.{Rows}
use Rattle.load.specs.Load.{bound_of, bounds_of, load_of, load_row}
use Rattle.load.specs.Weigh.{row_in_range, has_time, weigh_questions, weighed, weigh_of, rows_of, struct_questions, weigh_rows}
use Rattle.load.specs.Code.Rows.{no_row, no_frac, InRange, FineBound, FineBounds}
use Rattle.load.proofs.Load.{bound_of_ok, bound_of_small, bounds_of-length}
use Rattle.load.proofs.Position.{place_is, none_is}
use Rattle.load.proofs.InRange.{in_range_fine}

-- the answer to each outcome of the questions
refused_any : (o : Outcome) (rows : List Row) {r : _} → o ≡ Refused r → weighed o rows ≡ weighed (Refused r) []
unfolding weighed
refused_any o rows e = rw e refl

module _ (rows : List Row) where
  abbrev right_count : Bool
  right_count = leb 1 (length rows) && leb (length rows) row_limit

  pub wrong_count : right_count ≡ false → weigh_of rows ≡ weighed (Refused (BadHandSet 0)) []
  unfolding weigh_of weigh_questions
  wrong_count e = refused_any _ rows (no_answers _ _ e)

  bad_row : right_count ≡ true → every row_in_range rows ≡ false → weigh_of rows ≡ weighed (Refused (BadHandSet (first_of (λ r. not (row_in_range r)) rows))) []
  unfolding weigh_of weigh_questions
  bad_row e f = refused_any _ rows (yes_next _ _ e ∙ no_answers _ _ f)

  late_row : right_count ≡ true → every row_in_range rows ≡ true → every has_time (bounds_of rows) ≡ false → weigh_of rows ≡ weighed (Refused (NoTime (first_of (λ b. not (has_time b)) (bounds_of rows)))) []
  unfolding weigh_of weigh_questions
  late_row e f g = refused_any _ rows (yes_next _ _ e ∙ yes_next _ _ f ∙ no_answers _ _ g)

  all_done : right_count ≡ true → every row_in_range rows ≡ true → every has_time (bounds_of rows) ≡ true → weigh_of rows ≡ weighed Done rows
  unfolding weigh_of weigh_questions all_yes
  all_done e f g = ap (λ (o : Outcome). weighed o rows) ((done_iff (weigh_questions rows)).1 (rw (e, f, g) refl))

  few_rows : 1 ≤ length rows → length rows ≤ row_limit → right_count ≡ true
  few_rows h l = simp (le-leb _ _ h, le-leb _ _ l)

-- the struct
module _ (rows : Rows) where
  pub weigh_few : rows.count ≤ 16 → weigh_rows rows ≡ weigh_of (rows_of rows)
  unfolding weigh_rows struct_questions first_no weigh_of
  weigh_few h = rw (le-leb _ _ h) refl

  pub weigh_none : rows.count < 1 → weigh_rows rows ≡ weighed (Refused (BadHandSet 0)) []
  unfolding rows_of
  weigh_none h =
      let l : length (rows_of rows) < 1 = omega (arith, length-take rows.count rows.rows) in
      let m : rows.count ≤ 16 = omega arith in
      weigh_few m ∙ wrong_count (rows_of rows) (simp (lt-leb _ _ l))

  pub weigh_many : 16 < rows.count → weigh_rows rows ≡ weighed (Refused (BadHandSet 0)) []
  unfolding weigh_rows struct_questions first_no weighed
  weigh_many h = rw (lt-leb _ _ h) refl

  module _ (some : 1 ≤ rows.count) (few : rows.count ≤ 16) (room : rows.count ≤ length rows.rows) where
    rows_count : length (rows_of rows) ≡ rows.count
    unfolding rows_of
    rows_count = length-take-le rows.count rows.rows room

    right : right_count (rows_of rows) ≡ true
    right = few_rows (rows_of rows) (omega (arith, rows_count)) (omega (arith, rows_count))

    pub weigh_bad : (k : ℕ) → position (λ r. not (row_in_range r)) (rows_of rows) ≡ Some k → weigh_rows rows ≡ weighed (Refused (BadHandSet (k + 1))) []
    weigh_bad k e =
        let n : k + 1 ≡ first_of (λ r. not (row_in_range r)) (rows_of rows) = place_is _ _ e in
        weigh_few few ∙ bad_row (rows_of rows) right (first_not_every row_in_range (rows_of rows) no_row (omega arith)) ∙ ap (λ (i : ℕ). weighed (Refused (BadHandSet i)) []) (sym n)

-- rows that pass question 12
module _ (rows : Rows) (i : InRange rows) where
  count : length (rows_of rows) ≡ rows.count
  count = rows_count rows i.some i.few i.room

  every_row : every row_in_range (rows_of rows) ≡ true
  unfolding rows_of
  every_row = every_place no_row row_in_range (rows_of rows) (λ k h. let l : k < rows.count = omega (arith, count) in rw (get_or-take rows.count rows.rows k no_row l) (i.each k l))

  pub weigh_late : (k : ℕ) → position (λ b. not (has_time b)) (bounds_of (rows_of rows)) ≡ Some k → weigh_of (rows_of rows) ≡ weighed (Refused (NoTime (k + 1))) []
  weigh_late k e =
      let n : k + 1 ≡ first_of (λ b. not (has_time b)) (bounds_of (rows_of rows)) = place_is _ _ e in
      late_row (rows_of rows) (right rows i.some i.few i.room) every_row (first_not_every has_time (bounds_of (rows_of rows)) no_frac (omega arith)) ∙ ap (λ (j : ℕ). weighed (Refused (NoTime j)) []) (sym n)

  pub weigh_done : position (λ b. not (has_time b)) (bounds_of (rows_of rows)) ≡ None → weigh_of (rows_of rows) ≡ weighed Done (rows_of rows)
  weigh_done e = all_done (rows_of rows) (right rows i.some i.few i.room) every_row (first_every has_time (bounds_of (rows_of rows)) (none_is _ _ e))

  -- the bounds in their places
  pub bounds_count : length (bounds_of (rows_of rows)) ≡ rows.count
  bounds_count = bounds_of-length (rows_of rows) ∙ count

  pub bounds_take : take rows.count (pad 16 no_frac (bounds_of (rows_of rows))) ≡ bounds_of (rows_of rows)
  bounds_take = ap (λ (k : ℕ). take k (pad 16 no_frac (bounds_of (rows_of rows)))) (sym bounds_count) ∙ take_pad 16 no_frac (bounds_of (rows_of rows)) (omega (arith, bounds_count, i.few))

  bound_at : (k : ℕ) → k < rows.count → FineBound (get_or (pad 16 no_frac (bounds_of (rows_of rows))) k no_frac)
  unfolding bounds_of rows_of
  bound_at k h =
      let R = rows_of rows in
      let f = (in_range_fine rows i).each k h in
      let e : get_or (pad 16 no_frac (bounds_of R)) k no_frac ≡ bound_of (reverse (take k R)) (get_or rows.rows k no_row) (drop (suc k) R) = get_d_pad 16 no_frac (bounds_of R) k (omega (arith, i.few)) ∙ along_at bound_of no_row no_frac R k (omega (arith, count)) ∙ ap (λ (r : Row). bound_of (reverse (take k R)) r (drop (suc k) R)) (get_or-take rows.count rows.rows k no_row h) in
      let small = bound_of_small (reverse (take k R)) (get_or rows.rows k no_row) (drop (suc k) R) f.period_some in
      rw e (record { some = (bound_of_ok _ _ _).some; num_most = omega (arith, f.period_most); den_most = omega (arith, f.period_most) })

  pub bounds_fine : FineBounds (bounds_of (rows_of rows))
  bounds_fine = rw bounds_take at fine
    where
      fine : FineBounds (take rows.count (pad 16 no_frac (bounds_of (rows_of rows))))
      fine = record { each = λ k h. let l : k < rows.count = omega (arith, length-take rows.count (pad 16 no_frac (bounds_of (rows_of rows)))) in rw (get_or-take rows.count (pad 16 no_frac (bounds_of (rows_of rows))) k no_frac l) (bound_at k l) }

  -- the row of the load
  first : (j : ℕ) × FirstGreatest (bounds_of (rows_of rows)) j
  first = first_if_any (bounds_of (rows_of rows)) (omega (arith, bounds_count, i.some))

  -- the row at the place j reaches the load
  module _ (j : ℕ) (is : j + 1 ≡ load_row (rows_of rows)) where
    pub load_place : j < 16
    unfolding load_row load_of
    load_place = omega (arith, first_greatest (bounds_of (rows_of rows)) first.0 first.1, first.1.within, bounds_count, i.few)

    load_at_place : get_or (pad 16 no_frac (bounds_of (rows_of rows))) j no_frac ≡ load_of (rows_of rows)
    unfolding load_row load_of
    load_at_place =
        let B = bounds_of (rows_of rows) in
        let l : first.0 < length B = first.1.within in
        let e : j ≡ first.0 = omega (arith, first_greatest B first.0 first.1) in
        rw e (get_d_pad 16 no_frac B first.0 (omega (arith, bounds_count, i.few)) ∙ get_d_any B first.0 _ _ l ∙ first.1.value)

    pub weigh_answer : (bounds : List Frac) → bounds ≡ pad 16 no_frac (bounds_of (rows_of rows)) → position (λ b. not (has_time b)) (bounds_of (rows_of rows)) ≡ None
        → record { outcome = Done; bounds = bounds; load = get_or bounds j no_frac; row = j + 1 } ≡ weigh_of (rows_of rows)
    unfolding weighed
    weigh_answer bounds b e = rw (b, load_at_place, is) (sym (weigh_done e))
