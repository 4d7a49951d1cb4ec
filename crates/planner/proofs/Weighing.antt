-- Questions 12 and 13 of weighing, and its answer, in the paper's words.
-- Assumes nothing.
use Prim.Native.Nat.{ℕ, zero, suc, ◌≤◌, ◌<◌}
use native.Mathlib.Omega.{arith}
use native.Mathlib.Decide.{dec_le}
use mathlib.Core.Path.{◌≡◌, refl, sym, ap, ◌∙◌, subst}
use mathlib.Core.Bool.{Bool, true, false, not, ◌&&◌, false≢true}
use mathlib.Core.Logic.{◌↔◌}
use mathlib.Core.List.{List, [], ◌∷◌, Memᴰ}
use borrow.Author.Tests.{leb-true, le-leb, not-true, not-false}
use lib.Dec.{leb}
use lib.ListN.{length, get_or}
use lib.Seq.{ext_get_or}
use Rattle.least.specs.Lists.{every, first_of, nth_or, pad}
use Rattle.least.specs.Fraction.{frac}
use Rattle.least.proofs.First.{first_is, first_every, every_missed}
use Rattle.least.proofs.Lists.{and_iff, every_member, every_all, nth_get, nth_member, first_at}
use Rattle.least.proofs.Pad.{length_pad, get_d_pad_fits}
use Rattle.refusal.specs.declared.Outcome.{Outcome}
use Rattle.refusal.specs.declared.Outcome.TheVariants.{Done, Refused}
use Rattle.refusal.specs.declared.Refusal.TheVariants.{BadHandSet, NoTime}
use Rattle.refusal.specs.Limits.{row_limit}
use Rattle.refusal.specs.Questions.{ask, first_no}
use Rattle.refusal.proofs.Answers.{done_not_refused}
use Rattle.load.specs.declared.Row.{Row}
use Rattle.load.specs.declared.Weighed.{Weighed}
use Rattle.load.specs.Load.{row, passes_system, bounds_of}
use Rattle.load.specs.Weigh.{RowFits, row_in_range, has_time, weigh_questions, weighed, weigh_of}
use Rattle.load.proofs.InRange.{fits_in_range, in_range_fits}
use Rattle.load.proofs.Load.{bounds_of-length}
use Rattle.planner.specs.SystemTest.{row_at, bound_at}
use Rattle.planner.specs.Weighing.{CountFits, BadRowAt, NoTimeAt, WeighedIs}
use Rattle.planner.proofs.SystemTest.{time_iff, bound_settled, row_settled, load_settled, system_test}

-- elements by number, from 1
module _ {A : Type 0} (d : A) where
  nth_zero : (xs : List A) → nth_or d 0 xs ≡ d
  unfolding nth_or
  nth_zero [] = refl
  nth_zero (x ∷ xs) = refl

  nth_pad : (k : ℕ) (xs : List A) (i : ℕ) → length xs ≤ k → nth_or d i (pad k d xs) ≡ nth_or d i xs
  nth_pad k xs zero h = nth_zero (pad k d xs) ∙ sym (nth_zero xs)
  nth_pad k xs (suc i) h = nth_get d i (pad k d xs) ∙ get_d_pad_fits k d xs i h ∙ sym (nth_get d i xs)

  nth_past : (xs : List A) (i : ℕ) → length xs < i → nth_or d i xs ≡ d
  unfolding nth_or
  nth_past [] i h = refl
  nth_past (x ∷ xs) zero h = refl
  nth_past (x ∷ xs) (suc zero) h = absurd (omega arith)
  nth_past (x ∷ xs) (suc (suc i)) h = nth_past xs (suc i) (omega arith)

-- the first element that does not pass a test
module _ {A : Type 0} (d : A) (test : A → Bool) (xs : List A) where
  pub record FailsAt (j : ℕ) : Type 0 where
    pub from : 1 ≤ j
    pub to : j ≤ length xs
    pub fails : test (nth_or d j xs) ≡ false
    pub before : (i : ℕ) → 1 ≤ i → i < j → test (nth_or d i xs) ≡ true

  first_some : every test xs ≡ false → 1 ≤ first_of (λ x. not (test x)) xs
  first_some e = go (first_of (λ x. not (test x)) xs) refl
    where
      go : (j : ℕ) → first_of (λ x. not (test x)) xs ≡ j → 1 ≤ first_of (λ x. not (test x)) xs
      go zero z = absurd (false≢true (sym e ∙ first_every test xs z))
      go (suc j) z = omega arith

  pub fails_at : every test xs ≡ false → FailsAt (first_of (λ x. not (test x)) xs)
  fails_at e =
      let f = first_at (λ x. not (test x)) xs (first_some e) in
      record { from = f.some; to = f.most; fails = not-true _ (f.passes d); before = λ i a b. not-false _ (f.before d i a b) }

  pub at_fails : (j : ℕ) → FailsAt j → (every test xs ≡ false) × (first_of (λ x. not (test x)) xs ≡ j)
  at_fails zero f = absurd (omega arith)
  at_fails (suc k) f =
      let l : k < length xs = omega arith in
      let e : test (get_or xs k d) ≡ false = ap test (sym (nth_get d k xs)) ∙ f.fails in
      (every_missed d test k xs l e, first_is d (λ x. not (test x)) k xs l (ap not e) (λ i h. ap not (ap test (sym (nth_get d i xs)) ∙ f.before (suc i) (omega arith) (omega arith))))

-- three questions, with the refusals of weighing
module _ (a b c : Bool) (i j : ℕ) where
  abbrev asked : Outcome
  asked = first_no (ask (BadHandSet 0) a ∷ ask (BadHandSet i) b ∷ ask (NoTime j) c ∷ [])

asked_13 : (a b c : Bool) (i j k : ℕ) → (asked a b c i j ≡ Refused (NoTime k)) ↔ ((a ≡ true) × (b ≡ true) × (c ≡ false) × (j ≡ k))
unfolding first_no
asked_13 true true false i j k = ((λ e. (refl, refl, refl, cc e)), λ h. ap (λ (n : ℕ). Refused (NoTime n)) h.3)
asked_13 true true true i j k = ((λ e. absurd (done_not_refused e)), λ h. absurd (false≢true (sym h.2)))
asked_13 true false c i j k = ((λ e. let z : ◌≡◌ {A = ℕ} 0 1 = cc e in absurd (omega arith)), λ h. absurd (false≢true h.1))
asked_13 false b c i j k = ((λ e. let z : ◌≡◌ {A = ℕ} 0 1 = cc e in absurd (omega arith)), λ h. absurd (false≢true h.0))

asked_12_row : (a b c : Bool) (i j k : ℕ) → 1 ≤ k → (asked a b c i j ≡ Refused (BadHandSet k)) ↔ ((a ≡ true) × (b ≡ false) × (i ≡ k))
unfolding first_no
asked_12_row true true false i j k l = ((λ e. let z : ◌≡◌ {A = ℕ} 0 1 = cc e in absurd (omega arith)), λ h. absurd (false≢true (sym h.1)))
asked_12_row true true true i j k l = ((λ e. absurd (done_not_refused e)), λ h. absurd (false≢true (sym h.1)))
asked_12_row true false c i j k l = ((λ e. (refl, refl, cc e)), λ h. ap (λ (n : ℕ). Refused (BadHandSet n)) h.2)
asked_12_row false b c i j k l = ((λ e. let z : 0 ≡ k = cc e in absurd (omega arith)), λ h. absurd (false≢true h.0))

asked_12_count : (a b c : Bool) (i j : ℕ) → (b ≡ false → 1 ≤ i) → (asked a b c i j ≡ Refused (BadHandSet 0)) ↔ (a ≡ false)
unfolding first_no
asked_12_count true true false i j s = ((λ e. let z : ◌≡◌ {A = ℕ} 0 1 = cc e in absurd (omega arith)), λ h. absurd (false≢true (sym h)))
asked_12_count true true true i j s = ((λ e. absurd (done_not_refused e)), λ h. absurd (false≢true (sym h)))
asked_12_count true false c i j s = ((λ e. let z : i ≡ 0 = cc e in absurd (omega (arith, s refl))), λ h. absurd (false≢true (sym h)))
asked_12_count false b c i j s = ((λ e. refl), λ h. refl)

asked_done : (a b c : Bool) (i j : ℕ) → asked a b c i j ≡ Done → (a ≡ true) × (b ≡ true) × (c ≡ true)
unfolding first_no
asked_done true true true i j e = (refl, refl, refl)
asked_done true true false i j e = absurd (done_not_refused (sym e))
asked_done true false c i j e = absurd (done_not_refused (sym e))
asked_done false b c i j e = absurd (done_not_refused (sym e))

pub weighed_outcome : (o : Outcome) (rows : List Row) → (weighed o rows).outcome ≡ o
unfolding weighed
weighed_outcome Done rows = refl
weighed_outcome (Refused r) rows = refl

fits_iff : (r : Row) → (row_in_range r ≡ true) ↔ RowFits r
fits_iff r = (in_range_fits r, fits_in_range r)

-- a test that decides a statement
pub not_iff : {S : Type 0} (b : Bool) → (b ≡ true) ↔ S → (b ≡ false) ↔ (S → ⊥)
not_iff true iff = ((λ e. absurd (false≢true (sym e))), λ n. absurd (n (iff.0 refl)))
not_iff false iff = ((λ e s. false≢true (iff.1 s)), λ n. refl)

module _ (rows : List Row) where
  abbrev count : Bool
  count = leb 1 (length rows) && leb (length rows) row_limit

  count_iff : (count ≡ true) ↔ CountFits rows
  count_iff = (
    (λ e. let h = (and_iff _ _).0 e in record { some = leb-true _ _ h.0; few = leb-true _ _ h.1 }),
    (λ f. (and_iff _ _).1 (le-leb _ _ f.some, le-leb _ _ f.few)),
  )

  every_iff : (every row_in_range rows ≡ true) ↔ ((r : Row) → Memᴰ r rows → RowFits r)
  every_iff = ((λ e r m. (fits_iff r).0 (every_member row_in_range rows e m)), λ f. every_all row_in_range rows (λ r m. (fits_iff r).1 (f r m)))

  -- questions 12 and 13
  asked_weigh : (weigh_of rows).outcome ≡ asked count (every row_in_range rows) (every has_time (bounds_of rows)) (first_of (λ r. not (row_in_range r)) rows) (first_of (λ b. not (has_time b)) (bounds_of rows))
  unfolding weigh_of weigh_questions
  asked_weigh = weighed_outcome _ rows

  pub wrong_count_iff : ((weigh_of rows).outcome ≡ Refused (BadHandSet 0)) ↔ (CountFits rows → ⊥)
  wrong_count_iff =
      let iff = asked_12_count count (every row_in_range rows) (every has_time (bounds_of rows)) _ _ (first_some (row 0 0 0) row_in_range rows) in
      let no = not_iff count count_iff in
      ((λ e. no.0 (iff.0 (sym asked_weigh ∙ e))), λ n. asked_weigh ∙ iff.1 (no.1 n))

  pub bad_row_iff : (j : ℕ) → 1 ≤ j → ((weigh_of rows).outcome ≡ Refused (BadHandSet j)) ↔ BadRowAt rows j
  bad_row_iff j l = (to, from)
    where
      to : (weigh_of rows).outcome ≡ Refused (BadHandSet j) → BadRowAt rows j
      to e =
          let h = (asked_12_row count (every row_in_range rows) (every has_time (bounds_of rows)) _ _ j l).0 (sym asked_weigh ∙ e) in
          let f = subst (FailsAt (row 0 0 0) row_in_range rows) h.2 (fails_at (row 0 0 0) row_in_range rows h.1) in
          record { count = count_iff.0 h.0; from = f.from; to = f.to; bad = (not_iff _ (fits_iff (row_at rows j))).0 f.fails; before = λ i a b. (fits_iff _).0 (f.before i a b) }

      from : BadRowAt rows j → (weigh_of rows).outcome ≡ Refused (BadHandSet j)
      from n =
          let f = at_fails (row 0 0 0) row_in_range rows j (record { from = n.from; to = n.to; fails = (not_iff _ (fits_iff (row_at rows j))).1 n.bad; before = λ i a b. (fits_iff _).1 (n.before i a b) }) in
          asked_weigh ∙ (asked_12_row count (every row_in_range rows) (every has_time (bounds_of rows)) _ _ j l).1 (count_iff.1 n.count, f.0, f.1)

  pub no_time_iff : (j : ℕ) → ((weigh_of rows).outcome ≡ Refused (NoTime j)) ↔ NoTimeAt rows j
  no_time_iff j = (to, from)
    where
      to : (weigh_of rows).outcome ≡ Refused (NoTime j) → NoTimeAt rows j
      to e =
          let h = (asked_13 count (every row_in_range rows) (every has_time (bounds_of rows)) _ _ j).0 (sym asked_weigh ∙ e) in
          let f = subst (FailsAt (frac 0 0) has_time (bounds_of rows)) h.3 (fails_at (frac 0 0) has_time (bounds_of rows) h.2) in
          let l : j ≤ length rows = omega (arith, f.to, bounds_of-length rows) in
          record {
            count = count_iff.0 h.0;
            fit = every_iff.0 h.1;
            from = f.from;
            to = l;
            none = λ t k. (not_iff _ (time_iff rows j f.from l)).0 f.fails (t, k);
            before = λ i a b. (time_iff rows i a (omega arith)).0 (f.before i a b);
          }

      from : NoTimeAt rows j → (weigh_of rows).outcome ≡ Refused (NoTime j)
      from n =
          let f = at_fails (frac 0 0) has_time (bounds_of rows) j (record {
            from = n.from;
            to = omega (arith, n.to, bounds_of-length rows);
            fails = (not_iff _ (time_iff rows j n.from n.to)).1 (λ k. n.none k.0 k.1);
            before = λ i a b. (time_iff rows i a (omega (arith, n.to))).1 (n.before i a b);
          }) in
          asked_weigh ∙ (asked_13 count (every row_in_range rows) (every has_time (bounds_of rows)) _ _ j).1 (count_iff.1 n.count, every_iff.1 n.fit, f.0, f.1)

  -- the answer
  module _ (fits : CountFits rows) (timed : every has_time (bounds_of rows) ≡ true) where
    padded : (i : ℕ) → bound_at (pad row_limit (frac 0 0) (bounds_of rows)) i ≡ bound_at (bounds_of rows) i
    padded i = nth_pad (frac 0 0) row_limit (bounds_of rows) i (omega (arith, fits.few, bounds_of-length rows))

    all_pass : passes_system rows ≡ true
    all_pass =
        (system_test.passes rows).1 (λ i a b. (time_iff rows i a b).0 (every_member has_time (bounds_of rows) timed (nth_member (frac 0 0) i (bounds_of rows) a (omega (arith, bounds_of-length rows)))))

    weighed_is : WeighedIs rows (weighed Done rows)
    unfolding weighed
    weighed_is = record {
      done = refl;
      bounds = λ i a b. rw (padded i) (system_test.bounds rows all_pass i a b);
      places = length_pad row_limit (frac 0 0) (bounds_of rows);
      unused = λ i h. padded i ∙ nth_past (frac 0 0) (bounds_of rows) i (omega (arith, bounds_of-length rows));
      load = system_test.load rows all_pass fits.some;
    }

  pub weigh_of_is : (weigh_of rows).outcome ≡ Done → WeighedIs rows (weigh_of rows)
  unfolding weigh_of
  weigh_of_is e =
      let h = asked_done count (every row_in_range rows) (every has_time (bounds_of rows)) _ _ (sym asked_weigh ∙ e) in
      rw (sym (weighed_outcome (first_no (weigh_questions rows)) rows) ∙ e) (weighed_is (count_iff.0 h.0) h.2)

-- only one answer is such
module _ (rows : List Row) (w v : Weighed) (p : WeighedIs rows w) (q : WeighedIs rows v) where
  same_bound : (i : ℕ) → 1 ≤ i → bound_at w.bounds i ≡ bound_at v.bounds i
  same_bound i a = go (dec_le i (length rows))
    where
      go : Dec (i ≤ length rows) → bound_at w.bounds i ≡ bound_at v.bounds i
      go (yes h) = bound_settled (p.bounds i a h) (q.bounds i a h)
      go (no h) = p.unused i (omega arith) ∙ sym (q.unused i (omega arith))

  same_bounds : w.bounds ≡ v.bounds
  same_bounds = ext_get_or (frac 0 0) w.bounds v.bounds (p.places ∙ sym q.places) (λ k h. sym (nth_get _ k w.bounds) ∙ same_bound (suc k) (omega arith) ∙ nth_get _ k v.bounds)

pub weighed_settled : (rows : List Row) (w v : Weighed) → WeighedIs rows w → WeighedIs rows v → w ≡ v
weighed_settled rows w v p q =
    λ i. record { outcome = (p.done ∙ sym q.done) i; bounds = same_bounds rows w v p q i; load = load_settled p.load q.load i; row = row_settled p.load q.load i }
