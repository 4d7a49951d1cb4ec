-- The top theorem: `plan` meets demand 3, whatever readable file it is asked for and whatever bytes are lent.
-- Assumes nothing.
use Prim.Native.Nat.{ℕ, ◌≤◌}
use native.Mathlib.Omega.{arith}
use mathlib.Core.Path.{◌≡◌, refl, sym, ap, ◌∙◌}
use mathlib.Core.Bool.{Bool, true, false, cond}
use mathlib.Core.List.{List, [], ◌∷◌}
use borrow.Author.Tests.{leb-true, leb-false}
use lib.Dec.{leb}
use lib.ListN.{length, length-map}
use Rattle.least.specs.declared.Frac.{Frac}
use Rattle.least.specs.Lists.{is_empty, some, first_of, zip3}
use Rattle.least.specs.Each.{Each}
use Rattle.least.specs.Each.Each.{none, more}
use Rattle.least.specs.Fraction.{◌⊑◌}
use Rattle.refusal.specs.declared.Refusal.TheVariants.{NoRoom}
use Rattle.refusal.specs.Questions.Answer.{answered, refused}
use Rattle.task_set.specs.Partition.{Partition}
use Rattle.load.specs.declared.Row.{Row}
use Rattle.load.specs.Load.{bounds_of, load_of, passes_system}
use Rattle.load.proofs.Load.{bounds_of-length}
use Rattle.plan_file.specs.Numbers.{PlanPart, parts_of, no_plan_part, part_at}
use Rattle.listing.specs.Listing.{Share, share_under}
use Rattle.answers.specs.Parts.{kept_rows, share_of, shares_of}
use Rattle.answers.specs.Answers.{plan_of, PlanAnswered}
use Rattle.answers.specs.Choice.{row_under, FromKept, BuiltFromKept}
use Rattle.answers.specs.Plan.{partitions, offered, least_rows, plan_text}
use Rattle.answers.proofs.KeptRows.{each_of_map, some_kept, shown_passes, shown_row}
use Rattle.answers.proofs.PlanRows.{shares_rows, shares_bounds, every_kept, kept_choices, text, empty_at, each_chosen, first_empty, none_chosen, no_passing_choice, least_rows_kept, least_rows_passes, least_rows_least, least_rows_greatest, refused_10, refused_11, planned_or_14}
use Rattle.planner.specs.Demand3.{printed_rows, PrintedShare, Printed, NoBudgetAt, Demanded, Demand3}
use Rattle.planner.specs.Demand3.NoneToPlan.{ten, eleven}
use Rattle.planner.specs.Demand3.Demanded.{none_passes, fits, too_long}

-- what is printed of kept rows
share_printed : (p : PlanPart) (r : Row) (b : Frac) → FromKept p.numbers r → PrintedShare p (share_of p r b)
unfolding share_under
share_printed p r b k = record { name = refl; ceilings = refl; local = shown_passes p.numbers r k; is = shown_row p.numbers r k }

pub shares_printed : (ps : List PlanPart) {rs : List Row} (bs : List Frac) → BuiltFromKept ps rs → length bs ≡ length rs → Each PrintedShare ps (shares_of ps rs bs)
unfolding zip3
shares_printed [] bs none e = none
shares_printed (p ∷ ps) [] (more k ks) e = absurd (omega arith)
shares_printed (p ∷ ps) (b ∷ bs) (more {y = r} k ks) e = more (share_printed p r b k) (shares_printed ps bs ks (omega arith))

module _ (ps : List PlanPart) where
  abbrev vs : List Partition
  vs = partitions ps

  pub no_budget_at_first : every_kept vs ≡ false → NoBudgetAt ps (first_of is_empty (offered vs))
  no_budget_at_first e =
      let f = first_empty ps e in
      record {
        from = f.some;
        to = omega (arith, f.most, length-map vs kept_rows, length-map ps (λ p. p.numbers));
        none = λ σ Q b. none_chosen ps _ f (row_under _ σ Q) (record { setting = σ; budget = Q; local = b; is = refl });
        first = λ i a b. some_kept (part_at ps i).numbers (sym (empty_at ps i) ∙ f.before (kept_rows no_plan_part.numbers) i a b);
      }

  -- what the plan prints
  module _ (e : some passes_system (kept_choices vs) ≡ true) where
    abbrev rows : List Row
    rows = least_rows vs

    abbrev shares : List Share
    shares = shares_of ps rows (bounds_of rows)

    kept : BuiltFromKept ps rows
    kept = least_rows_kept vs e

    rows_are : printed_rows shares ≡ rows
    rows_are = shares_rows ps (bounds_of rows) kept (bounds_of-length rows)

    shares_greatest : (rs : List Row) → BuiltFromKept ps rs → load_of rs ⊑ load_of (printed_rows shares) → Each (λ s r. r.holding ≤ s.row.holding) shares rs
    shares_greatest rs k h =
        each_of_map (λ s. s.row) shares (rw rows_are (least_rows_greatest ps rs k (rw rows_are at h)))

    pub text_printed : Printed ps (text ps)
    unfolding plan_text
    text_printed = record {
      shares = shares;
      bytes = refl;
      choice = shares_printed ps (bounds_of rows) kept (bounds_of-length rows);
      system = rw rows_are (least_rows_passes vs e);
      bounds = shares_bounds ps (bounds_of rows) kept (bounds_of-length rows) ∙ ap bounds_of (sym rows_are);
      least = λ rs c. rw rows_are (least_rows_least ps rs c);
      kept = rw rows_are kept;
      greatest = λ rs c k h. shares_greatest rs k h;
    }

    pub text_rows : printed_rows text_printed.shares ≡ rows
    unfolding text_printed
    text_rows = rows_are

-- question 14
fits_or_14 : (ps : List PlanPart) (room : ℕ) (text : List ℕ) → Printed ps text → (b : Bool) → leb (length text) room ≡ b → Demanded ps room (cond b (answered text) (refused NoRoom))
fits_or_14 ps room text p true e = fits p (leb-true (length text) room e)
fits_or_14 ps room text p false e = too_long p (leb-false (length text) room e)

pub plan_demanded : (s : List ℕ) (room : ℕ) (ps : List PlanPart) → parts_of s ≡ answered ps → Demanded ps room (plan_of s room)
plan_demanded s room ps e = go (every_kept (partitions ps)) refl (some passes_system (kept_choices (partitions ps))) refl
  where
    go : (b : Bool) → every_kept (partitions ps) ≡ b → (c : Bool) → some passes_system (kept_choices (partitions ps)) ≡ c → Demanded ps room (plan_of s room)
    go false p c q = rw (refused_10 s ps room e p) (none_passes (ten (no_budget_at_first ps p)))
    go true p false q = rw (refused_11 s ps room e p q) (none_passes (eleven (each_chosen ps p) (no_passing_choice ps q)))
    go true p true q = rw (planned_or_14 s ps room e p q) (fits_or_14 ps room (text ps) (text_printed ps q) (leb (length (text ps)) room) refl)

pub demand_3 : Demand3 PlanAnswered
demand_3 s before r after ps h e = (plan_of s (length before), plan_demanded s (length before) ps e, h)
