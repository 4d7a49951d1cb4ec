-- The chart of the rows of a plan: questions 19 and 14 in their order, and what is handed over.
-- Assumes nothing.
use Rattle.std.specs.Prelude.{Option, Some, None, Ok, option_map}
use Rattle.std.specs.List.{position}
use Prim.Native.Nat.{ℕ, ◌+◌, ◌≤◌, ◌<◌}
use native.Mathlib.Omega.{arith}
use mathlib.Core.Path.{◌≡◌, sym, ap, ◌∙◌}
use mathlib.Core.Bool.{not}
use mathlib.Core.List.{List, ◌++◌}
use borrow.Author.Tests.{le-leb, lt-leb}
use lib.ListN.{drop}
use Rattle.least.specs.Lists.{first_of}
use Rattle.least.proofs.First.{first_every, first_not_every}
use Rattle.refusal.specs.declared.Refusal.TheVariants.{NoRoom, OutOfCycle}
use Rattle.refusal.specs.Limits.{cycle}
use Rattle.refusal.specs.Questions.{Answer, first_no, when_done}
use Rattle.refusal.specs.Questions.Answer.{answered, refused}
use Rattle.load.specs.declared.Row.{Row}
use Rattle.load.specs.Code.Rows.{no_row}
use Rattle.load.proofs.Position.{number_at, number_is}
use Rattle.layout.specs.Layout.{chart, in_cycle}
use Rattle.layout.proofs.Chart.{chart_length}
use Rattle.answers.specs.Answers.{buffer_after}
use Rattle.answers.specs.Code.Handing.{count_of, HandedOn}
use Rattle.charting.specs.Code.Charted.{chart_of_rows}

module _ (rows : List Row) (room : ℕ) where
  -- the number of the first row whose period does not divide the cycle, as the code has it
  abbrev pub first_out : Option ℕ
  first_out = option_map (λ k. k + 1) (position (λ r. not (in_cycle r)) rows)

  number_out : (k : ℕ) → first_out ≡ Some k → (first_of (λ r. not (in_cycle r)) rows ≡ k) × (1 ≤ k)
  number_out k e = go (position (λ r. not (in_cycle r)) rows) (number_is (λ r. not (in_cycle r)) rows) e
    where
      go : (p : Option ℕ) → first_of (λ r. not (in_cycle r)) rows ≡ number_at p → option_map (λ i. i + 1) p ≡ Some k → (first_of (λ r. not (in_cycle r)) rows ≡ k) × (1 ≤ k)
      go (Some i) f e = let q : i + 1 ≡ k = cc e in (omega arith, omega arith)
      go None f e = absurd (cc e)

  none_out : first_out ≡ None → first_of (λ r. not (in_cycle r)) rows ≡ 0
  none_out e = go (position (λ r. not (in_cycle r)) rows) (number_is (λ r. not (in_cycle r)) rows) e
    where
      go : (p : Option ℕ) → first_of (λ r. not (in_cycle r)) rows ≡ number_at p → option_map (λ i. i + 1) p ≡ None → first_of (λ r. not (in_cycle r)) rows ≡ 0
      go (Some i) f e = absurd (cc e)
      go None f e = f

  pub chart_19 : (k : ℕ) → first_out ≡ Some k → chart_of_rows rows room ≡ refused (OutOfCycle k)
  unfolding chart_of_rows first_no when_done
  chart_19 k e =
      let n = number_out k e in
      simp (first_not_every in_cycle rows no_row (omega (arith, n.0, n.1)), n.0)

  pub chart_14 : first_out ≡ None → room < cycle → chart_of_rows rows room ≡ refused NoRoom
  unfolding chart_of_rows first_no when_done
  chart_14 e h = simp (first_every in_cycle rows (none_out e), lt-leb cycle room h)

  pub chart_fits : first_out ≡ None → cycle ≤ room → chart_of_rows rows room ≡ answered (chart rows)
  unfolding chart_of_rows first_no when_done
  chart_fits e h = simp (first_every in_cycle rows (none_out e), le-leb cycle room h)

-- a chart is handed on whole
pub charted_on : (a : Answer (List ℕ)) (rows : List Row) (before after : List ℕ) → a ≡ answered (chart rows) → after ≡ chart rows ++ drop cycle before → HandedOn a before (Ok cycle) after
unfolding count_of buffer_after
charted_on a rows before after e h = record {
  result = ap Ok (sym (chart_length rows)) ∙ sym (ap count_of e);
  bytes = h ∙ ap (λ (n : ℕ). chart rows ++ drop n before) (sym (chart_length rows)) ∙ sym (ap (λ (b : Answer (List ℕ)). buffer_after b before) e);
}
