-- `charting::chart_rows` meets its contract: the refusal of question 19 or of 14, or the chart.
-- Assumes nothing.
use mathlib.Core.Path.{sym, ◌∙◌}
use lib.ListN.{length}
use Rattle.load.specs.Weigh.{rows_of}
use Rattle.charting.proofs.Charted.{chart_19, chart_14, chart_fits, charted_on}
use Rattle.answers.proofs.Handing.{refused_on}
use Rattle.charting.proofs.chart_rows.Goals as goal

pub returns-in-Some : goal.returns-in-Some
returns-in-Some c =
    let a = c.args in
    refused_on _ a.out.now _ (chart_19 (rows_of a.rows.now) (length a.out.now) c.in-Some.k (sym c.first_out_of_cycle.ensures ∙ c.in-Some.is))

pub returns-then-out-lt-CYCLE : goal.returns-then-out-lt-CYCLE
returns-then-out-lt-CYCLE c =
    let a = c.args in
    refused_on _ a.out.now _ (chart_14 (rows_of a.rows.now) (length a.out.now) (sym c.first_out_of_cycle.ensures ∙ c.in_default.is) c.if-out-lt-CYCLE.true)

pub returns : goal.returns
returns c =
    let a = c.args in
    charted_on _ (rows_of a.rows.now) a.out.now _ (chart_fits (rows_of a.rows.now) (length a.out.now) (sym c.first_out_of_cycle.ensures ∙ c.in_default.is) c.if-out-lt-CYCLE.false) c.lay_out.ensures
