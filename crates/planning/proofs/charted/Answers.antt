-- `planning::charted` meets its contract.
-- Assumes nothing.
use mathlib.Core.Path.{sym, subst}
use mathlib.Core.List.{List}
use Prim.Native.Nat.{ℕ}
use lib.ListN.{length}
use Rattle.std.proofs.lemmas.Result.{err_from_is_err_and}
use Rattle.refusal.specs.Questions.{Answer}
use Rattle.load.specs.Weigh.{rows_of}
use Rattle.reader.specs.Code.Reader.{parts_in}
use Rattle.answers.specs.Code.Handing.{HandedOn}
use Rattle.answers.proofs.ChartRows.{chart_planned}
use Rattle.charting.specs.Code.Charted.{chart_of_rows}
use Rattle.planning.proofs.Choosing.{plan_is}
use Rattle.planning.proofs.Answering.{chart_refused, rows_fine}
use Rattle.planning.proofs.charted.Goals as goal

pub returns-in_err-rows : goal.returns-in_err-rows
returns-in_err-rows c =
    let p = err_from_is_err_and c.from_residual.result c.from_residual.ensures.1 in
    rw (p.1, p.2) (chart_refused c.args.file.now c.args.out.now _ c.in_err-rows.ensures)

pub chart_rows-requires : goal.chart_rows-requires
chart_rows-requires c = rows_fine c.args.file.now c.choose.new.f c.in_ok-rows.rows c.in_ok-rows.ensures

pub returns : goal.returns
unfolding chart_of_rows
returns c =
    let s = c.args.file.now in
    let out = c.args.out.now in
    let f = c.choose.new.f in
    let rows = c.in_ok-rows.rows in
    subst (λ (a : Answer (List ℕ)). HandedOn a out c.chart_rows.result c.chart_rows.new.out)
    (sym (chart_planned (length out) s (record { parts = parts_in s f; rows = rows_of rows }) (plan_is s f rows c.in_ok-rows.ensures)))
    c.chart_rows.ensures
