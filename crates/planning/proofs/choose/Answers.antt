-- `planning::choose` meets its contract: the refusal of the reader, or what the choice gives.
-- Assumes nothing.
use Rattle.std.proofs.lemmas.Result.{err_from_is_err_and}
use Rattle.planning.proofs.Planning.{to_choose}
use Rattle.planning.proofs.Choosing.{unread_refused, rows_chosen}
use Rattle.planning.proofs.choose.Goals as goal

pub returns-in_err-read_file : goal.returns-in_err-read_file
returns-in_err-read_file c =
    let p = err_from_is_err_and c.from_residual.result c.from_residual.ensures.1 in
    rw (p.1, p.2) (unread_refused c.args.file.now _ c.in_err-read_file.ensures.read)

pub plan_rows-requires : goal.plan_rows-requires
plan_rows-requires c = to_choose c.args.file.now c.read_file.new.f c.in_ok-read_file.ensures.read

pub returns : goal.returns
returns c = rows_chosen c.args.file.now c.read_file.new.f c.in_ok-read_file.ensures.read c.plan_rows.result c.plan_rows.ensures
