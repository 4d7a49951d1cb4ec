-- `selection::reaches` meets its contract: it reaches `best` if no time is below it.
-- Assumes nothing.
use Rattle.selection.proofs.Reaching.{reaches_is}
use Rattle.selection.proofs.reaches.Goals as goal

pub returns : goal.returns
returns c =
    let a = c.args in
    reaches_is a.rows.now a.s a.period a.own a.best c.met_below.result c.met_below.ensures c.first_met.result c.first_met.ensures c.is_none.result c.is_none.ensures
