-- `selection::met_below` meets its contract.
-- Assumes nothing.
use Rattle.selection.proofs.Reaching.{below_none, below_ratio}
use Rattle.selection.proofs.met_below.Goals as goal

pub returns-then-best-eq0 : goal.returns-then-best-eq0
returns-then-best-eq0 c = below_none c.args.best c.requires c.if-best-eq0.true

pub returns : goal.returns
returns c = below_ratio c.args.best c.requires c.if-best-eq0.false
