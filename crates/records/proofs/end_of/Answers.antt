-- `records::end_of` meets its contract.
-- Assumes nothing.
use borrow.Author.Tests.{lt-ltb, le-ltb}
use Rattle.records.specs.Code.Shapes.{end_of}
use Rattle.records.proofs.end_of.Goals as goal

pub returns-then-k-l : goal.returns-then-k-l
unfolding end_of
returns-then-k-l c = simp (lt-ltb _ _ c.if-k-l.true)

pub returns-else-k-l : goal.returns-else-k-l
unfolding end_of
returns-else-k-l c = simp (le-ltb _ _ c.if-k-l.false)
