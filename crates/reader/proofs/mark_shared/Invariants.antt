-- `reader::mark_shared` meets its contract. The first loop gathers the numbers of the lock names, the second marks the parts.
-- Assumes nothing.
use mathlib.Core.Path.{◌≡◌}
use Rattle.sharing.specs.Code.Sharing.{marks_at}
use Rattle.reader.specs.Code.Reader.{rows_in}
use Rattle.reader.proofs.Marking.{Gathered, Marking}
use Rattle.reader.proofs.mark_shared.Given as goal

abbrev pub invariant-loop-k : goal.invariant-loop-k
invariant-loop-k l = Gathered l.s l.fn.f l.codes l.k

abbrev pub invariant-loop-k-2 : goal.invariant-loop-k-2
invariant-loop-k-2 l = (l.f.count ≡ l.initial.f.count) × Marking (marks_at (rows_in l.s l.initial.f)) l.initial.f.parts l.f.parts l.k
