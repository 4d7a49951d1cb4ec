-- `reader::read_lines` meets its contract. The invariant is `Reading`: what is left of the file decides, and the locals are what the lines above say; and the names
-- of the last part have their numbers.
-- Assumes nothing.
use Prim.Native.Nat.{◌-◌}
use mathlib.Core.Path.{◌≡◌}
use lib.ListN.{length}
use Rattle.plan_file.specs.Code.Entries.{NumbersOf}
use Rattle.reader.proofs.Reading.{Reading}
use Rattle.reader.proofs.read_lines.Given as goal

abbrev pub invariant-loop-f : goal.invariant-loop-f
invariant-loop-f l = (l.f.count ≡ 0) × Reading l.first l.s l.c l.seen l.«open» l.name l.period l.tasks l.f.parts × NumbersOf l.s l.seen.tasks l.task_codes × NumbersOf l.s l.seen.locks l.lock_codes

abbrev pub decreases-loop-f : goal.decreases-loop-f
decreases-loop-f l = length l.s - l.c.at
