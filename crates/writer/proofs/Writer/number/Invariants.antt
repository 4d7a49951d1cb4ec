-- `writer::Writer::number` meets its contract. The invariant: the digits of what is left of the number, written before the others, give the whole.
-- Assumes nothing.
use Prim.Native.Nat.{◌+◌, ◌<◌}
use mathlib.Core.Path.{◌≡◌}
use lib.ListN.{length}
use Rattle.text.specs.Decimal.{digits_of}
use Rattle.writer.specs.Code.Written.{written}
use Rattle.writer.proofs.Writer.number.Given as goal

abbrev pub invariant-loop-rest : goal.invariant-loop-rest
invariant-loop-rest l =
    let w = l.self in
    let before = l.initial.self in record {
      same : w.out.ghost_name ≡ before.out.ghost_name;
      place : w.at ≡ before.at;
      long : length w.out.now ≡ length before.out.now;
      bytes : written w.at (digits_of l.rest) w.out.now ≡ written w.at (digits_of l.n) before.out.now;
      left : l.i + 1 ≡ w.at + length (digits_of l.rest);
      within : l.i < length w.out.now;
      behind : l.next ≡ w.at + length (digits_of l.n);
    }

abbrev pub decreases-loop-rest : goal.decreases-loop-rest
decreases-loop-rest l = l.rest
