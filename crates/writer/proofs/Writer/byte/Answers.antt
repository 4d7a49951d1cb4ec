-- `writer::Writer::byte` meets its contract.
-- Assumes nothing.
use mathlib.Core.Path.{refl}
use native.Mathlib.Omega.{arith}
use Rattle.writer.proofs.Written.{write_one}
use Rattle.writer.proofs.Writer.byte.Goals as goal

pub returns : goal.returns
returns c =
    let w = c.args.self.now in
    record { same = refl; bytes = write_one w.at c.args.b w.out.now (omega arith) }
