use Rattle.std.proofs.Common.{ℕ, List, Bor}
use Rattle.streams.proofs.Folded.{answered}
use Rattle.streams.proofs.lend_opened.Goals as goal

pub returns-in_ok-print_heading-in-Ok-clause-lent : goal.returns-in_ok-print_heading-in-Ok-clause-lent
returns-in_ok-print_heading-in-Ok-clause-lent g c =
    rw c.in-Ok.is (answered (λ (file : Bor (List ℕ)) r. goal.F-step g c.args.visit.now c.args.path file r c.visit.new.self) _ c.visit.result c.visit.ensures (λ call. (_, _, c.read_full-n.ensures.bytes, call)))
