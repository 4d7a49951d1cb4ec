use Rattle.std.proofs.Common.{rules, Ok}
use Rattle.streams.proofs.Folded.{one_or_none}
use Rattle.streams.proofs.each_file.Goals as goal

pub loop-path-preserved : goal.loop-path-preserved
loop-path-preserved g c =
    (tt, tt, search rules, one_or_none (λ p x r q. goal.F-step g p x.0 x.1 r q) _ (λ file. (_, file)) (Ok tt) _ _ _ _ c.loop-path.invariant.3 (rw c.in_ok-lend_opened.was at c.lend_opened.ensures.lent))
