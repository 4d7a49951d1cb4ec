use Rattle.std.proofs.Common.{rules, ◌≤◌, length, take, IfSome, subst}
use Rattle.std.specs.Io.KnownBytes.{Consumes}
use Rattle.streams.proofs.Filled.{Consumes-filled}
use Rattle.plan.proofs.read_all.Goals as goal

pub loop-preserved : goal.loop-preserved
loop-preserved g c =
    let fits = subst (λ got. IfSome got (λ n. n ≤ length c.read_some.new.buf)) c.in-Some.is c.in_ok-count.ensures.in_bounds in
    let brought = subst (λ got. IfSome got (λ n. Consumes (g.R.Read.remaining c.loop.input) (g.R.Read.remaining c.read_some.new.input) (take n c.read_some.new.buf))) c.in-Some.is c.in_ok-count.ensures.brought in
    (search rules, search rules, Consumes-filled _ _ _ _ _ _ _ c.loop.invariant.1 fits c.loop.invariant.2 brought)
