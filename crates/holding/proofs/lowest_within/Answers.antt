-- `holding::lowest_within` meets its contract. The invariant: the search from r on has come to the ceiling k and the time `start`.
-- Assumes nothing.
use native.Mathlib.Omega.{arith}
use mathlib.Core.Path.{sym, ◌∙◌}
use Rattle.task_set.specs.Code.ByColumn.{times_of}
use Rattle.task_set.proofs.Times.{times_length}
use Rattle.holding.proofs.Searching.{searched_found, searched_held, searched_out}
use Rattle.holding.proofs.lowest_within.Goals as goal

pub loop-k-init : goal.loop-k-init
loop-k-init c = c.begin-begin.ensures (times_of c.args.tasks.now) c.requires.4

pub returns-in-Some : goal.returns-in-Some
returns-in-Some c =
    let a = c.args in
    let ts = times_of a.tasks.now in
    let m = c.min-most in
    let at = c.loop-k in
    let found = sym c.hold.ensures ∙ c.in-Some.is in
    record {
      found = sym (searched_held ts a.g a.limit a.x m.result a.r at.k at.start m.ensures at.invariant.1 _ at.invariant.0 (omega (arith, times_length a.tasks.now)) found);
      told = searched_found ts a.g m.result a.r at.k at.start _ at.invariant.1 found;
    }

pub returns-clause-found : goal.returns-clause-found
returns-clause-found c =
    let a = c.args in
    let m = c.min-most in
    let at = c.loop-k in
    sym (searched_out (times_of a.tasks.now) a.g a.limit a.x m.result a.r at.k at.start m.ensures at.invariant.1 (omega (arith, times_length a.tasks.now)))
