-- `candidates::kept_of` meets its contract. The invariant: the search has come to X − 1 of the last turn, and the pairs are those that the walk keeps from X on.
-- Assumes nothing.
use Rattle.candidates.proofs.Pairs.{no_pairs}
use Rattle.candidates.proofs.Searching.{prepared, tables_fine, locks_fine, searching_start, end_reached, none_raised, ceilings_raised, none_passes, holding_falls, push_fine, searching_next}
use Rattle.candidates.proofs.kept_of.Goals as goal

pub loop-raised-init : goal.loop-raised-init
loop-raised-init c = searching_start (prepared c.requires c.tables_of-tables.ensures) c.lowest_of.ensures c.first_times.ensures no_pairs

pub raise-requires : goal.raise-requires
raise-requires c =
    let d = prepared c.requires c.tables_of-tables.ensures in
    ((tables_fine d).times, locks_fine d c.loop-raised.raised.ceilings c.loop-raised.invariant.ceilings_most)

pub budget_raised-requires-clause-fine : goal.budget_raised-requires-clause-fine
budget_raised-requires-clause-fine c = (tables_fine (prepared c.requires c.tables_of-tables.ensures), c.loop-raised.invariant.search.fine)

pub budget_raised-requires-clause-by_index : goal.budget_raised-requires-clause-by_index
budget_raised-requires-clause-by_index c =
    let s = c.loop-raised.invariant in
    (ceilings_raised (prepared c.requires c.tables_of-tables.ensures) s c.loop-raised-test.true c.in-Some.ensures, s.were_tested)

pub push-requires : goal.push-requires
push-requires c =
    push_fine (prepared c.requires c.tables_of-tables.ensures) c.loop-raised.invariant c.loop-raised-test.true c.in-Some.ensures c.in-Some-budget_raised.ensures

pub loop-raised-smaller : goal.loop-raised-smaller
loop-raised-smaller c = holding_falls (prepared c.requires c.tables_of-tables.ensures) c.loop-raised.invariant c.loop-raised-test.true c.in-Some.ensures

pub loop-raised-preserved : goal.loop-raised-preserved
loop-raised-preserved c =
    searching_next (prepared c.requires c.tables_of-tables.ensures) c.loop-raised.invariant c.loop-raised-test.true c.in-Some.ensures c.in-Some-budget_raised.ensures c.push.ensures

pub returns-after-loop-raised : goal.returns-after-loop-raised
returns-after-loop-raised c = end_reached (prepared c.requires c.tables_of-tables.ensures) c.loop-raised.invariant c.loop-raised-test.false

pub returns-in_default : goal.returns-in_default
returns-in_default c = none_raised (prepared c.requires c.tables_of-tables.ensures) c.loop-raised.invariant c.loop-raised-test.true c.in_default.ensures

pub returns-in_default-budget_raised : goal.returns-in_default-budget_raised
returns-in_default-budget_raised c =
    none_passes (prepared c.requires c.tables_of-tables.ensures) c.loop-raised.invariant c.loop-raised-test.true c.in-Some.ensures c.in_default-budget_raised.ensures
