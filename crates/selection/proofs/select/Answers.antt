-- `selection::select` meets its contract. The invariant: the descent has come to the places.
-- Assumes nothing.
use native.Mathlib.Omega.{arith}
use Rattle.selection.proofs.Selecting.{selecting_starts, selecting_places, Turn, Turned, turned_as, turn_stays, turn_records, turn_ends, turn_at_most, turn_moves, turn_fewer}
use Rattle.selection.proofs.select.Goals as goal
use Rattle.selection.proofs.select.Goals.{After-columns_at-columns, Joined-first_reaching, in-Some, in-None}

-- the turn, from the state behind `columns_at`
abbrev turn_of : (c : After-columns_at-columns) → Turn c.args.offers.now
turn_of c = let l = c.loop-blocking in record {
  fine = c.requires;
  places = l.places;
  best = l.best;
  chosen = l.chosen;
  selecting = l.invariant;
  columns = c.columns_at-columns.result;
  columns_are = c.columns_at-columns.ensures;
}

-- the same turn, from the state behind the match
abbrev turn_at : (c : Joined-first_reaching) → Turn c.args.offers.now
turn_at c = turn_of (goal.at.Joined-first_reaching c).After-columns_at-columns

pub loop-blocking-init : goal.loop-blocking-init
loop-blocking-init c = selecting_starts c.requires

pub columns_at-columns-requires : goal.columns_at-columns-requires
columns_at-columns-requires c = selecting_places c.requires c.loop-blocking.invariant

pub first_reaching-requires : goal.first_reaching-requires
first_reaching-requires c = c.loop-blocking.invariant.fine_best

pub heaviest-weight-requires : goal.heaviest-weight-requires
heaviest-weight-requires c = omega (arith, c.columns_at-columns.ensures.count, c.requires.some)

-- what the turn has come to behind the match: a lighter choice is recorded, or the best one stays
turned : (c : Joined-first_reaching) → Turned (turn_at c) c.match-first_reaching.best c.match-first_reaching.chosen c.match-first_reaching.blocking
turned c =
    let t = turn_at c in
    let e = c.first_reaching in
    elim c.match-first_reaching.branch [
      | in-Some w ↦ turned_as (Turned t) w.best-is w.chosen-is w.blocking-is (turn_stays t e.result e.ensures _ w.in-Some.is)
      | in-None w ↦ turned_as (Turned t) w.best-is w.chosen-is w.blocking-is (turn_records t e.result e.ensures w.in-None.is w.heaviest-weight.result w.heaviest-weight.ensures)
    ]

pub returns-in_default : goal.returns-in_default
returns-in_default c = let s = (goal.at.returns-in_default c).Joined-first_reaching in turn_ends (turn_at s) (turned s) c.mover.ensures c.in_default.is

pub loop-blocking-smaller : goal.loop-blocking-smaller
loop-blocking-smaller c =
    let s = (goal.at.loop-blocking-smaller c).Joined-first_reaching in
    turn_fewer (turn_at s) c.in-Some-mover.j (turn_at_most (turn_at s) (turned s) c.mover.ensures _ c.in-Some-mover.is)

pub loop-blocking-preserved : goal.loop-blocking-preserved
loop-blocking-preserved c =
    let s = (goal.at.loop-blocking-preserved c).Joined-first_reaching in
    turn_moves (turn_at s) (turned s) c.mover.ensures _ c.in-Some-mover.is
