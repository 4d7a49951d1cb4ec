-- The search for a lock's ceiling, ceiling by ceiling; and what it tells of another lock: one whose longest use is no smaller is held no shorter.
-- Assumes nothing.
use Rattle.std.specs.Prelude.{Some, None}
use Prim.Native.Nat.{ℕ, ◌+◌, min, max, ◌≤◌, ◌<◌}
use native.Mathlib.Omega.{arith}
use native.Mathlib.Decide.{dec_lt}
use mathlib.Core.Path.{◌≡◌, sym, ap, ◌∙◌}
use mathlib.Core.Bool.{false}
use mathlib.Core.List.{List}
use lib.Dec.{leb}
use lib.ListN.{length}
use borrow.Author.Tests.{leb-false, lt-leb}
use Rattle.least.proofs.Search.{NoneIn, none_iff, least_found}
use Rattle.least.proofs.Iterate.{start_unsolved}
use Rattle.task_set.specs.declared.Task.{Task}
use Rattle.task_set.specs.Tasks.{higher, demand_in}
use Rattle.holding.specs.Code.Search.{hold_up_to, NoneHeld, SearchedTo, lowest_held}
use Rattle.holding.proofs.Iteration.{hold_need, need_from}
use Rattle.holding.proofs.Within.{held_within, missed_within_both, ceiling_found, ceiling_missed}

-- no holding time is less than the longest use
none_below : (ts : List Task) (g r : ℕ) → NoneHeld ts g r g
none_below ts g r w l h = lt-leb _ w (start_unsolved (hold_need ts g r) g (need_from ts g r) w l h)

-- a lock whose longest use is no smaller
module _ (ts : List Task) (g g' : ℕ) (u : g ≤ g') where
  none_longer : (r s : ℕ) → NoneHeld ts g r s → NoneHeld ts g' r s
  none_longer r s none w l h = lt-leb _ w (omega (arith, leb-false _ w (none w l h)))

  missed_longer : (r most most' : ℕ) → most' ≤ most → hold_up_to ts g r most ≡ None → hold_up_to ts g' r most' ≡ None
  unfolding hold_up_to
  missed_longer r most most' d q =
      (none_iff _ most').1 (λ v p h. none_longer r (most + 1) (λ w l k. (none_iff _ most).0 q w l (omega arith)) v p (omega arith))

  pub searched_longer : (most most' r r' c w : ℕ) → most' ≤ most → r ≤ r' → SearchedTo ts g most r c w → SearchedTo ts g' most' r' c w
  searched_longer most most' r r' c w d a s = record {
    missed = λ k l h. missed_longer k most most' d (s.missed k (omega arith) h);
    some = s.some;
    none = none_longer c w s.none;
  }

-- the search of one lock
module _ (ts : List Task) (g most r : ℕ) where
  pub searched_larger : (c w : ℕ) → SearchedTo ts g most r c w → SearchedTo ts g most r c (max g w)
  searched_larger c w s = record { missed = s.missed; some = omega (arith, s.some); none = λ v l h. at v l h (dec_lt v w) }
    where
      at : (v : ℕ) → 1 ≤ v → v < max g w → Dec (v < w) → leb (g + demand_in (higher c ts) v) v ≡ false
      at v l h (yes d) = s.none v l d
      at v l h (no d) = none_below ts g c v l (omega arith)

  pub searched_found : (c v w : ℕ) → SearchedTo ts g most r c v → hold_up_to ts g c most ≡ Some w → SearchedTo ts g most r c w
  unfolding hold_up_to
  searched_found c v w s q =
      let l = least_found _ most 1 w q in
      record { missed = s.missed; some = l.from; none = l.before }

-- what the search answers, with the smaller of the limit and x
module _ (ts : List Task) (g limit x most r c w : ℕ) (m : most ≡ min limit x) (s : SearchedTo ts g most r c w) where
  searched_none : NoneIn (held_within ts g limit x) r c
  unfolding hold_up_to
  searched_none v l h = missed_within_both _ limit x (ap (hold_up_to ts g v) (sym m) ∙ s.missed v l h)

  pub searched_held : (v : ℕ) → r ≤ c → c ≤ length ts → hold_up_to ts g c most ≡ Some v → lowest_held ts g limit x r ≡ Some (record { ceiling = c; time = v })
  searched_held v l h q = ceiling_found ts g limit x r c v searched_none l h (ap (hold_up_to ts g c) (sym m) ∙ q)

  pub searched_out : length ts < c → lowest_held ts g limit x r ≡ None
  searched_out h = ceiling_missed ts g limit x r c searched_none h
