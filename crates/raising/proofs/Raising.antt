-- The ceilings of the locks, one after another: the locks up to the place j have their next ceiling, the others still the old one.
-- Assumes nothing.
use Rattle.std.specs.Prelude.{Option, Some}
use Prim.Native.Nat.{ℕ, ◌+◌, ◌-◌, max, ◌≤◌, ◌<◌}
use native.Mathlib.Numerals.{add-one}
use native.Mathlib.Omega.{arith}
use native.Mathlib.Decide.{ℕ_discrete}
use mathlib.Core.Path.{◌≡◌, refl, ap, ◌∙◌}
use mathlib.Core.List.{List, map}
use lib.ListN.{length, get_or, set, length-set}
use lib.Seq.{get_or-set_same, get_or-set_other}
use borrow.Author.Tests.{le-leb}
use Rattle.least.specs.Lists.{greatest, count_from}
use Rattle.least.proofs.Greatest.{greatest_from, greatest_past}
use Rattle.task_set.specs.declared.Task.{Task}
use Rattle.task_set.specs.declared.Lock.{Lock}
use Rattle.holding.specs.declared.Held.{Held}
use Rattle.raising.specs.declared.Raised.{Raised}
use Rattle.raising.specs.Code.Raising.{next_ceiling, held_time, AllRaised}

-- a ceiling that was found, with its time
abbrev pub at : ℕ → ℕ → Option Held
at c w = Some (record { ceiling = c; time = w })

-- a lock that is held for at most x keeps its ceiling
pub next_keeps : (ts : List Task) (lock : Lock) (c w x : ℕ) → w ≤ x → next_ceiling ts lock c w x ≡ at c w
unfolding next_ceiling
next_keeps ts lock c w x l = simp (le-leb w x l)

-- the greatest time of the locks from the place j on
abbrev pub times_left : (ℕ → Option Held) → ℕ → ℕ → ℕ
times_left next m j = greatest (map (λ k. held_time (next k)) (count_from j (m - j)))

-- the locks up to the place i have their next ceiling, and X counts those up to j
pub record RaisedTo (next : ℕ → Option Held) (m : ℕ) (ceilings times : List ℕ) (r : Raised) (i j : ℕ) : Type 0 where
  pub room : length r.ceilings ≡ 8
  pub rooms : length r.times ≡ 8
  pub done : (k : ℕ) → k < i → next k ≡ at (get_or r.ceilings k 0) (get_or r.times k 0)
  pub ceilings_left : (k : ℕ) → i ≤ k → get_or r.ceilings k 0 ≡ get_or ceilings k 0
  pub times_left_is : (k : ℕ) → i ≤ k → get_or r.times k 0 ≡ get_or times k 0
  pub most : max r.holding (times_left next m j) ≡ times_left next m 0

module _ (next : ℕ → Option Held) (m : ℕ) (ceilings times : List ℕ) where
  pub raised_start : length ceilings ≡ 8 → length times ≡ 8 → RaisedTo next m ceilings times (record { ceilings = ceilings; times = times; holding = 0 }) 0 0
  raised_start a b =
      record { room = a; rooms = b; done = λ k l. absurd (omega arith); ceilings_left = λ k l. refl; times_left_is = λ k l. refl; most = omega arith }

  module _ (r : Raised) (j : ℕ) where
    pub raised_step : (c w : ℕ) → RaisedTo next m ceilings times r j j → j < 8 → next j ≡ at c w → RaisedTo next m ceilings times (record { ceilings = set r.ceilings j c; times = set r.times j w; holding = r.holding }) (j + 1) j
    raised_step c w s l e = record {
      room = length-set r.ceilings j c ∙ s.room;
      rooms = length-set r.times j w ∙ s.rooms;
      done = λ k h. here k h (ℕ_discrete k j);
      ceilings_left = λ k h. get_or-set_other r.ceilings j k c 0 (λ q. absurd (omega arith)) ∙ s.ceilings_left k (omega arith);
      times_left_is = λ k h. get_or-set_other r.times j k w 0 (λ q. absurd (omega arith)) ∙ s.times_left_is k (omega arith);
      most = s.most;
    }
      where
        here : (k : ℕ) → k < j + 1 → Dec (k ≡ j) → next k ≡ at (get_or (set r.ceilings j c) k 0) (get_or (set r.times j w) k 0)
        here k h (yes q) = rw (q, get_or-set_same r.ceilings j c 0 (omega (arith, s.room)), get_or-set_same r.times j w 0 (omega (arith, s.rooms))) e
        here k h (no q) = rw (get_or-set_other r.ceilings j k c 0 q, get_or-set_other r.times j k w 0 q) (s.done k (omega arith))

    -- a lock that keeps its ceiling
    pub raised_stay : RaisedTo next m ceilings times r j j → next j ≡ at (get_or r.ceilings j 0) (get_or r.times j 0) → RaisedTo next m ceilings times r (j + 1) j
    raised_stay s e = record {
      room = s.room;
      rooms = s.rooms;
      done = λ k h. here k h (ℕ_discrete k j);
      ceilings_left = λ k h. s.ceilings_left k (omega arith);
      times_left_is = λ k h. s.times_left_is k (omega arith);
      most = s.most;
    }
      where
        here : (k : ℕ) → k < j + 1 → Dec (k ≡ j) → next k ≡ at (get_or r.ceilings k 0) (get_or r.times k 0)
        here k h (yes q) = rw q e
        here k h (no q) = s.done k (omega arith)

    -- its time is counted
    pub raised_next : RaisedTo next m ceilings times r (j + 1) j → j < m → RaisedTo next m ceilings times (record { ceilings = r.ceilings; times = r.times; holding = max r.holding (get_or r.times j 0) }) (j + 1) (j + 1)
    raised_next s l = record {
      room = s.room;
      rooms = s.rooms;
      done = s.done;
      ceilings_left = s.ceilings_left;
      times_left_is = s.times_left_is;
      most = rw (add-one j) (omega (arith, s.most, greatest_from (λ k. held_time (next k)) j m l, ap held_time (s.done j (omega arith))));
    }

    pub raised_end : RaisedTo next m ceilings times r j j → m ≤ j → AllRaised next m r
    raised_end s l = record { each = λ k h. s.done k (omega arith); holding = omega (arith, s.most, greatest_past (λ k. held_time (next k)) j m l, ap (λ (n : ℕ). greatest (map (λ k. held_time (next k)) (count_from 0 n))) all) }
      where
        all : m - 0 ≡ m
        all = omega arith
