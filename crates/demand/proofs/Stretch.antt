-- The end of a stretch of times: as far as the next time of each task, the tasks come as often as before.
--   Within periods s t most k e == e is from t to `most`, and at most the next time of each task from the place s up to k
-- Assumes nothing.
use Prim.Native.Nat.{ℕ, ◌+◌, ◌*◌, ◌≤◌, ◌<◌, min}
use native.Mathlib.Omega.{arith}
use mathlib.Core.Path.{◌≡◌}
use mathlib.Core.List.{List}
use lib.ListN.{get_or}
use borrow.Author.Count.{below_more}
use Rattle.least.specs.Round.{ceil_div}
use Rattle.least.proofs.Round.{ceil_covers, ceil_same}
use Rattle.demand.specs.Code.Demand.{FinePeriods, SameUntil}

-- the next time, from t on, at which the task at the place k comes
abbrev pub next_time : List ℕ → ℕ → ℕ → ℕ
next_time periods t k = ceil_div t (get_or periods k 0) * get_or periods k 0

pub record Within (periods : List ℕ) (s t most k e : ℕ) : Type 0 where
  pub from : t ≤ e
  pub within : e ≤ most
  pub each : (i : ℕ) → s ≤ i → i < k → e ≤ next_time periods t i

module _ (periods : List ℕ) (s t most : ℕ) where
  pub within_next : (k e x m : ℕ) → 1 ≤ get_or periods k 0 → Within periods s t most k e → x ≡ next_time periods t k → m ≡ min e x → Within periods s t most (k + 1) m
  within_next k e x m o w x-is m-is = record {
    from = omega (arith, w.from, ceil_covers t (get_or periods k 0) o);
    within = omega (arith, w.within);
    each = λ i p h. below_more (λ j. s ≤ j → m ≤ next_time periods t j) k (λ j l q. omega (arith, w.each j q l)) (λ q. omega arith) i h p;
  }

  pub within_end : (n k e : ℕ) → FinePeriods periods n → n ≤ k → Within periods s t most k e → SameUntil periods n s t most e
  within_end n k e fine l w = record {
    from = w.from;
    within = w.within;
    same = λ i p h. ceil_same t e (get_or periods i 0) (fine.some i h) w.from (w.each i p (omega arith));
  }
