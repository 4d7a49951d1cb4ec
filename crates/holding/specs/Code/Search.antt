-- The searches for a holding time, and for the lowest ceiling that is not held too long.
--   hold_up_to ts g r limit    == the least w, 1 ≤ w ≤ limit, with g + Σ_{k>r} ⌈w/T_k⌉×C_k ≤ w
--   NoneHeld ts g r s          == no w, 1 ≤ w < s, has g + Σ_{k>r} ⌈w/T_k⌉×C_k ≤ w: the holding time is no less than s
--   SearchedTo ts g most r c w == the holding time is more than `most` at each ceiling from r on that is below c, and no less than w at c
--   HintIs ts h                == what the hint h says is so
--   BeginIs ts g most r b      == a search from r on may begin at b
--   lowest_held ts g limit x r == the lowest ceiling, from r to n, at which the holding time is at most the limit and x, with that time
-- Assumes nothing.
use Rattle.std.specs.Prelude.{ℕ, suc, ◌+◌, ◌-◌, ◌≤◌, ◌<◌, ◌≡◌, false, List, leb, length, Option, Some, None}
use Rattle.least.specs.Search.{least_from, least_up_to, number_or0}
use Rattle.task_set.specs.declared.Task.{Task}
use Rattle.task_set.specs.Tasks.{higher, demand_in}
use Rattle.holding.specs.declared.Held.{Held}
use Rattle.holding.specs.declared.Hint.{Hint}
use Rattle.holding.specs.Holding.{within}

unfoldable pub hold_up_to : List Task → ℕ → ℕ → ℕ → Option ℕ
hold_up_to ts g r limit = least_up_to (λ w. leb (g + demand_in (higher r ts) w) w) limit

abbrev pub NoneHeld : List Task → ℕ → ℕ → ℕ → Type 0
NoneHeld ts g r s = (w : ℕ) → 1 ≤ w → w < s → leb (g + demand_in (higher r ts) w) w ≡ false

pub record SearchedTo (ts : List Task) (g most r c w : ℕ) : Type 0 where
  pub missed : (k : ℕ) → r ≤ k → k < c → hold_up_to ts g k most ≡ None
  pub some : 1 ≤ w
  pub none : NoneHeld ts g c w

abbrev pub HintIs : List Task → Hint → Type 0
HintIs ts h = SearchedTo ts h.longest h.most h.from h.ceiling h.time

abbrev pub BeginIs : List Task → ℕ → ℕ → ℕ → Held → Type 0
BeginIs ts g most r b = (r ≤ b.ceiling) × SearchedTo ts g most r b.ceiling b.time

-- a ceiling that was found, with its holding time
abbrev pub with_time : List Task → ℕ → ℕ → Option ℕ → Option Held
with_time ts g limit (Some r) = Some (record { ceiling = r; time = number_or0 (hold_up_to ts g r limit) })
with_time ts g limit None = None

unfoldable pub lowest_held : List Task → ℕ → ℕ → ℕ → ℕ → Option Held
lowest_held ts g limit x r = with_time ts g limit (least_from (λ k. within x (hold_up_to ts g k limit)) r (suc (length ts) - r))
