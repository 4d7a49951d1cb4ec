-- A part has tasks 1 to n, lowest priority first: `ts` is the list of them, and n its length. It has locks 1 to m, in order of first mention.
--   held_for l task        == c: how long the task holds lock l at most; 0 where it does not use it
--   uses l task            == the task uses lock l
--   higher r ts            == the tasks k > r
--   demand_in ts w         == Σ ⌈w/T⌉×C over these tasks
--   lowest_ceiling l ts    == the greatest task number that uses lock l
--   greatest_held l ts     == g: the greatest c of lock l in this part
--   smallest_deadline l ts == the smallest deadline among the users of lock l
-- Assumes nothing.
use Rattle.std.specs.Prelude.{ℕ, ◌*◌, Bool, List, map, leb, drop}
use Rattle.least.specs.Round.{ceil_div}
use Rattle.least.specs.Lists.{sum, greatest, smallest, nth_or, those, numbers_of}
use Rattle.task_set.specs.declared.Task.{Task}

unfoldable pub held_for : ℕ → Task → ℕ
held_for l task = nth_or 0 l task.uses

abbrev pub uses : ℕ → Task → Bool
uses l task = leb 1 (held_for l task)

abbrev pub higher : ℕ → List Task → List Task
higher r ts = drop r ts

unfoldable pub demand_in : List Task → ℕ → ℕ
demand_in ts w = sum (map (λ k. ceil_div w k.separation * k.cost) ts)

unfoldable pub lowest_ceiling : ℕ → List Task → ℕ
lowest_ceiling l ts = greatest (numbers_of (uses l) ts)

unfoldable pub greatest_held : ℕ → List Task → ℕ
greatest_held l ts = greatest (map (held_for l) ts)

unfoldable pub smallest_deadline : ℕ → List Task → ℕ
smallest_deadline l ts = smallest (map (λ k. k.deadline) (those (uses l) ts))
