-- Request M-113: a part with n tasks has at most n kept pairs, so a list of 16 places holds them.
--   KeptPairs == how many pairs are kept, of every part and in every answer
-- Assumes nothing.
use Rattle.std.specs.Prelude.{ℕ, ◌≤◌, ◌≡◌, List, length}
use Rattle.task_set.specs.Partition.{Partition}
use Rattle.candidates.specs.Candidates.{kept_list, kept_from}
use Rattle.plan_file.specs.Numbers.{PlanPart}
use Rattle.answers.specs.Answers.{candidates_of, candidate_list}
use Rattle.planner.specs.Refusals.{PartOf}

pub record KeptPairs : Type 0 where
  -- a part with n tasks has at most n kept pairs: of any numbers, with any locks, shared or private
  pub at_most_n : (v : Partition) → 1 ≤ length v.tasks → length (kept_list v) ≤ length v.tasks
  -- nor are more kept of the candidates with X at least e: this is the list while the search, which begins with the greatest X, has come to e
  pub on_the_way : (v : Partition) (e : ℕ) → 1 ≤ length v.tasks → length (kept_from v e) ≤ length v.tasks
  -- no smaller number would do: for each n some part with n tasks has n of them
  pub reached : (n : ℕ) → 1 ≤ n → (v : Partition) × (length v.tasks ≡ n) × (length (kept_list v) ≡ n)
  -- every part of every readable file has 1 to 16 tasks, and no more kept pairs than tasks
  pub some_task : (s : List ℕ) (k : ℕ) (p : PlanPart) → PartOf s k p → 1 ≤ length p.numbers.tasks
  pub few_tasks : (s : List ℕ) (k : ℕ) (p : PlanPart) → PartOf s k p → length p.numbers.tasks ≤ 16
  pub each_part : (s : List ℕ) (k : ℕ) (p : PlanPart) → PartOf s k p → length (kept_list p.numbers) ≤ length p.numbers.tasks
  -- so the operation counts no more in its answer
  pub counted : (s : List ℕ) (k : ℕ) (p : PlanPart) → PartOf s k p → (candidate_list (candidates_of s k)).kept.count ≤ length p.numbers.tasks
  -- and the list of every answer, refused ones too, has 16 places, which are all needed: of some file they are all taken
  pub places : (s : List ℕ) (k : ℕ) → length (candidate_list (candidates_of s k)).kept.pairs ≡ 16
  pub all_taken : (s : List ℕ) × (k : ℕ) × ((candidate_list (candidates_of s k)).kept.count ≡ 16)
