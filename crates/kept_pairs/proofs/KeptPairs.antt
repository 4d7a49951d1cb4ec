-- A part with n tasks has at most n kept pairs.
-- Assumes nothing.
use Prim.Native.Nat.{ℕ, ◌≤◌}
use native.Mathlib.Omega.{arith}
use mathlib.Core.Path.{◌≡◌, ap, ◌∙◌, subst}
use mathlib.Core.List.{List, []}
use lib.ListN.{length}
use Rattle.least.proofs.Lists.{nth_member}
use Rattle.least.proofs.Pad.{length_pad}
use Rattle.refusal.specs.Limits.{kept_limit}
use Rattle.refusal.specs.Questions.{Answer}
use Rattle.refusal.specs.Questions.Answer.{answered, refused}
use Rattle.task_set.specs.Partition.{Partition}
use Rattle.candidates.specs.declared.Pair.{Pair}
use Rattle.candidates.specs.declared.Kept.{Kept}
use Rattle.candidates.specs.Candidates.{pair, kept_list, kept_answer}
use Rattle.candidates.proofs.Few.{kept_n, from_n}
use Rattle.plan_file.specs.Numbers.{PlanPart, parts_of, part_at, no_plan_part}
use Rattle.plan_file.proofs.Reading.{parts_answered_iff}
use Rattle.plan_file.proofs.PlanParts.{FinePlanPart, parts_fine}
use Rattle.answers.specs.Answers.{candidates_of, candidate_list}
use Rattle.planner.specs.Refusals.{PartOf}
use Rattle.planner.proofs.Local.{candidates_kept}
use Rattle.kept_pairs.specs.KeptPairs.{KeptPairs}
use Rattle.kept_pairs.proofs.Sharp.{stairs_count, reached}
use Rattle.kept_pairs.proofs.Full.{file, first_part, first_part_lem, first_stairs}

-- a part of a readable file
module _ (s : List ℕ) (k : ℕ) (p : PlanPart) (d : PartOf s k p) where
  reads : parts_of s ≡ answered d.parts
  reads = (parts_answered_iff s d.parts).1 d.readable

  fine : FinePlanPart p
  fine = subst FinePlanPart d.is (parts_fine s d.parts reads (part_at d.parts k) (nth_member no_plan_part k d.parts d.from d.to))

  each_part : length (kept_list p.numbers) ≤ length p.numbers.tasks
  each_part = kept_n p.numbers fine.some_task

  kept_is : (candidate_list (candidates_of s k)).kept ≡ kept_answer (kept_list p.numbers)
  kept_is = candidates_kept s k d.parts reads d.from d.to ∙ ap (λ (q : PlanPart). kept_answer (kept_list q.numbers)) d.is

  counted : (candidate_list (candidates_of s k)).kept.count ≤ length p.numbers.tasks
  unfolding kept_answer
  counted = omega (arith, ap (λ (a : Kept). a.count) kept_is, each_part)

places : (a : Answer (List Pair)) → length (candidate_list a).kept.pairs ≡ 16
unfolding candidate_list kept_answer
places (answered cs) = length_pad kept_limit (pair 0 0) cs
places (refused r) = length_pad kept_limit (pair 0 0) []

-- a file with a part that has 16
all_taken : (candidate_list (candidates_of file 1)).kept.count ≡ 16
unfolding kept_answer
all_taken = ap (λ (a : Kept). a.count) (kept_is file 1 first_part first_part_lem) ∙ ap (λ (v : Partition). length (kept_list v)) first_stairs ∙ stairs_count 16 (omega arith)

pub kept_pairs : KeptPairs
kept_pairs = record {
  at_most_n = kept_n;
  on_the_way = from_n;
  reached = reached;
  some_task = λ s k p d. (fine s k p d).some_task;
  few_tasks = λ s k p d. (fine s k p d).few_tasks;
  each_part = each_part;
  counted = counted;
  places = λ s k. places (candidates_of s k);
  all_taken = (file, 1, all_taken);
}
