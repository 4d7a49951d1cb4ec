-- The kept pairs of a part, from what the reader hands on.
-- Assumes nothing.
use Prim.Native.Nat.{ℕ, ◌-◌, ◌≤◌}
use mathlib.Core.Path.{◌≡◌, refl, ap, ◌∙◌}
use mathlib.Core.Bool.{true, false, ◌&&◌}
use mathlib.Core.List.{List}
use lib.Dec.{leb}
use lib.ListN.{length, get_or}
use Rattle.least.proofs.Lists.{empty_none, some_filled}
use Rattle.refusal.specs.declared.Refusal.{Refusal}
use Rattle.refusal.specs.declared.Refusal.TheVariants.{BadHandSet, NoBudget}
use Rattle.refusal.specs.Questions.{when_answered, when_done, first_no}
use Rattle.refusal.specs.Questions.Answer.{answered, refused}
use Rattle.task_set.specs.Code.Partition.{partition_of}
use Rattle.candidates.specs.declared.Pair.{Pair}
use Rattle.candidates.specs.Candidates.{kept_list}
use Rattle.plan_file.specs.Numbers.{PlanPart, parts_of}
use Rattle.reader.specs.declared.PartRead.{PartRead}
use Rattle.reader.specs.declared.PlanFile.{PlanFile}
use Rattle.reader.specs.Code.Reader.{part_of, parts_in, ReadIs}
use Rattle.reader.proofs.Handed.{part_number}
use Rattle.answers.specs.Answers.{kept_at, candidates_of}
use Rattle.inquiries.proofs.Named.{number_is}

pub candidates_refused : (s : List ℕ) (k : ℕ) (r : Refusal) → parts_of s ≡ refused r → candidates_of s k ≡ refused r
unfolding candidates_of when_answered
candidates_refused s k r e = rw e refl

module _ (s : List ℕ) (k : ℕ) (f : PlanFile) (is : ReadIs s f) where
  pub candidates_not_given : leb 1 k && leb k f.count ≡ false → candidates_of s k ≡ refused (BadHandSet 0)
  unfolding candidates_of when_answered when_done first_no
  candidates_not_given e = rw is.value (simp (number_is s k f is ∙ e))

  module _ (d : PartRead) (given : leb 1 k && leb k f.count ≡ true) (a : 1 ≤ k) (b : k ≤ f.count) where
    -- the list that the answer speaks of
    abbrev list : List Pair
    list = kept_list (partition_of (get_or f.parts (k - 1) d).part)

    list_is : kept_at (parts_in s f) k ≡ list
    unfolding part_of
    list_is = ap (λ (p : PlanPart). kept_list p.numbers) (part_number s f is k d a b)

    pub candidates_none : length list ≡ 0 → candidates_of s k ≡ refused (NoBudget k)
    unfolding candidates_of when_answered when_done first_no
    candidates_none e = rw is.value (simp (number_is s k f is ∙ given, list_is, empty_none list e))

    pub candidates_given : 1 ≤ length list → candidates_of s k ≡ answered list
    unfolding candidates_of when_answered when_done first_no
    candidates_given e = rw is.value (simp (number_is s k f is ∙ given, list_is, some_filled list e))
