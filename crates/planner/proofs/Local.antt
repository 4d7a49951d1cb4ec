-- In two files with the same lines for one part, and with the same of its locks named by another part, that part's list is the same.
-- Assumes nothing.
use Prim.Native.Nat.{ℕ, ◌≤◌}
use mathlib.Core.Path.{◌≡◌, refl, sym, ap, ◌∙◌}
use mathlib.Core.Bool.{not}
use mathlib.Core.Logic.{◌↔◌}
use mathlib.Core.List.{List, [], ◌∷◌, Memᴰ}
use borrow.Author.Tests.{le-leb}
use lib.ListN.{length}
use Rattle.least.specs.Lists.{is_empty}
use Rattle.refusal.specs.declared.Refusal.TheVariants.{NoBudget}
use Rattle.refusal.specs.Questions.{ask, first_no, when_answered, when_done}
use Rattle.refusal.specs.Questions.Answer.{answered}
use Rattle.candidates.specs.declared.Pair.{Pair}
use Rattle.candidates.specs.Candidates.{kept_answer, kept_list}
use Rattle.plan_file.specs.PartLines.{lines_of_part}
use Rattle.plan_file.specs.Statement.{NamedByAnother}
use Rattle.plan_file.specs.Numbers.{PlanPart, parts_of, part_at}
use Rattle.plan_file.proofs.Sharing.{part_by_lines_and_names}
use Rattle.answers.specs.Answers.{candidates_of, candidate_list, kept_at}

-- the list of an answer is the part's kept list; where this is empty, the refusal 10 has the empty list too
none_or_kept : (k : ℕ) (kept : List Pair) → (candidate_list (when_done (first_no (ask (NoBudget k) (not (is_empty kept)) ∷ [])) (answered kept))).kept ≡ kept_answer kept
unfolding candidate_list when_done first_no is_empty
none_or_kept k [] = refl
none_or_kept k (c ∷ cs) = refl

pub candidates_kept : (s : List ℕ) (k : ℕ) (ps : List PlanPart) → parts_of s ≡ answered ps → 1 ≤ k → k ≤ length ps → (candidate_list (candidates_of s k)).kept ≡ kept_answer (kept_at ps k)
unfolding candidates_of when_answered first_no
candidates_kept s k ps e a b = rw e (simp (le-leb 1 k a, le-leb k (length ps) b) (none_or_kept k (kept_at ps k)))

-- two readable files with the same lines for one part, whose locks are named by another part in both or in none
module _ (s u : List ℕ) (j k : ℕ) (ps us : List PlanPart) (e : parts_of s ≡ answered ps) (f : parts_of u ≡ answered us) (a : 1 ≤ j) (b : j ≤ length ps) (c : 1 ≤ k) (d : k ≤ length us)
    (same : lines_of_part j s ≡ lines_of_part k u) (named : (name : List ℕ) → Memᴰ name (part_at ps j).locks → NamedByAnother ps j name ↔ NamedByAnother us k name) where
  kept_local : kept_at ps j ≡ kept_at us k
  kept_local = ap (λ (p : PlanPart). kept_list p.numbers) (part_by_lines_and_names s u j k ps us e f a b c d same named)

  pub candidates_local : (candidate_list (candidates_of s j)).kept ≡ (candidate_list (candidates_of u k)).kept
  candidates_local = candidates_kept s j ps e a b ∙ (ap kept_answer kept_local ∙ sym (candidates_kept u k us f c d))
