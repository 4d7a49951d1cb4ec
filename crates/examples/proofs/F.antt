-- Example F: the part of table 1 of document 001, doubled, in a file with a second part that names both of its locks, one of them, or none. Each of its settings
-- is tried; that a budget passes and the one below does not shows which is least.
-- Assumes nothing.
use Rattle.std.specs.Prelude.{Some}
use Prim.Native.Nat.{ℕ, ◌-◌, ◌+◌}
use mathlib.Core.Path.{◌≡◌, refl, sym, ap, ap₂, ◌∙◌}
use mathlib.Core.List.{List, [], ◌∷◌, ◌++◌, map}
use mathlib.Core.Bool.{Bool, true, false, not, ◌&&◌, false≢true}
use borrow.Author.Tests.{eqb-true, ltb-true, not-true}
use lib.Dec.{eqb, ltb}
use Rattle.least.specs.Lists.{every, joined, is_empty, nth_or}
use Rattle.least.proofs.Lists.{and_iff, every_pass, every_fail}
use Rattle.refusal.specs.Questions.{first_no, when_answered, when_done}
use Rattle.refusal.specs.Questions.Answer.{answered}
use Rattle.task_set.specs.declared.Task.{Task}
use Rattle.task_set.specs.Blocking.{Setting}
use Rattle.task_set.specs.Partition.{Partition}
use Rattle.holding.specs.Holding.{permitted, holding_time_of}
use Rattle.budget.specs.Budget.{passes, least_budget}
use Rattle.budget.proofs.Passing.{budget_after}
use Rattle.candidates.specs.declared.Pair.{Pair}
use Rattle.candidates.specs.Candidates.{pair, with_ceiling, settings, candidate_of, candidates_in, kept_among, kept_list}
use Rattle.plan_file.specs.Numbers.{parts_of, part_at}
use Rattle.answers.specs.Answers.{candidates_of}
use Rattle.text.specs.Bytes.{bytes}
use Rattle.examples.specs.Files.{file_f, file_f_one_named, file_f_alone}
use Rattle.examples.specs.Table.{parts_in}
use Rattle.examples.proofs.Opened.{opened}

abbrev task : ℕ → ℕ → List ℕ → Task
task T C us = record { separation = T; cost = C; deadline = T; uses = us }

-- the six tasks; the locks are r2 and r1, in order of first mention
abbrev pub six : List Task
six =
    task 1500 16 (8 ∷ 0 ∷ [])
    ∷ task 1300 100 (0 ∷ 10 ∷ [])
    ∷ task 1200 20 (0 ∷ 0 ∷ [])
    ∷ task 1000 70 (0 ∷ 20 ∷ [])
    ∷ task 320 2 (0 ∷ 0 ∷ [])
    ∷ task 300 4 (0 ∷ 0 ∷ [])
    ∷ []

-- the part, where r2 and r1 are named by another part or not
abbrev pub F : Bool → Bool → Partition
F r2 r1 = record { period = 250; tasks = six; locks = 2; shared = r2 ∷ r1 ∷ [] }

-- a setting, by the ceilings of r1 and r2, and the pair (Q,X) that is to be its candidate
record Tried : Type 0 where
  r1 : ℕ
  r2 : ℕ
  found : Pair

abbrev at : ℕ → ℕ → ℕ → ℕ → Tried
at r1 r2 Q X = record { r1 = r1; r2 = r2; found = pair Q X }

abbrev setting_of : Tried → Setting
setting_of t = with_ceiling (with_ceiling (λ l. 0) 1 t.r2) 2 t.r1

module _ (v : Partition) where
  -- permitted, with that X; the budget passes, the one below does not
  unfoldable is_right : Tried → Bool
  is_right t =
      let σ = setting_of t in
      let below = t.found.budget - 1 in
      permitted v σ && (eqb (holding_time_of v σ) t.found.holding && (eqb (below + 1) t.found.budget && (ltb below v.period && (not (passes v σ below) && passes v σ (below + 1)))))

  right_candidate : (t : Tried) → is_right t ≡ true → candidate_of v (setting_of t) ≡ t.found ∷ []
  unfolding is_right candidate_of
  right_candidate t e =
      let σ = setting_of t in
      let below = t.found.budget - 1 in
      let fails = not (passes v σ below) in
      let succeeds = passes v σ (below + 1) in
      let p : (permitted v σ ≡ true) × _ = (and_iff (permitted v σ) _).0 e in
      let x = (and_iff (eqb (holding_time_of v σ) t.found.holding) (eqb (below + 1) t.found.budget && (ltb below v.period && (fails && succeeds)))).0 p.1 in
      let b = (and_iff (eqb (below + 1) t.found.budget) (ltb below v.period && (fails && succeeds))).0 x.1 in
      let l = (and_iff (ltb below v.period) (fails && succeeds)).0 b.1 in
      let f = (and_iff fails succeeds).0 l.1 in
      let least : least_budget v σ ≡ Some (below + 1) = budget_after v σ below (ltb-true below v.period l.0) (not-true (passes v σ below) f.0) f.1 in
      rw (p.0, least) (ap₂ (λ (Q X : ℕ). pair Q X ∷ []) (eqb-true (below + 1) t.found.budget b.0) (eqb-true (holding_time_of v σ) t.found.holding x.0))

  right_candidates : (ts : List Tried) → every is_right ts ≡ true → joined (map (candidate_of v) (map setting_of ts)) ≡ map (λ t. t.found) ts
  unfolding joined
  right_candidates [] e = refl
  right_candidates (t ∷ ts) e = go (is_right t) refl (right_candidates ts)
    where
      go : (b : Bool) → is_right t ≡ b → (every is_right ts ≡ true → joined (map (candidate_of v) (map setting_of ts)) ≡ map (λ t. t.found) ts)
          → candidate_of v (setting_of t) ++ joined (map (candidate_of v) (map setting_of ts)) ≡ t.found ∷ map (λ t. t.found) ts
      go true h ih = ap₂ ◌++◌ (right_candidate t h) (ih (sym (every_pass is_right t ts h) ∙ e))
      go false h ih = absurd (false≢true (sym (every_fail is_right t ts h) ∙ e))

  -- where these are all settings
  kept_of_tried : (ts : List Tried) → settings v ≡ map setting_of ts → every is_right ts ≡ true → kept_list v ≡ kept_among (map (λ t. t.found) ts)
  unfolding kept_list candidates_in
  kept_of_tried ts all right = ap kept_among (ap (λ (l : List Setting). joined (map (candidate_of v) l)) all ∙ right_candidates ts right)

-- both locks are shared
abbrev eighteen : List Tried
eighteen =
    at 4 1 102 204 ∷ at 4 2 102 104 ∷ at 4 3 102 84 ∷ at 4 4 102 26 ∷ at 4 5 102 26 ∷ at 4 6 106 26
    ∷ at 5 1 105 204 ∷ at 5 2 105 104 ∷ at 5 3 105 84 ∷ at 5 4 105 24 ∷ at 5 5 105 24 ∷ at 5 6 106 24
    ∷ at 6 1 112 204 ∷ at 6 2 112 104 ∷ at 6 3 112 84 ∷ at 6 4 112 20 ∷ at 6 5 112 20 ∷ at 6 6 112 20
    ∷ []

all_eighteen : settings (F true true) ≡ map setting_of eighteen
unfolding opened
all_eighteen = refl

right_eighteen : every (is_right (F true true)) eighteen ≡ true
unfolding opened is_right
right_eighteen = refl

kept_eighteen : kept_among (map (λ t. t.found) eighteen) ≡ pair 102 26 ∷ pair 105 24 ∷ pair 112 20 ∷ []
unfolding opened
kept_eighteen = refl

read-F : parts_of file_f ≡ answered (record { name = bytes "s"; locks = bytes "r2" ∷ bytes "r1" ∷ []; numbers = F true true } ∷ part_at (parts_in file_f) 2 ∷ [])
unfolding opened
read-F = refl

pub keeps-F : candidates_of file_f 1 ≡ answered (pair 102 26 ∷ pair 105 24 ∷ pair 112 20 ∷ [])
unfolding candidates_of when_answered when_done first_no is_empty nth_or
keeps-F = rw (read-F, kept_of_tried (F true true) eighteen all_eighteen right_eighteen, kept_eighteen) refl

-- r1 is private: it stays at its lowest ceiling, and X is that of r2
abbrev of_r2 : List Tried
of_r2 = at 4 1 102 204 ∷ at 4 2 102 104 ∷ at 4 3 102 84 ∷ at 4 4 102 14 ∷ at 4 5 102 12 ∷ at 4 6 106 8 ∷ []

all_of_r2 : settings (F true false) ≡ map setting_of of_r2
unfolding opened
all_of_r2 = refl

right_of_r2 : every (is_right (F true false)) of_r2 ≡ true
unfolding opened is_right
right_of_r2 = refl

kept_of_r2 : kept_among (map (λ t. t.found) of_r2) ≡ pair 106 8 ∷ []
unfolding opened
kept_of_r2 = refl

read_f_one_named : parts_of file_f_one_named ≡ answered (record { name = bytes "s"; locks = bytes "r2" ∷ bytes "r1" ∷ []; numbers = F true false } ∷ part_at (parts_in file_f_one_named) 2 ∷ [])
unfolding opened
read_f_one_named = refl

pub keeps_f_one_named : candidates_of file_f_one_named 1 ≡ answered (pair 106 8 ∷ [])
unfolding candidates_of when_answered when_done first_no is_empty nth_or
keeps_f_one_named = rw (read_f_one_named, kept_of_tried (F true false) of_r2 all_of_r2 right_of_r2, kept_of_r2) refl

-- both are private: there is one setting
abbrev the_one : List Tried
the_one = at 4 1 102 0 ∷ []

all_the_one : settings (F false false) ≡ map setting_of the_one
unfolding opened
all_the_one = refl

right_the_one : every (is_right (F false false)) the_one ≡ true
unfolding opened is_right
right_the_one = refl

kept_the_one : kept_among (map (λ t. t.found) the_one) ≡ pair 102 0 ∷ []
unfolding opened
kept_the_one = refl

read-F-alone : parts_of file_f_alone ≡ answered (record { name = bytes "s"; locks = bytes "r2" ∷ bytes "r1" ∷ []; numbers = F false false } ∷ [])
unfolding opened
read-F-alone = refl

pub keeps-F-alone : candidates_of file_f_alone 1 ≡ answered (pair 102 0 ∷ [])
unfolding candidates_of when_answered when_done first_no is_empty nth_or
keeps-F-alone = rw (read-F-alone, kept_of_tried (F false false) the_one all_the_one right_the_one, kept_the_one) refl
