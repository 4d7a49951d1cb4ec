-- Candidates and the kept list of a partition v: every setting is tried.
--   settings v          == all settings: each lock's ceiling is from its lowest to its highest, which a private lock has for its lowest
--   candidate_of v σ    == a permitted setting's X with its least passing Q; nothing where there is none
--   candidates_in v     == the candidates of all settings
--   is_kept cs c        == no other (Q,X) of the list cs has X no greater and Q+X no greater
--   kept_list v         == the kept candidates, in falling X
--   kept_from v e       == the same of the candidates with X at least e
--   kept_answer cs      == a list as the answer has it: up to kept_limit pairs, zeros in the places behind them, and their count
--   shown_ceiling v x l == the ceiling shown for lock l: the lowest whose w is at most x and permitted; a private lock is listed with its lowest ceiling
-- Assumes nothing.
use Rattle.std.specs.Prelude.{ℕ, zero, suc, ◌+◌, ◌-◌, Bool, cond, not, ◌&&◌, ◌||◌, List, [], ◌∷◌, map, leb, ltb, eqb, length, Option, Some, None}
use Rattle.least.specs.Search.{least_from, number_or0}
use Rattle.least.specs.Lists.{range, every, those, joined, pad}
use Rattle.refusal.specs.Limits.{kept_limit}
use Rattle.task_set.specs.Tasks.{lowest_ceiling}
use Rattle.task_set.specs.Partition.{Partition, is_shared}
use Rattle.task_set.specs.Blocking.{Setting}
use Rattle.holding.specs.Holding.{holding_of, within, highest_ceiling, permitted, holding_time_of}
use Rattle.budget.specs.Budget.{least_budget}
use Rattle.candidates.specs.declared.Pair.{Pair}
use Rattle.candidates.specs.declared.Kept.{Kept}

abbrev pub pair : ℕ → ℕ → Pair
pair Q X = record { budget = Q; holding = X }

-- the setting σ with ceiling r for lock l
abbrev pub with_ceiling : Setting → ℕ → ℕ → Setting
with_ceiling σ l r k = cond (eqb k l) r (σ k)

-- of the locks 1 to m
unfoldable pub settings_to : Partition → ℕ → List Setting
settings_to v zero = (λ l. 0) ∷ []
settings_to v (suc m) =
    joined (map (λ r. map (λ σ. with_ceiling σ (suc m) r) (settings_to v m)) (range (lowest_ceiling (suc m) v.tasks) (highest_ceiling v (suc m))))

abbrev pub settings : Partition → List Setting
settings v = settings_to v v.locks

-- the pair of a least budget with X, if there is such a budget
abbrev pub pair_with : ℕ → Option ℕ → List Pair
pair_with X (Some Q) = pair Q X ∷ []
pair_with X None = []

unfoldable pub candidate_of : Partition → Setting → List Pair
candidate_of v σ = cond (permitted v σ) (pair_with (holding_time_of v σ) (least_budget v σ)) []

unfoldable pub candidates_in : Partition → List Pair
candidates_in v = joined (map (candidate_of v) (settings v))

abbrev pub same_pair : Pair → Pair → Bool
same_pair c d = eqb c.budget d.budget && eqb c.holding d.holding

-- d has X no greater and Q+X no greater than c
abbrev pub no_worse : Pair → Pair → Bool
no_worse d c = leb d.holding c.holding && leb (d.budget + d.holding) (c.budget + c.holding)

unfoldable pub is_kept : List Pair → Pair → Bool
is_kept cs c = every (λ d. same_pair d c || not (no_worse d c)) cs

-- c put into a list in falling X, unless a pair with this X is there
unfoldable pub insert_by_x : Pair → List Pair → List Pair
insert_by_x c [] = c ∷ []
insert_by_x c (d ∷ ds) =
    cond (ltb d.holding c.holding) (c ∷ d ∷ ds)
    (cond (eqb d.holding c.holding) (d ∷ ds) (d ∷ insert_by_x c ds))

unfoldable pub in_falling_x : List Pair → List Pair
in_falling_x [] = []
in_falling_x (c ∷ cs) = insert_by_x c (in_falling_x cs)

unfoldable pub kept_among : List Pair → List Pair
kept_among cs = in_falling_x (those (is_kept cs) cs)

unfoldable pub kept_list : Partition → List Pair
kept_list v = kept_among (candidates_in v)

unfoldable pub kept_from : Partition → ℕ → List Pair
kept_from v e = kept_among (those (λ c. leb e c.holding) (candidates_in v))

unfoldable pub kept_answer : List Pair → Kept
kept_answer cs = record { pairs = pad kept_limit (pair 0 0) cs; count = length cs }

unfoldable pub shown_ceiling : Partition → ℕ → Setting
shown_ceiling v x l =
    let low = lowest_ceiling l v.tasks in
    cond (is_shared v l)
    (number_or0 (least_from (λ r. within x (holding_of v.tasks l r)) low (suc (length v.tasks) - low)))
    low
