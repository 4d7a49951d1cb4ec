-- The system test and the load (document 001, equations 4 to 9) of a list of rows, lowest priority first.
--   demand_of rows t          == Σ ⌈t/P_k⌉×(Q_k+X_k) over these rows
--   held_below lower          == the greatest X of these lower rows; 0 if there are none
--   load_at lower s higher t  == L(t) = Q_s + X_s + Σ ⌈t/P_k⌉×(Q_k+X_k) over higher rows k, plus the greatest X of lower rows
--   row_passes lower s higher == some t, 1 ≤ t ≤ P_s, has L(t) ≤ t
--   passes_system rows        == every row passes
--   bound_of lower s higher   == the least L(t)/t among those t, with the smallest such t; 1/0 where there is no such t
--   bounds_of rows            == the bound of every row
--   load_of rows              == the load: the greatest bound
--   load_row rows             == its row, by number: the first that reaches it
-- A load of 1 is admitted: L(t) ≤ t, not L(t) < t.
-- Assumes nothing.
use Rattle.std.specs.Prelude.{ℕ, ◌+◌, ◌*◌, Bool, cond, List, map, leb}
use Rattle.least.specs.declared.Frac.{Frac}
use Rattle.least.specs.Round.{ceil_div}
use Rattle.least.specs.Search.{any_up_to}
use Rattle.least.specs.Lists.{sum, greatest, along, every_along, first_of}
use Rattle.least.specs.Fraction.{frac, no_bound, at_most, least_over, greatest_of}
use Rattle.load.specs.declared.Row.{Row}

abbrev pub row : ℕ → ℕ → ℕ → Row
row P Q X = record { period = P; budget = Q; holding = X }

-- Q + X: what a row costs
abbrev pub row_sum : Row → ℕ
row_sum r = r.budget + r.holding

unfoldable pub demand_of : List Row → ℕ → ℕ
demand_of rows t = sum (map (λ k. ceil_div t k.period * row_sum k) rows)

abbrev pub held_below : List Row → ℕ
held_below lower = greatest (map (λ k. k.holding) lower)

unfoldable pub load_at : List Row → Row → List Row → ℕ → ℕ
load_at lower s higher t = row_sum s + demand_of higher t + held_below lower

unfoldable pub row_passes : List Row → Row → List Row → Bool
row_passes lower s higher = any_up_to (λ t. leb (load_at lower s higher t) t) s.period

unfoldable pub passes_system : List Row → Bool
passes_system rows = every_along row_passes rows

-- L/t where L ≤ t, else 1/0
unfoldable pub ratio : ℕ → ℕ → Frac
ratio L t = cond (leb L t) (frac L t) no_bound

unfoldable pub bound_of : List Row → Row → List Row → Frac
bound_of lower s higher = least_over s.period (λ t. ratio (load_at lower s higher t) t)

unfoldable pub bounds_of : List Row → List Frac
bounds_of rows = along bound_of rows

unfoldable pub load_of : List Row → Frac
load_of rows = greatest_of (bounds_of rows)

unfoldable pub load_row : List Row → ℕ
load_row rows = first_of (at_most (load_of rows)) (bounds_of rows)
