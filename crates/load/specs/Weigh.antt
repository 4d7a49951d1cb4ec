-- Weighing rows that were set by hand: questions 12 and 13, then every row's bound and the load.
--   RowFits r             == 1 ≤ Q ≤ P ≤ 1,000,000 and X ≤ 1,000,000
--   row_in_range r        == its test
--   weigh_questions rows  == questions 12 (0 for a wrong row count, else the first bad row) and 13 (first row without a time t)
--   weigh_of rows         == the answer, for every list of rows
--   rows_of rows          == the rows that the struct `Rows` holds
--   struct_questions rows == the questions of such a struct: a count above its sixteen places is a wrong row count too
--   weigh_rows rows       == the answer, for every such struct
-- Assumes nothing.
use Rattle.std.specs.Prelude.{◌≤◌, Bool, not, ◌&&◌, List, [], ◌∷◌, leb, length, take}
use Rattle.least.specs.declared.Frac.{Frac}
use Rattle.least.specs.Lists.{every, first_of, pad}
use Rattle.least.specs.Fraction.{frac}
use Rattle.refusal.specs.declared.Outcome.{Outcome}
use Rattle.refusal.specs.declared.Outcome.TheVariants.{Done, Refused}
use Rattle.refusal.specs.declared.Refusal.TheVariants.{BadHandSet, NoTime}
use Rattle.refusal.specs.Limits.{number_limit, row_limit}
use Rattle.refusal.specs.Questions.{Question, ask, first_no}
use Rattle.load.specs.declared.Row.{Row}
use Rattle.load.specs.declared.Rows.{Rows}
use Rattle.load.specs.declared.Weighed.{Weighed}
use Rattle.load.specs.Load.{bounds_of, load_of, load_row}

pub record RowFits (r : Row) : Type 0 where
  pub budget_some : 1 ≤ r.budget
  pub budget_most : r.budget ≤ r.period
  pub period_most : r.period ≤ number_limit
  pub holding_most : r.holding ≤ number_limit

unfoldable pub row_in_range : Row → Bool
row_in_range r = leb 1 r.budget && (leb r.budget r.period && (leb r.period number_limit && leb r.holding number_limit))

-- there is no time t behind the bound 1/0
abbrev pub has_time : Frac → Bool
has_time b = leb 1 b.den

unfoldable pub weigh_questions : List Row → List Question
weigh_questions rows =
    ask (BadHandSet 0) (leb 1 (length rows) && leb (length rows) row_limit)
    ∷ ask (BadHandSet (first_of (λ r. not (row_in_range r)) rows)) (every row_in_range rows)
    ∷ ask (NoTime (first_of (λ b. not (has_time b)) (bounds_of rows))) (every has_time (bounds_of rows))
    ∷ []

unfoldable pub weighed : Outcome → List Row → Weighed
weighed Done rows = record { outcome = Done; bounds = pad row_limit (frac 0 0) (bounds_of rows); load = load_of rows; row = load_row rows }
weighed (Refused r) rows = record { outcome = Refused r; bounds = pad row_limit (frac 0 0) []; load = frac 0 0; row = 0 }

unfoldable pub weigh_of : List Row → Weighed
weigh_of rows = weighed (first_no (weigh_questions rows)) rows

unfoldable pub rows_of : Rows → List Row
rows_of rows = take rows.count rows.rows

unfoldable pub struct_questions : Rows → List Question
struct_questions rows = ask (BadHandSet 0) (leb rows.count row_limit) ∷ weigh_questions (rows_of rows)

unfoldable pub weigh_rows : Rows → Weighed
weigh_rows rows = weighed (first_no (struct_questions rows)) (rows_of rows)
