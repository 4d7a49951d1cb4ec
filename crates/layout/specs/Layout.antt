-- The layout of ticks (request M-109): which part has which tick, for a list of rows, lowest priority first. In the field it is the schedule of periodic
-- servers under fixed priorities, each with its budget only, and the chart is its table over one major cycle.
--   begins P y         == a period of P begins at tick y
--   holder_of due      == the number of the highest part that is still due a tick, 0 where none is
--   served_one k due   == the due ticks once part k has got one
--   after_tick due     == the due ticks once a tick has gone to the highest part still due
--   renewed rows y due == the due ticks with Q in the place of each part whose period begins at tick y
--   due_at rows y      == how many ticks each part is still due at tick y: Q from the start of each of its periods, one less for each tick it got
--   holder_at rows y   == the part that has tick y, 0 where none has it
--   part_ticks rows k  == the ticks of part k
--   chart rows         == the parts that have ticks 0 to 719
--   in_cycle r         == the row's period divides 720
-- All parts start together, at tick 0. A period begins with Q due, whatever was left of the one before.
-- Assumes nothing.
use Rattle.std.specs.Prelude.{ℕ, zero, suc, ◌-◌, ◌%◌, Bool, cond, leb, eqb}
use mathlib.Core.List.{List, [], ◌∷◌, map, zip_with}
use Rattle.least.specs.Lists.{greatest, count_from, numbers_of}
use Rattle.refusal.specs.Limits.{cycle}
use Rattle.delivery.specs.Assignment.{Assignment}
use Rattle.load.specs.declared.Row.{Row}

abbrev pub begins : ℕ → Assignment
begins P y = eqb (y % P) 0

unfoldable pub holder_of : List ℕ → ℕ
holder_of due = greatest (numbers_of (leb 1) due)

unfoldable pub served_one : ℕ → List ℕ → List ℕ
served_one k [] = []
served_one zero (d ∷ ds) = d ∷ ds
served_one (suc zero) (d ∷ ds) = (d - 1) ∷ ds
served_one (suc (suc k)) (d ∷ ds) = d ∷ served_one (suc k) ds

unfoldable pub after_tick : List ℕ → List ℕ
after_tick due = served_one (holder_of due) due

unfoldable pub renewed : List Row → ℕ → List ℕ → List ℕ
renewed rows y due = zip_with (λ r d. cond (begins r.period y) r.budget d) rows due

unfoldable pub due_at : List Row → ℕ → List ℕ
due_at rows zero = map (λ r. r.budget) rows
due_at rows (suc y) = renewed rows (suc y) (after_tick (due_at rows y))

abbrev pub holder_at : List Row → ℕ → ℕ
holder_at rows y = holder_of (due_at rows y)

abbrev pub part_ticks : List Row → ℕ → Assignment
part_ticks rows k y = eqb (holder_at rows y) k

unfoldable pub chart : List Row → List ℕ
chart rows = map (holder_at rows) (count_from 0 cycle)

unfoldable pub in_cycle : Row → Bool
in_cycle r = eqb (cycle % r.period) 0
