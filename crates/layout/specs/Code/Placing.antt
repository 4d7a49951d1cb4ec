-- How the chart is made: the highest part first, each part gets the first Q free ticks of each of its periods.
--   free_in bytes y                  == nobody has tick y in these bytes
--   placed_at bytes from Q k i       == the byte of the tick i ticks behind `from` once part k has got the first Q free ticks from `from` on
--   PlacedIn Q k before after        == `after` are the bytes `before` once part k has got the first Q free ticks of them
--   Placed P Q k before after        == the same with the first Q free ticks of each period of P in a cycle
-- Assumes nothing.
use Rattle.std.specs.Prelude.{ℕ, ◌+◌, ◌*◌, ◌/◌, ◌%◌, cond, ◌&&◌, List, eqb, ltb, length, get_or}
use Rattle.least.specs.Code.Stored.{Stored}
use Rattle.refusal.specs.Limits.{cycle}
use Rattle.delivery.specs.Assignment.{Assignment, given}

abbrev pub free_in : List ℕ → Assignment
free_in bytes y = eqb (get_or bytes y 0) 0

unfoldable pub placed_at : List ℕ → ℕ → ℕ → ℕ → ℕ → ℕ
placed_at bytes from Q k i = cond (free_in bytes (from + i) && ltb (given (free_in bytes) from i) Q) k (get_or bytes (from + i) 0)

abbrev pub PlacedIn : ℕ → ℕ → List ℕ → List ℕ → Type 0
PlacedIn Q k before after = Stored (placed_at before 0 Q k) 0 (length before) before after

abbrev pub Placed : ℕ → ℕ → ℕ → List ℕ → List ℕ → Type 0
Placed P Q k before after = Stored (λ y. placed_at before (y / P * P) Q k (y % P)) 0 cycle before after
