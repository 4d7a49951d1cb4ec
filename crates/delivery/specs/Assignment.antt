-- Which ticks are given to one part, and how many in a window of ticks (request M-108). In the field an assignment that delivers is a schedule of the
-- periodic resource (P,Q).
--   Assignment     == an assignment of ticks: of each tick, from tick 0 on, whether it is given
--   given A s t    == the number of given ticks in the window of t ticks from s on
--   Delivers P Q A == exactly Q ticks are given in each period nP to (n+1)P, n from 0 on
-- Assumes nothing.
use Rattle.std.specs.Prelude.{ℕ, ◌*◌, ◌≡◌, Bool, length}
use Rattle.least.specs.Lists.{count_from, those}

abbrev pub Assignment : Type 0
Assignment = ℕ → Bool

unfoldable pub given : Assignment → ℕ → ℕ → ℕ
given A s t = length (those A (count_from s t))

abbrev pub Delivers : ℕ → ℕ → Assignment → Type 0
Delivers P Q A = (n : ℕ) → given A (n * P) P ≡ Q
