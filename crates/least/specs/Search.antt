-- The least number with a property, by plain search through a range.
--   least_from test a n == the first of the n numbers a, a + 1, .. that passes the test
--   least_up_to test e  == the least w, 1 ≤ w ≤ e, that passes the test
--   any_up_to test e    == some t, 1 ≤ t ≤ e, passes the test
--   number_or0 l        == the number that a search found, 0 where it found none
-- Assumes nothing.
use Rattle.std.specs.Prelude.{ℕ, zero, suc, Bool, true, false, Option, Some, None}

unfoldable pub least_from : (ℕ → Bool) → ℕ → ℕ → Option ℕ
least_from test a zero = None
least_from test a (suc n) = elim (test a) [ true ↦ Some a | false ↦ least_from test (suc a) n ]

unfoldable pub any_from : (ℕ → Bool) → ℕ → ℕ → Bool
any_from test a zero = false
any_from test a (suc n) = elim (test a) [ true ↦ true | false ↦ any_from test (suc a) n ]

abbrev pub least_up_to : (ℕ → Bool) → ℕ → Option ℕ
least_up_to test e = least_from test 1 e

abbrev pub any_up_to : (ℕ → Bool) → ℕ → Bool
any_up_to test e = any_from test 1 e

unfoldable pub number_or0 : Option ℕ → ℕ
number_or0 (Some w) = w
number_or0 None = 0
