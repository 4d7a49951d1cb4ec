-- Fractions, compared by cross multiplication; nothing is reduced.
--   frac l t                == l/t
--   no_bound                == 1/0, above every fraction with a positive denominator
--   a ⊑ b                   == a is no greater than b
--   a ⊏ b                   == a is smaller than b
--   less a b                == the test a ⊏ b;  at_most a b == the test a ⊑ b
--   lesser a b, greater a b == the lesser, the greater of two; the first where they are equal
--   least_over n g          == the least of g 1, .., g n, the first that reaches it; 1/0 where there is none
--   greatest_of xs          == the greatest of some fractions, the first that reaches it; 0/1 where there is none
-- Assumes nothing.
use Rattle.std.specs.Prelude.{ℕ, zero, suc, ◌*◌, ◌≤◌, ◌<◌, Bool, cond, List, [], ◌∷◌, leb, ltb}
use Rattle.least.specs.declared.Frac.{Frac}

abbrev pub frac : ℕ → ℕ → Frac
frac l t = record { num = l; den = t }

abbrev pub no_bound : Frac
no_bound = frac 1 0

infix 50 ◌⊑◌
infix 50 ◌⊏◌
pub record ◌⊑◌ (a b : Frac) : Type 0 where
  pub cross : a.num * b.den ≤ b.num * a.den

pub record ◌⊏◌ (a b : Frac) : Type 0 where
  pub cross : a.num * b.den < b.num * a.den

abbrev pub less : Frac → Frac → Bool
less a b = ltb (a.num * b.den) (b.num * a.den)

abbrev pub at_most : Frac → Frac → Bool
at_most a b = leb (a.num * b.den) (b.num * a.den)

unfoldable pub lesser : Frac → Frac → Frac
lesser a b = cond (less b a) b a

unfoldable pub greater : Frac → Frac → Frac
greater a b = cond (less a b) b a

unfoldable pub least_over : ℕ → (ℕ → Frac) → Frac
least_over zero g = no_bound
least_over (suc n) g = lesser (least_over n g) (g (suc n))

unfoldable pub greatest_of : List Frac → Frac
greatest_of [] = frac 0 1
greatest_of (x ∷ xs) = greater x (greatest_of xs)
