-- `ceil_of z d` is the division rounded up, of signed numbers too: the least c with z ≤ c × d.
-- Assumes nothing.
use Prim.Native.Nat.{ℕ, zero, suc, ◌*◌, ◌/◌, ◌≤◌}
use native.Mathlib.Nat.{zero-mul, zero-div, suc-mul, div-mul-le_self, le-div_iff_mul-le}
use native.Mathlib.Omega.{arith}
use mathlib.Core.Path.{◌≡◌, refl}
use lib.Dec.{leb→le, le→leb}
use lib.IntN.{ℤ, pos, negsuc, neg_ℤ, ◌*ℤ◌}
use lib.Signed.{◌≤ℤ◌}
use borrow.Author.Tests.{lt-leb}
use Rattle.least.specs.Round.{ceil_div}
use Rattle.least.proofs.Round.{ceil_covers, ceil_least}
use Rattle.supply.specs.Signed.{ceil_of}
use Rattle.supply.proofs.SupplySigned.{pos_minus}

neg_le : (a b : ℕ) → b ≤ a → neg_ℤ (pos a) ≤ℤ neg_ℤ (pos b)
neg_le zero zero l = record { le = tt }
neg_le zero (suc b) l = absurd (omega arith)
neg_le (suc a) zero l = record { le = tt }
neg_le (suc a) (suc b) l = record { le = le→leb b a (omega arith) }

le_neg : (a b : ℕ) → neg_ℤ (pos a) ≤ℤ neg_ℤ (pos b) → b ≤ a
le_neg a zero l = omega arith
le_neg zero (suc b) l = absurd l.le
le_neg (suc a) (suc b) l = omega (arith, leb→le b a l.le)

pub neg_le_pos : (a n : ℕ) → neg_ℤ (pos a) ≤ℤ pos n
neg_le_pos zero n = record { le = le→leb 0 n (omega arith) }
neg_le_pos (suc a) n = record { le = tt }

pos_above_neg : (k x : ℕ) → 1 ≤ x → pos k ≤ℤ neg_ℤ (pos x) → ⊥
pos_above_neg k zero h l = omega arith
pos_above_neg k (suc x) h l = l.le

neg_times : (q d : ℕ) → neg_ℤ (pos q) *ℤ pos d ≡ neg_ℤ (pos (q * d))
neg_times zero d = rw (zero-mul d)
neg_times (suc q) d = refl

-- above 0 it is the division of two naturals
ceil_pos_is : (n d : ℕ) → 1 ≤ d → ceil_of (pos (suc n)) (pos d) ≡ pos (ceil_div (suc n) d)
unfolding ceil_of ceil_div
ceil_pos_is n d h = rw (lt-leb (suc n) 0 (omega arith), pos_minus d 1 h)

ceil_zero_is : (d : ℕ) → ceil_of (pos 0) (pos d) ≡ pos 0
unfolding ceil_of
ceil_zero_is d = rw (zero-div d)

ceil_neg_is : (m d : ℕ) → ceil_of (negsuc m) (pos d) ≡ neg_ℤ (pos (suc m / d))
unfolding ceil_of
ceil_neg_is m d = refl

pub ceil_signed_covers : (z : ℤ) (d : ℕ) → 1 ≤ d → z ≤ℤ (ceil_of z (pos d) *ℤ pos d)
ceil_signed_covers (pos zero) d h = rw (ceil_zero_is d) (record { le = le→leb 0 (0 * d) (omega arith) })
ceil_signed_covers (pos (suc n)) d h = rw (ceil_pos_is n d h) (record { le = le→leb (suc n) (ceil_div (suc n) d * d) (ceil_covers (suc n) d h) })
ceil_signed_covers (negsuc m) d h = rw (ceil_neg_is m d, neg_times (suc m / d) d) (neg_le (suc m) (suc m / d * d) (div-mul-le_self (suc m) d))

pub ceil_signed_least : (z c : ℤ) (d : ℕ) → 1 ≤ d → z ≤ℤ (c *ℤ pos d) → ceil_of z (pos d) ≤ℤ c
ceil_signed_least (pos zero) (pos n) d h l = rw (ceil_zero_is d) (record { le = le→leb 0 n (omega arith) })
ceil_signed_least (pos (suc m)) (pos n) d h l = rw (ceil_pos_is m d h) (record { le = le→leb (ceil_div (suc m) d) n (ceil_least (suc m) d n h (leb→le (suc m) (n * d) l.le)) })
ceil_signed_least (negsuc m) (pos n) d h l = rw (ceil_neg_is m d) (neg_le_pos (suc m / d) n)
ceil_signed_least (pos k) (negsuc n) d h l = absurd (pos_above_neg k (suc n * d) (omega (arith, suc-mul n d)) l)
ceil_signed_least (negsuc m) (negsuc n) d h l = rw (ceil_neg_is m d) (neg_le (suc m / d) (suc n) ((le-div_iff_mul-le {k = d} {x = suc n} {y = suc m} h).1 (le_neg (suc m) (suc n * d) l)))
