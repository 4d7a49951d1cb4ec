-- The supply in signed whole numbers is the one with differences cut off at 0: for 1 ≤ Q ≤ P each difference is of a smaller from a greater
-- number but for t − (P−Q), and where that is below 0, k is 1 either way.
-- Assumes nothing.
use Prim.Native.Nat.{ℕ, zero, suc, ◌+◌, ◌-◌, ◌*◌, ◌/◌, max, ◌≤◌, ◌<◌}
use native.Mathlib.Nat.{sub-add_cancel, mul-le-mul_right, mul-add, zero-div}
use native.Mathlib.Omega.{arith}
use native.Mathlib.Decide.{dec_le, dec_lt}
use mathlib.Core.Path.{◌≡◌, refl, ap, ◌∙◌}
use mathlib.Core.Bool.{Bool, true, false, cond, ◌&&◌}
use lib.Dec.{leb}
use lib.IntN.{pos, negsuc, neg_ℤ, ◌-ℤ◌}
use borrow.Author.Tests.{le-ltb, lt-ltb, le-leb, lt-leb, leb-true}
use Rattle.least.specs.Round.{ceil_div}
use Rattle.least.proofs.Round.{ceil_le}
use Rattle.supply.specs.Supply.{round_of, supply_at, supply_of}
use Rattle.supply.specs.Signed.{larger, ceil_of, signed_round, signed_at, signed_supply, SignsMakeNoDifference}

pub pos_minus : (a b : ℕ) → b ≤ a → pos a -ℤ pos b ≡ pos (a - b)
pos_minus a zero l = ap pos (omega arith)
pos_minus a (suc b) l = rw (le-ltb a (suc b) l)

pub below_minus : (a b : ℕ) → a < b → pos a -ℤ pos b ≡ negsuc (b - suc a)
below_minus a zero l = absurd (omega arith)
below_minus a (suc b) l = rw (lt-ltb a (suc b) l)

pos_cond : (s : Bool) (a b : ℕ) → cond s (pos a) (pos b) ≡ pos (cond s a b)
pos_cond true a b = refl
pos_cond false a b = refl

larger_one : (c : ℕ) → larger (pos c) (pos 1) ≡ pos (max c 1)
larger_one c = go (dec_le c 1)
  where
    go : Dec (c ≤ 1) → larger (pos c) (pos 1) ≡ pos (max c 1)
    go (yes l) = rw (le-leb c 1 l) (ap pos (omega arith))
    go (no l) = rw (lt-leb c 1 (omega arith)) (ap pos (omega arith))

-- the larger of a number up to 0 and 1
one_larger : (m : ℕ) → larger (neg_ℤ (pos m)) (pos 1) ≡ pos 1
one_larger zero = refl
one_larger (suc m) = refl

module _ (P Q t : ℕ) (h : 1 ≤ Q) (b : Q ≤ P) where
  round_past : P - Q < t → signed_round (pos P) (pos Q) (pos t) ≡ pos (round_of P Q t)
  unfolding signed_round ceil_of round_of ceil_div
  round_past l =
      rw (pos_minus P Q b, pos_minus t (P - Q) (omega arith), lt-leb (t - (P - Q)) 0 (omega arith), pos_minus P 1 (omega arith))
      (larger_one ((t - (P - Q) + (P - 1)) / P))

  round_one : t ≤ P - Q → round_of P Q t ≡ 1
  unfolding round_of
  round_one l =
      let none : t - (P - Q) ≡ 0 = omega arith in
      rw none (omega (arith, ceil_le 0 P (omega arith)))

  round_before : t ≤ P - Q → signed_round (pos P) (pos Q) (pos t) ≡ pos (round_of P Q t)
  unfolding signed_round ceil_of
  round_before l = rw (round_one l, pos_minus P Q b) (go (dec_lt t (P - Q)))
    where
      go : Dec (t < P - Q) → larger (ceil_of (pos t -ℤ pos (P - Q)) (pos P)) (pos 1) ≡ pos 1
      go (yes n) = rw (below_minus t (P - Q) n) (one_larger (suc (P - Q - suc t) / P))
      go (no n) =
          let none : t - (P - Q) ≡ 0 = omega arith in
          rw (pos_minus t (P - Q) (omega arith), none, zero-div P)

  round_signed : signed_round (pos P) (pos Q) (pos t) ≡ pos (round_of P Q t)
  round_signed = go (dec_lt (P - Q) t)
    where
      go : Dec (P - Q < t) → signed_round (pos P) (pos Q) (pos t) ≡ pos (round_of P Q t)
      go (yes l) = round_past l
      go (no l) = round_before (omega arith)

  round_some : 1 ≤ round_of P Q t
  unfolding round_of
  round_some = omega arith

  value_signed : (k : ℕ) → 1 ≤ k → signed_at (pos P) (pos Q) (pos t) (pos k) ≡ pos (supply_at P Q t k)
  unfolding signed_at supply_at
  value_signed k o =
      let two : 2 * P ≤ (k + 1) * P = mul-le-mul_right P (omega arith) in
      rw (pos_minus P Q b, pos_minus ((k + 1) * P) (2 * Q) (omega arith), pos_minus ((k + 1) * P) Q (omega arith), pos_minus k 1 o) (go (leb ((k + 1) * P - 2 * Q) t) refl)
    where
      gaps : (k + 1) * P - 2 * Q ≤ t → (k + 1) * (P - Q) ≤ t
      gaps l = omega (arith, mul-le-mul_right {m = 2} {n = k + 1} Q (omega arith), mul-add (k + 1) (P - Q) Q, ap (λ (x : ℕ). (k + 1) * x) (sub-add_cancel b))

      go : (s : Bool) → leb ((k + 1) * P - 2 * Q) t ≡ s
          → cond (s && leb t ((k + 1) * P - Q)) (pos t -ℤ pos ((k + 1) * (P - Q))) (pos ((k - 1) * Q))
          ≡ pos (cond (s && leb t ((k + 1) * P - Q)) (t - (k + 1) * (P - Q)) ((k - 1) * Q))
      go true e = rw (pos_minus t ((k + 1) * (P - Q)) (gaps (leb-true _ t e))) (pos_cond (leb t ((k + 1) * P - Q)) _ _)
      go false e = refl

pub supply_signed : SignsMakeNoDifference
unfolding signed_supply supply_of
supply_signed P Q t h b = ap (signed_at (pos P) (pos Q) (pos t)) (round_signed P Q t h b) ∙ value_signed P Q t h b (round_of P Q t) (round_some P Q t h b)
