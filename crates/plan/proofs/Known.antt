-- What a buffer has of a reader's known bytes, where the buffer is full or no byte is left.
use Rattle.std.proofs.Common.{◌≡◌, ℕ, ◌<◌, ◌≤◌, ◌⊎◌, inl, inr, List, ◌++◌, length, take, IfSome, arith, sym, ap, ◌∙◌, subst, append-nil, length-take-le, take_all}
use Rattle.std.proofs.Math.Nat.{eq-or-lt_of_le}
use Rattle.std.specs.Prelude.{Option, Some, None}
use Rattle.std.specs.Io.KnownBytes.{Consumes, IsAtEnd}
use lib.Seq.{take-append-le}

pub first_bytes : (known rest : Option (List ℕ)) (n : ℕ) (buf : List ℕ) → n ≤ length buf → Consumes known rest (take n buf) → (n < length buf → IsAtEnd rest) → IfSome known (λ xs. take n buf ≡ take (length buf) xs)
first_bytes None rest n buf within brought end = tt
first_bytes (Some xs) None n buf within brought end = absurd brought
first_bytes (Some xs) (Some ys) n buf within brought end =
    go (eq-or-lt_of_le within)
  where
    front : List ℕ
    front = take n buf

    size : length front ≡ n
    size = length-take-le n buf within

    whole : take (length buf) front ≡ front
    whole = take_all (length buf) front (omega (arith, size, within))

    go : (n ≡ length buf) ⊎ (n < length buf) → take n buf ≡ take (length buf) xs
    go (inl e) = sym (ap (take (length buf)) brought ∙ take-append-le (length buf) front ys (omega (arith, size, e)) ∙ whole)
    go (inr l) = sym (ap (take (length buf)) (brought ∙ ap (λ bs. front ++ bs) (end l) ∙ append-nil front) ∙ whole)

-- what is printed of these bytes is printed of the known ones, where the rest of them changes nothing
pub printed_known : (known : Option (List ℕ)) (A : List ℕ → Type 0) (print cut : List ℕ → List ℕ) (bytes : List ℕ) → ((xs : List ℕ) → print (cut xs) ≡ print xs) → IfSome known (λ xs. bytes ≡ cut xs) → A (print bytes) → IfSome known (λ xs. A (print xs))
printed_known None A print cut bytes same e h = tt
printed_known (Some xs) A print cut bytes same e h = subst A (ap print e ∙ same xs) h
