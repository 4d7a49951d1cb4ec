-- A stretch that begins past the end of the file is empty, one that runs past the end stops there, and one that has a byte begins at its start.
-- Assumes nothing.
use Prim.Native.Nat.{ℕ, ◌+◌, ◌-◌, min, ◌≤◌}
use native.Mathlib.Nat.{le_refl}
use native.Mathlib.Omega.{arith}
use native.Mathlib.Decide.{dec_le}
use mathlib.Core.Path.{◌≡◌, refl, sym, ap, ◌∙◌}
use mathlib.Core.List.{List, []}
use lib.ListN.{length, take, drop, length-drop, drop_of_length-le}
use lib.Seq.{take-nil, take_all}
use denote.Ref.{Bor}
use Rattle.stretch.specs.declared.Span.{Span}
use Rattle.stretch.specs.Stretch.{bytes_of, StretchOf}

pub bytes_past : (s : List ℕ) (p : Span) → length s ≤ p.start → [] ≡ bytes_of s p
unfolding bytes_of
bytes_past s p h = rw (drop_of_length-le s h) (sym (take-nil p.len))

pub bytes_over : (s : List ℕ) (p : Span) → length s - p.start ≤ p.len → take (length s - p.start) (drop p.start s) ≡ bytes_of s p
unfolding bytes_of
bytes_over s p h =
    take_all (length s - p.start) (drop p.start s) (simp length-drop (le_refl _))
    ∙ sym (take_all p.len (drop p.start s) (simp length-drop h))

-- the part from its start on, or from the end of the file on, as far as the file goes
pub bytes_between : (s : List ℕ) (p : Span) (a e : ℕ) → a ≡ min p.start (length s) → e ≡ a + min p.len (length s - a) → take (e - a) (drop a s) ≡ bytes_of s p
unfolding bytes_of
bytes_between s p a e f g = go (dec_le (length s) p.start) (dec_le (length s - p.start) p.len)
  where
    go : Dec (length s ≤ p.start) → Dec (length s - p.start ≤ p.len) → take (e - a) (drop a s) ≡ bytes_of s p
    go (yes h) k =
        let none : e - a ≡ 0 = omega arith in
        rw none (bytes_past s p h)
    go (no h) (yes k) =
        let from : a ≡ p.start = omega arith in
        let rest : e - a ≡ length s - p.start = omega arith in
        rw (rest, from) (bytes_over s p k)
    go (no h) (no k) =
        let from : a ≡ p.start = omega arith in
        let all : e - a ≡ p.len = omega arith in
        rw (all, from) refl

-- a stretch that has a byte begins at its start
pub stretch_from_start : (s : Bor (List ℕ)) (p : Span) (r : Bor (List ℕ)) → StretchOf s p r → 1 ≤ length r.now → r.ref_ptr.1 ≡ s.ref_ptr.1 + p.start
stretch_from_start s p r is some = go (dec_le (length s.now) p.start)
  where
    go : Dec (length s.now ≤ p.start) → r.ref_ptr.1 ≡ s.ref_ptr.1 + p.start
    go (yes h) = absurd (omega (arith, some, ap length is.bytes, ap length (bytes_past s.now p h)))
    go (no h) = omega (arith, is.offset)
