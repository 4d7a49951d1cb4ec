-- A stretch of a lent slice, handed back as that part of the caller's own bytes.
--   bytes_of s p    == the bytes of a stretch of the file s
--   StretchOf s p r == r is the stretch p of the slice s itself, and not equal bytes elsewhere
-- A reference has a block of memory and an offset in it (`ref_ptr`), and what is there (`now`).
-- Assumes nothing.
use Rattle.std.specs.Prelude.{ℕ, ◌+◌, min, ◌≡◌, List, length, take, drop}
use Rattle.std.specs.Borrow.{Bor}
use Rattle.stretch.specs.declared.Span.{Span}

unfoldable pub bytes_of : List ℕ → Span → List ℕ
bytes_of s p = take p.len (drop p.start s)

pub record StretchOf (s : Bor (List ℕ)) (p : Span) (r : Bor (List ℕ)) : Type 0 where
  pub block : r.ref_ptr.0 ≡ s.ref_ptr.0
  -- from its start on; at the end of the slice, where it would start past that
  pub offset : r.ref_ptr.1 ≡ s.ref_ptr.1 + min p.start (length s.now)
  pub bytes : r.now ≡ bytes_of s.now p
