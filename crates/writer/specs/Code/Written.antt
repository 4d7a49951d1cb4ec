-- Bytes that are written into a lent buffer.
--   written at piece buffer            == the buffer with the piece in the place of its bytes from `at` on
--   Written at piece before after next == `after` is the buffer `before` with the piece at `at`, and `next` is the place behind the piece
--   Begun buffer w                     == the writer w has this buffer, and nothing is written
--   Room piece w                       == there is room for the piece behind what w wrote
--   Wrote piece before after           == the writer `before` wrote the piece into its buffer and has become `after`
-- Assumes nothing.
use Rattle.std.specs.Prelude.{ℕ, ◌+◌, ◌≤◌, ◌≡◌, List, ◌++◌, length, take, drop}
use Rattle.writer.specs.declared.Writer.{Writer}

unfoldable pub written : ℕ → List ℕ → List ℕ → List ℕ
written at piece buffer = take at buffer ++ piece ++ drop (at + length piece) buffer

pub record Written (at : ℕ) (piece before after : List ℕ) (next : ℕ) : Type 0 where
  pub bytes : after ≡ written at piece before
  pub place : next ≡ at + length piece

pub record Begun (buffer : List ℕ) (w : Writer) : Type 0 where
  pub buffer_is : w.out.now ≡ buffer
  pub start : w.at ≡ 0

pub record Room (piece : List ℕ) (w : Writer) : Type 0 where
  pub fits : w.at + length piece ≤ length w.out.now

pub record Wrote (piece : List ℕ) (before after : Writer) : Type 0 where
  pub same : after.out.ghost_name ≡ before.out.ghost_name
  pub bytes : Written before.at piece before.out.now after.out.now after.at
