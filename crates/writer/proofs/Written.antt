-- The laws of `written`: nothing, one byte, two pieces one behind another, the length; and what is left to write.
-- Assumes nothing.
use Prim.Native.Nat.{ℕ, suc, ◌+◌, ◌≤◌, ◌<◌}
use native.Mathlib.Nat.{add-zero, zero-add}
use native.Mathlib.Numerals.{add-one}
use native.Mathlib.Omega.{arith}
use mathlib.Core.Path.{◌≡◌, refl, sym, ap, ap₂, subst, ◌∙◌}
use mathlib.Core.List.{List, [], ◌∷◌, ◌++◌, append-nil, append_assoc}
use lib.ListN.{length, take, drop, set, length-set, length-append, length-drop, take-append-drop}
use lib.Seq.{length-take-le, take_at, drop-drop, drop-cons, drop-append-add, take-set-le, drop-set-lt, get_or-set_same, set_split, append_snoc}
use Rattle.writer.specs.declared.Writer.{Writer}
use Rattle.writer.specs.Code.Written.{written, Written, Begun, Room, Wrote}

-- what stands before the end of a piece has the length that it should
front_length : (at : ℕ) (p b : List ℕ) → at ≤ length b → length (take at b ++ p) ≡ at + length p
front_length at p b h = length-append (take at b) p ∙ ap (λ (k : ℕ). k + length p) (length-take-le at b h)

pub written_none : (at : ℕ) (b : List ℕ) → written at [] b ≡ b
unfolding written
written_none at b =
    ap₂ (λ (x y : List ℕ). x ++ y) (append-nil (take at b)) (ap (λ (k : ℕ). drop k b) (add-zero at)) ∙ take-append-drop at b

pub written_one : (at x : ℕ) (b : List ℕ) → at < length b → written at (x ∷ []) b ≡ set b at x
unfolding written
written_one at x b h =
    append_snoc (take at b) x (drop (at + 1) b) ∙ ap (λ (k : ℕ). take at b ++ x ∷ drop k b) (add-one at) ∙ sym (set_split b at x h)

pub length_written : (at : ℕ) (p b : List ℕ) → at + length p ≤ length b → length (written at p b) ≡ length b
unfolding written
length_written at p b h =
    length-append (take at b ++ p) (drop (at + length p) b) ∙ omega (arith, front_length at p b (omega arith), length-drop (at + length p) b)

-- a piece and, behind it, another one
pub written_two : (at : ℕ) (p q b : List ℕ) → at ≤ length b → written (at + length p) q (written at p b) ≡ written at (p ++ q) b
unfolding written
written_two at p q b h =
    let front = take at b ++ p in
    let rest = drop (at + length p) b in
    let n : length front ≡ at + length p = front_length at p b h in
    let sum : at + length p + length q ≡ at + length (p ++ q) = omega (arith, length-append p q) in
    let behind : drop (at + length p + length q) (front ++ rest) ≡ drop (at + length (p ++ q)) b =
    ap (λ (k : ℕ). drop (k + length q) (front ++ rest)) (sym n) ∙ drop-append-add front rest (length q)
    ∙ drop-drop (length q) (at + length p) b ∙ ap (λ (k : ℕ). drop k b) sum in
    ap₂ (λ (x y : List ℕ). x ++ q ++ y) (take_at front rest (at + length p) n) behind
    ∙ ap (λ (x : List ℕ). x ++ drop (at + length (p ++ q)) b) (append_assoc (take at b) p q)

-- the last byte first
pub written_last : (at : ℕ) (p : List ℕ) (x : ℕ) (b : List ℕ) → at + length p < length b → written at (p ++ (x ∷ [])) b ≡ written at p (set b (at + length p) x)
unfolding written
written_last at p x b h =
    let k = at + length p in
    let sum : at + length (p ++ (x ∷ [])) ≡ suc k = omega (arith, length-append p (x ∷ [])) in
    let behind : drop k (set b k x) ≡ x ∷ drop (suc k) b =
    drop-cons (set b k x) k 0 (omega (arith, length-set b k x)) ∙ ap₂ (λ (y : ℕ) (l : List ℕ). y ∷ l) (get_or-set_same b k x 0 h) (drop-set-lt (suc k) b k x (omega arith)) in
    ap₂ (λ (l : List ℕ) (i : ℕ). l ++ drop i b) (sym (append_assoc (take at b) p (x ∷ []))) sum
    ∙ append_snoc (take at b ++ p) x (drop (suc k) b)
    ∙ ap₂ (λ (l m : List ℕ). l ++ p ++ m) (sym (take-set-le at b k x (omega arith))) (sym behind)

pub write_one : (at x : ℕ) (b : List ℕ) → at < length b → Written at (x ∷ []) b (set b at x) (at + 1)
write_one at x b h = record { bytes = sym (written_one at x b h); place = refl }

-- two pieces one behind another: there is room for the first, and for the second once the first is written; then both are
pub room_first : {w : Writer} (p q : List ℕ) → Room (p ++ q) w → Room p w
room_first p q room = record { fits = omega (arith, room.fits, length-append p q) }

module _ (p q : List ℕ) {a b : Writer} (room : Room (p ++ q) a) (first : Wrote p a b) where
  pub room_second : Room q b
  room_second =
      let long : length b.out.now ≡ length a.out.now = ap length first.bytes.bytes ∙ length_written a.at p a.out.now (room_first p q room).fits in
      record { fits = omega (arith, room.fits, length-append p q, first.bytes.place, long) }

  pub wrote_two : {c : Writer} → Wrote q b c → Wrote (p ++ q) a c
  wrote_two second = record {
    same = second.same ∙ first.same;
    bytes = record {
      bytes = second.bytes.bytes ∙ ap₂ (λ (k : ℕ) (out : List ℕ). written k q out) first.bytes.place first.bytes.bytes ∙ written_two a.at p q a.out.now (omega (arith, room.fits));
      place = omega (arith, first.bytes.place, second.bytes.place, length-append p q);
    };
  }

wrote_none : {w : Writer} → Wrote [] w w
wrote_none {w} = record { same = refl; bytes = record { bytes = sym (written_none w.at w.out.now); place = sym (add-zero w.at) } }

-- of what is written behind `before`, the rest is left, behind `now`
pub record Left (whole : List ℕ) (before : Writer) (rest : List ℕ) (now : Writer) : Type 0 where
  pub room : Room rest now
  pub ends : (after : Writer) → Wrote rest now after → Wrote whole before after

pub left_all : {whole : List ℕ} {w : Writer} → Room whole w → Left whole w whole w
left_all room = record { room = room; ends = λ after e. e }

module _ {whole rest : List ℕ} {before now : Writer} where
  -- there is room for the first piece of the rest
  pub left_room : {p : List ℕ} (q : List ℕ) → rest ≡ p ++ q → Left whole before rest now → Room p now
  left_room {p} q e l = room_first p q (subst (λ (r : List ℕ). Room r now) e l.room)

  -- it is written
  pub left_more : {p q : List ℕ} {next : Writer} → rest ≡ p ++ q → Left whole before rest now → Wrote p now next → Left whole before q next
  left_more {p} {q} e l w =
      let room : Room (p ++ q) now = subst (λ (r : List ℕ). Room r now) e l.room in
      record {
        room = room_second p q room w;
        ends = λ after v. l.ends after (subst (λ (r : List ℕ). Wrote r now after) (sym e) (wrote_two p q room w v));
      }

  -- all of it is written
  pub left_last : {next : Writer} → Left whole before rest now → Wrote rest now next → Wrote whole before next
  left_last {next} l w = l.ends next w

  -- nothing is left
  pub left_none : rest ≡ [] → Left whole before rest now → Wrote whole before now
  left_none e l = l.ends now (subst (λ (r : List ℕ). Wrote r now now) (sym e) wrote_none)

-- a writer that begins has room for what its buffer has room for
pub begun_room : {p before : List ℕ} {w : Writer} → Begun before w → length p ≤ length before → Room p w
begun_room b h = record { fits = omega (arith, b.start, h, ap length b.buffer_is) }

-- and what it wrote stands at the start
pub begun_wrote : {p before after : List ℕ} {w now : Writer} → Begun before w → Wrote p w now → after ≡ now.out.now → Written 0 p before after now.at
begun_wrote {p} b e is = record {
  bytes = is ∙ e.bytes.bytes ∙ ap₂ (λ (k : ℕ) (out : List ℕ). written k p out) b.start b.buffer_is;
  place = e.bytes.place ∙ ap (λ (k : ℕ). k + length p) b.start;
}

-- the same of a writer that begins further on
pub begun_room_at : {p before : List ℕ} {w : Writer} → Begun before w → (at : ℕ) → at + length p ≤ length before → Room p (record { out = w.out; at = at })
begun_room_at b at h = record { fits = omega (arith, h, ap length b.buffer_is) }

pub begun_wrote_at : {p before after : List ℕ} {w now : Writer} → Begun before w → (at : ℕ) → Wrote p (record { out = w.out; at = at }) now → after ≡ now.out.now → Written at p before after now.at
begun_wrote_at {p} b at e is = record { bytes = is ∙ e.bytes.bytes ∙ ap (written at p) b.buffer_is; place = e.bytes.place }

-- a whole buffer is written from its start
pub written_start : (p b : List ℕ) → written 0 p b ≡ p ++ drop (length p) b
unfolding written
written_start p b = ap (λ (k : ℕ). p ++ drop k b) (zero-add (length p))

pub written_whole : {text before after : List ℕ} {next : ℕ} → Written 0 text before after next → (after ≡ text ++ drop (length text) before) × (next ≡ length text)
written_whole {text} {before} w = (w.bytes ∙ written_start text before, w.place ∙ zero-add (length text))
