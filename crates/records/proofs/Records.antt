-- The record on a line is the record of the stretches between its tabs. A line with five tabs or more is no record.
-- Assumes nothing.
use Prim.Native.Nat.{ℕ, ◌+◌, min}
use native.Mathlib.Omega.{arith}
use mathlib.Core.Path.{◌≡◌, refl, ap, ◌∙◌}
use mathlib.Core.Bool.{Bool, true, false, cond, ◌&&◌}
use lib.Dec.{eqb}
use Rattle.records.specs.declared.Shape.{Shape}
use Rattle.records.specs.declared.Shape.TheVariants.{Part, Task, Lock, End, Unknown}
use mathlib.Core.List.{List, [], ◌∷◌}
use lib.ListN.{length}
use Rattle.least.specs.Lists.{pad}
use Rattle.text.specs.Bytes.{bytes, same}
use Rattle.text.proofs.Bytes.{same_true}
use Rattle.stretch.specs.Stretch.{bytes_of}
use Rattle.scan.specs.declared.Scanned.{Scanned}
use Rattle.scan.specs.Positions.{first_five}
use Rattle.scan.proofs.Scan.{good_at}
use Rattle.scan.proofs.Lines.{the_line, the_end, the_tabs}
use Rattle.records.specs.Code.Shapes.{Word}
use Rattle.records.specs.Code.Shapes.Word.{PartWord, TaskWord, LockWord, EndWord, NoWord}
use Rattle.records.specs.Records.{record_of, record_in}
use Rattle.records.specs.Records.Record.{no_record}
use Rattle.records.specs.Code.Shapes.{up_to, end_of, first_field, field, word_of, part_shape, task_shape, lock_shape, end_shape, shape_of}
use Rattle.records.specs.Code.Cursor.{record_as}
use Rattle.records.proofs.Fields.{pieces, line_pieces}

-- a field that is none of the four words
pub record NoneOf (w : List ℕ) : Type 0 where
  pub part : same w (bytes "part") ≡ false
  pub task : same w (bytes "task") ≡ false
  pub lock : same w (bytes "lock") ≡ false
  pub end : same w (bytes "end") ≡ false

-- what holds of each of the four words, and of a field that is none of them, holds of every field
pub by_word : (P : List ℕ → Word → Type 0) → P (bytes "part") PartWord → P (bytes "task") TaskWord → P (bytes "lock") LockWord → P (bytes "end") EndWord → ((w : List ℕ) → NoneOf w → P w NoWord)
    → (w : List ℕ) → P w (word_of w)
unfolding word_of
by_word P p t l e n w = go (same w (bytes "part")) (same w (bytes "task")) (same w (bytes "lock")) (same w (bytes "end")) refl refl refl refl
  where
    spelt : (x : List ℕ) (k : Word) → same w x ≡ true → P x k → P w k
    spelt x k h p = rw (same_true w x h) p

    go : (a b c d : Bool) → same w (bytes "part") ≡ a → same w (bytes "task") ≡ b → same w (bytes "lock") ≡ c → same w (bytes "end") ≡ d → P w (word_of w)
    go true b c d h i j k = simp h (spelt (bytes "part") PartWord h p)
    go false true c d h i j k = simp (h, i) (spelt (bytes "task") TaskWord i t)
    go false false true d h i j k = simp (h, i, j) (spelt (bytes "lock") LockWord j l)
    go false false false true h i j k = simp (h, i, j, k) (spelt (bytes "end") EndWord k e)
    go false false false false h i j k = simp (h, i, j, k) (n w (record { part = h; task = i; lock = j; end = k }))

-- the record by the tests of `shape_of`: each of the word and of the count of tabs
abbrev pub shape_by : List ℕ → Scanned → Shape
shape_by w l =
    cond (same w (bytes "part") && eqb l.tabs.count 2) (Part (field l 1) (field l 2))
    (cond (same w (bytes "task") && eqb l.tabs.count 4) (Task (field l 1) (field l 2) (field l 3) (field l 4))
    (cond (same w (bytes "lock") && eqb l.tabs.count 2) (Lock (field l 1) (field l 2))
    (cond (same w (bytes "end") && eqb l.tabs.count 0) End
    Unknown)))

pub shape_by_word : (w : List ℕ) (l : Scanned) → shape_by w l ≡ shape_of (word_of w) l
unfolding shape_of part_shape task_shape lock_shape end_shape same bytes
shape_by_word w l =
    by_word (λ v word. shape_by v l ≡ shape_of word l) refl refl refl refl
    (λ v n. simp (n.part, n.task, n.lock, n.end)) w

no_word : (w : List ℕ) (fs : List (List ℕ)) → NoneOf w → record_of (w ∷ fs) ≡ no_record
unfolding record_of
no_word w [] n = simp n.end
no_word w (a ∷ []) n = refl
no_word w (a ∷ b ∷ []) n = simp (n.part, n.lock)
no_word w (a ∷ b ∷ c ∷ []) n = refl
no_word w (a ∷ b ∷ c ∷ d ∷ []) n = simp n.task
no_word w (a ∷ b ∷ c ∷ d ∷ e ∷ fs) n = refl

-- the record by the word, where it is right for each word
record_word : (s : List ℕ) (l : Scanned) (fs : List (List ℕ)) → record_of (bytes "part" ∷ fs) ≡ record_as s (part_shape l) → record_of (bytes "task" ∷ fs) ≡ record_as s (task_shape l)
    → record_of (bytes "lock" ∷ fs) ≡ record_as s (lock_shape l) → record_of (bytes "end" ∷ fs) ≡ record_as s (end_shape l) → (w : List ℕ) → record_of (w ∷ fs) ≡ record_as s (shape_of (word_of w) l)
unfolding shape_of record_as
record_word s l fs p t k e w = by_word (λ w word. record_of (w ∷ fs) ≡ record_as s (shape_of word l)) p t k e (λ w n. no_word w fs n) w

six_fields : (s f : List ℕ) (from t u v w : ℕ) (ts : List ℕ) (end : ℕ) → record_of (f ∷ pieces s from (t ∷ u ∷ v ∷ w ∷ ts) end) ≡ no_record
unfolding record_of pieces
six_fields s f from t u v w [] end = refl
six_fields s f from t u v w (x ∷ ts) end = refl

-- the stretches between tabs at the places ts, of a line that begins at `at` and ends at `end`
record_pieces : (s : List ℕ) (at : ℕ) (ts : List ℕ) (end : ℕ) → let l = good_at end (first_five ts) in record_of (pieces s at ts end) ≡ record_as s (shape_of (word_of (bytes_of s (first_field at l))) l)
unfolding pieces first_five pad first_field field end_of part_shape task_shape lock_shape end_shape record_of record_as bytes same
record_pieces s at [] end = record_word s _ [] refl refl refl refl (bytes_of s (up_to at end))
record_pieces s at (t ∷ []) end = record_word s _ (bytes_of s (up_to (t + 1) end) ∷ []) refl refl refl refl (bytes_of s (up_to at t))
record_pieces s at (t ∷ u ∷ []) end = record_word s _ (pieces s (t + 1) (u ∷ []) end) refl refl refl refl (bytes_of s (up_to at t))
record_pieces s at (t ∷ u ∷ v ∷ []) end = record_word s _ (pieces s (t + 1) (u ∷ v ∷ []) end) refl refl refl refl (bytes_of s (up_to at t))
record_pieces s at (t ∷ u ∷ v ∷ w ∷ []) end = record_word s _ (pieces s (t + 1) (u ∷ v ∷ w ∷ []) end) refl refl refl refl (bytes_of s (up_to at t))
record_pieces s at (t ∷ u ∷ v ∷ w ∷ x ∷ ts) end =
    let many : (f : List ℕ) → record_of (f ∷ pieces s (t + 1) (u ∷ v ∷ w ∷ x ∷ ts) end) ≡ no_record = λ f. six_fields s f (t + 1) u v w x ts end in
    let m : min 5 (length (t ∷ u ∷ v ∷ w ∷ x ∷ ts)) ≡ 5 = omega arith in
    rw m (record_word s _ (pieces s (t + 1) (u ∷ v ∷ w ∷ x ∷ ts) end) (many (bytes "part")) (many (bytes "task")) (many (bytes "lock")) (many (bytes "end")) (bytes_of s (up_to at t)))

pub record_line : (s : List ℕ) (at : ℕ) → let l = good_at (the_end s at) (first_five (the_tabs s at)) in record_in (the_line s at) ≡ record_as s (shape_of (word_of (bytes_of s (first_field at l))) l)
record_line s at = ap record_of (line_pieces s at) ∙ record_pieces s at (the_tabs s at) (the_end s at)
