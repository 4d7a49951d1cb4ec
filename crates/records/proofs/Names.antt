-- Where the name of a part stands: behind the word of its line, which has four letters, and one tab.
-- Assumes nothing.
use Prim.Native.Nat.{ℕ, ◌+◌, ◌-◌, ◌≤◌}
use native.Mathlib.Omega.{arith}
use mathlib.Core.Path.{◌≡◌, refl, sym, ap, ◌∙◌}
use mathlib.Core.Bool.{Bool, true, false, cond}
use mathlib.Core.List.{List}
use lib.Dec.{eqb}
use lib.ListN.{length, drop, get_or, length-take, length-drop}
use borrow.Author.Tests.{eqb-true}
use Rattle.text.specs.Bytes.{bytes}
use Rattle.stretch.specs.declared.Span.{Span}
use Rattle.scan.specs.declared.Scanned.{Scanned}
use Rattle.stretch.specs.Stretch.{bytes_of}
use Rattle.records.specs.declared.Shape.{Shape}
use Rattle.records.specs.declared.Shape.TheVariants.{Part, Unknown}
use Rattle.records.specs.Code.Shapes.{up_to, end_of, first_field, field, word_of, part_shape, task_shape, lock_shape, end_shape, shape_of}
use Rattle.records.specs.Records.{name_span}
use Rattle.records.proofs.Records.{by_word}

module _ (s : List ℕ) (at : ℕ) (l : Scanned) (places : (j : ℕ) → get_or l.tabs.place j 0 ≤ length s) where
  abbrev tab : ℕ → ℕ
  tab j = get_or l.tabs.place j 0

  -- a stretch up to a tab has all its bytes in the file
  stretch_length : (from j : ℕ) → length (bytes_of s (up_to from (tab j))) ≡ tab j - from
  unfolding bytes_of up_to
  stretch_length from j = omega (arith, length-take (tab j - from) (drop from s), length-drop from s, places j)

  abbrev Named : Shape → Type 0
  Named r = (name P : Span) → r ≡ Part name P → name ≡ name_span at (bytes_of s name)

  -- with two tabs the first field ends at the first, the second at the second
  two_tabs : eqb l.tabs.count 2 ≡ true → (end_of l 0 ≡ tab 0) × (end_of l 1 ≡ tab 1)
  unfolding end_of
  two_tabs c = let n : l.tabs.count ≡ 2 = eqb-true l.tabs.count 2 c in (rw n refl, rw n refl)

  four_letters : length (bytes "part") ≡ 4
  unfolding bytes
  four_letters = refl

  word_end : eqb l.tabs.count 2 ≡ true → bytes "part" ≡ bytes_of s (first_field at l) → tab 0 ≡ at + 4
  unfolding first_field
  word_end c e = omega (arith, sym four_letters ∙ ap length (e ∙ ap (λ (k : ℕ). bytes_of s (up_to at k)) (two_tabs c).0) ∙ stretch_length at 0)

  name_up_to : tab 0 ≡ at + 4 → up_to (tab 0 + 1) (tab 1) ≡ name_span at (bytes_of s (up_to (tab 0 + 1) (tab 1)))
  unfolding up_to
  name_up_to w = let from : tab 0 + 1 ≡ at + 5 = omega arith in λ i. record { start = from i; len = sym (stretch_length (tab 0 + 1) 1) i }

  name_field : eqb l.tabs.count 2 ≡ true → tab 0 ≡ at + 4 → (name : Span) → name ≡ field l 1 → name ≡ name_span at (bytes_of s name)
  unfolding field
  name_field c w name h =
      let is : name ≡ up_to (tab 0 + 1) (tab 1) = h ∙ ap (up_to (tab 0 + 1)) (two_tabs c).1 in
      rw is (name_up_to w)

  named_part : bytes "part" ≡ bytes_of s (first_field at l) → Named (part_shape l)
  unfolding part_shape
  named_part e = go (eqb l.tabs.count 2) refl
    where
      go : (t : Bool) → eqb l.tabs.count 2 ≡ t → Named (cond t (Part (field l 1) (field l 2)) Unknown)
      go true c name P h = name_field c (word_end c e) name cc
      go false c name P h = cc

  -- of the other records there is nothing to say
  named_if : (t : Bool) (r : Shape) → Named r → Named (cond t r Unknown)
  named_if true r h name P e = h name P e
  named_if false r h name P e = cc

  named_task : Named (task_shape l)
  unfolding task_shape
  named_task = named_if (eqb l.tabs.count 4) _ (λ name P h. cc)

  named_lock : Named (lock_shape l)
  unfolding lock_shape
  named_lock = named_if (eqb l.tabs.count 2) _ (λ name P h. cc)

  named_end : Named (end_shape l)
  unfolding end_shape
  named_end = named_if (eqb l.tabs.count 0) _ (λ name P h. cc)

  pub name_stands : (name P : Span) → shape_of (word_of (bytes_of s (first_field at l))) l ≡ Part name P → name ≡ name_span at (bytes_of s name)
  unfolding shape_of
  name_stands =
      by_word (λ w word. w ≡ bytes_of s (first_field at l) → Named (shape_of word l)) named_part (λ e. named_task) (λ e. named_lock) (λ e. named_end)
      (λ w n e name P h. cc)
      (bytes_of s (first_field at l)) refl
