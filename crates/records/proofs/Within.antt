-- The fields of a good line lie within the file.
-- Assumes nothing.
use Prim.Native.Nat.{ℕ, ◌-◌, ◌≤◌, ◌<◌}
use native.Mathlib.Omega.{arith}
use mathlib.Core.Path.{◌≡◌, refl}
use mathlib.Core.Bool.{Bool, true, false, cond}
use mathlib.Core.List.{List}
use lib.Dec.{ltb, eqb}
use lib.ListN.{length, get_or}
use Rattle.scan.specs.declared.Scanned.{Scanned}
use Rattle.records.specs.declared.Shape.{Shape}
use Rattle.records.specs.declared.Shape.TheVariants.{Part, Task, Lock, End, Unknown}
use Rattle.records.specs.Code.Shapes.{Word}
use Rattle.records.specs.Code.Shapes.Word.{PartWord, TaskWord, LockWord, EndWord, NoWord}
use Rattle.records.specs.Code.Shapes.{up_to, end_of, first_field, field, part_shape, task_shape, lock_shape, end_shape, shape_of}
use Rattle.records.specs.Code.Cursor.{Within, FieldsWithin}

module _ (s : List ℕ) (l : Scanned) (tabs : (j : ℕ) → get_or l.tabs.place j 0 < length s) (ends : l.end < length s) where
  end_of_within : (k : ℕ) → end_of l k ≤ length s
  unfolding end_of
  end_of_within k = go (ltb k l.tabs.count) refl
    where
      go : (b : Bool) → ltb k l.tabs.count ≡ b → end_of l k ≤ length s
      go true e = simp e (omega (arith, tabs k))
      go false e = simp e (omega (arith, ends))

  pub first_within : (at : ℕ) → at < length s → Within s (first_field at l)
  unfolding first_field up_to
  first_within at h = omega (arith, end_of_within 0)

  field_within : (k : ℕ) → Within s (field l k)
  unfolding field up_to
  field_within k = omega (arith, end_of_within k, tabs (k - 1))

  by_count : (b : Bool) (r : Shape) → FieldsWithin s r → FieldsWithin s (cond b r Unknown)
  by_count true r h = h
  by_count false r h = tt

  pub shape_within : (w : Word) → FieldsWithin s (shape_of w l)
  unfolding shape_of part_shape task_shape lock_shape end_shape
  shape_within PartWord = by_count (eqb l.tabs.count 2) (Part (field l 1) (field l 2)) (field_within 1, field_within 2)
  shape_within TaskWord = by_count (eqb l.tabs.count 4) (Task (field l 1) (field l 2) (field l 3) (field l 4)) (field_within 1, field_within 2, field_within 3, field_within 4)
  shape_within LockWord = by_count (eqb l.tabs.count 2) (Lock (field l 1) (field l 2)) (field_within 1, field_within 2)
  shape_within EndWord = by_count (eqb l.tabs.count 0) End tt
  shape_within NoWord = tt
