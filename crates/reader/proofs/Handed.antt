-- What the struct that the reader hands on says of the file.
-- Assumes nothing.
use Prim.Native.Nat.{ℕ, zero, suc, ◌-◌, ◌≤◌, ◌<◌}
use mathlib.Core.Path.{◌≡◌, ap, ◌∙◌}
use mathlib.Core.List.{List}
use lib.ListN.{length, take, get_or, length-map, get_or-map}
use lib.Seq.{get_or-take, length-take-le}
use native.Mathlib.Omega.{arith}
use Rattle.least.proofs.Lists.{nth_get}
use Rattle.least.proofs.Members.{get_d_any}
use Rattle.plan_file.specs.Numbers.{no_plan_part, part_at}
use Rattle.reader.specs.declared.PartRead.{PartRead}
use Rattle.reader.specs.declared.PlanFile.{PlanFile}
use Rattle.reader.specs.Code.Reader.{part_of, parts_in, ReadIs}

module _ (s : List ℕ) (f : PlanFile) (is : ReadIs s f) where
  pub parts_count : length (parts_in s f) ≡ f.count
  parts_count = length-map (take f.count f.parts) (part_of s) ∙ length-take-le f.count f.parts (omega (arith, is.few, is.room))

-- the part at a place
pub part_at_lem : (s : List ℕ) (f : PlanFile) (j : ℕ) (d : PartRead) → j < f.count → get_or (parts_in s f) j (part_of s d) ≡ part_of s (get_or f.parts j d)
part_at_lem s f j d l = get_or-map (part_of s) (take f.count f.parts) j d ∙ ap (part_of s) (get_or-take f.count f.parts j d l)

pub part_number : (s : List ℕ) (f : PlanFile) → ReadIs s f → (k : ℕ) (d : PartRead) → 1 ≤ k → k ≤ f.count → part_at (parts_in s f) k ≡ part_of s (get_or f.parts (k - 1) d)
part_number s f is zero d a b = absurd (omega arith)
part_number s f is (suc j) d a b =
    let e : suc j - 1 ≡ j = omega arith in
    rw e (nth_get no_plan_part j (parts_in s f) ∙ get_d_any (parts_in s f) j no_plan_part (part_of s d) (omega (arith, parts_count s f is)) ∙ part_at_lem s f j d (omega arith))
