-- `reader::mark_shared` meets its contract. The first loop gathers the numbers of the lock names, the second marks the parts.
-- Assumes nothing.
use Prim.Native.Nat.{ℕ, ◌<◌}
use mathlib.Core.Path.{◌≡◌, refl, sym, ap, subst, ◌∙◌}
use mathlib.Core.Bool.{Bool}
use mathlib.Core.List.{List, []}
use lib.ListN.{length, take, get_or}
use lib.Seq.{get_or-take, length-take-le}
use native.Mathlib.Omega.{arith}
use Rattle.sharing.specs.Code.Sharing.{marks_of, marks_by_number}
use Rattle.reader.specs.declared.PlanFile.{PlanFile}
use Rattle.reader.specs.Code.Reader.{blank_part, FineCounts, PartsFine}
use Rattle.reader.proofs.Marking.{gathered_start, gathered_over, gathered_all, marks_in, marking_start, marking_step}
use Rattle.reader.proofs.mark_shared.Goals as goal

parts_count : (f : PlanFile) → PartsFine f → length (take f.count f.parts) ≡ f.count
parts_count f fine = length-take-le f.count f.parts (omega (arith, fine.few, fine.room))

-- the part at the place k is marked
of_part : (i k : ℕ) (parts codes : List (List ℕ)) (r : List Bool) → r ≡ marks_of parts (get_or codes i []) → i ≡ k → r ≡ marks_of parts (get_or codes k [])
of_part i k parts codes r e same = e ∙ ap (λ (j : ℕ). marks_of parts (get_or codes j [])) same

pub loop-k-init : goal.loop-k-init
loop-k-init c = gathered_start _ _

pub loop-k-preserved : goal.loop-k-preserved
loop-k-preserved c =
    let f = c.args.f.now in
    let k = c.loop-k.k in
    let size = parts_count f c.requires in
    let h : k < f.count = omega (arith, size, c.loop-k-test.true) in
    let fine = subst FineCounts (sym (get_or-take f.count f.parts k blank_part h)) (c.requires.counts k h) in
    rw c.put_numbers.ensures (gathered_over _ f c.loop-k.codes k blank_part c.loop-k.invariant c.loop-k-test.true (omega (arith, h, c.requires.few)) fine)

pub loop-k-2-init : goal.loop-k-2-init
loop-k-2-init c = (refl, marking_start _ _)

pub loop-k-2-preserved : goal.loop-k-2-preserved
loop-k-2-preserved c =
    let f = c.args.f.now in
    let size = parts_count f c.requires in
    let rows = gathered_all _ f c.loop-k.codes c.loop-k.k c.loop-k.invariant (omega (arith, size)) size in (
      c.loop-k-2.invariant.0,
      marking_step _ _ c.loop-k-2.f.parts c.loop-k-2.k _ c.loop-k-2.invariant.1 (omega (arith, c.requires.few, c.requires.room)) (of_part _ c.loop-k-2.k (take f.count c.loop-k.codes) c.loop-k.codes _ c.marks_by_number.ensures (omega arith) ∙ ap (marks_of (take f.count c.loop-k.codes)) (sym (get_or-take f.count c.loop-k.codes c.loop-k-2.k [] c.loop-k-2-test.true)) ∙ ap (λ (r : List (List ℕ)). marks_by_number r c.loop-k-2.k) rows ∙ marks_in _ f c.loop-k-2.k),
    )
