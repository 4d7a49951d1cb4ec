-- `shown::show_ceilings` meets its contract: each turn fills one place, and what the hint says is so.
-- Assumes nothing.
use Rattle.std.specs.Prelude.{Option, Some, None, MatchOption}
use Prim.Native.Nat.{ℕ, suc, ◌<◌}
use native.Mathlib.Omega.{arith}
use borrow.Author.Rules.{rules}
use mathlib.Core.Path.{sym, ap, subst, ◌∙◌, ◌≡◌}
use Rattle.least.proofs.Stores.{store_start, store_step}
use Rattle.task_set.specs.Code.ByColumn.{times_of}
use Rattle.task_set.specs.Code.Partition.{partition_of}
use Rattle.task_set.proofs.ByColumn.{columns_fine}
use Rattle.task_set.proofs.ByLock.{longest_most, deadline_most}
use Rattle.holding.specs.declared.Held.{Held}
use Rattle.holding.specs.Code.Search.{HintIs}
use Rattle.candidates.specs.Candidates.{shown_ceiling}
use Rattle.shown.proofs.Lowest.{ceiling_or0, shown_by_search, shown_lowest}
use Rattle.shown.proofs.show_ceilings.Goals as goal
use Rattle.shown.proofs.show_ceilings.Goals.{then-part-j, else-part-j}

found : (a : Option Held) (c : ℕ) → MatchOption a (c ≡ 0) (λ h. c ≡ h.ceiling) → c ≡ ceiling_or0 a
unfolding ceiling_or0
found (Some h) c e = e
found None c e = e

pub loop-j-init : goal.loop-j-init
loop-j-init c = (store_start _ _ _, c.no_hint-hint.ensures _)

pub lowest_within-found-requires : goal.lowest_within-found-requires
lowest_within-found-requires c =
    let p = c.args.part.now in
    let j = c.loop-j.j in
    let l : j < p.locks = omega arith in
    let fine = c.requires.fine_part in
    let k = c.locks_of-locks.ensures in
    let columns = c.columns_of-columns in
    (columns_fine p fine columns.result columns.ensures, omega (arith, k.longest j l, fine.used (suc j) (omega arith) l), omega (arith, k.longest j l, longest_most p fine (suc j) (omega arith) l), omega (arith, k.deadlines j l, deadline_most p fine (suc j) (omega arith) l), c.loop-j.invariant.1)

pub loop-j-preserved : goal.loop-j-preserved
loop-j-preserved c =
    let p = c.args.part.now in
    let at = c.loop-j in
    let l : at.j < p.locks = omega arith in
    let fine = c.requires.fine_part in
    let columns = c.columns_of-columns in
    let locks = c.locks_of-locks in
    let is : c.if-part-j.ceiling ≡ shown_ceiling (partition_of p) c.args.x (suc at.j) =
    elim c.if-part-j.branch [
      | then-part-j w ↦ w.ceiling-is ∙ found w.lowest_within-found.result.held w.map_or-ceiling.result (search rules) ∙ ap ceiling_or0 w.lowest_within-found.ensures.found ∙ shown_by_search p fine columns.result columns.ensures locks.result locks.ensures c.args.x at.j l w.if-part-j.true
      | else-part-j w ↦ w.ceiling-is ∙ shown_lowest p fine columns.result columns.ensures locks.result locks.ensures c.args.x at.j l w.if-part-j.false
    ] in
    let told : HintIs (times_of columns.result.times) c.if-part-j.hint =
    elim c.if-part-j.branch [
      | then-part-j w ↦ subst (HintIs (times_of columns.result.times)) (sym w.hint-is) w.lowest_within-found.ensures.told
      | else-part-j w ↦ subst (HintIs (times_of columns.result.times)) (sym w.hint-is) at.invariant.1
    ] in
    (store_step _ _ _ at.ceilings at.j _ at.invariant.0 (omega (arith, fine.few_locks, c.requires.k_lt_part_limit)) is, told)
