-- `offers::plan_rows` meets its contract.
-- Assumes nothing.
use Prim.Native.Nat.{ℕ, ◌≤◌, ◌<◌}
use native.Mathlib.Numerals.{add-one}
use native.Mathlib.Omega.{arith}
use mathlib.Core.Path.{◌≡◌, sym, ap, subst, ◌∙◌}
use lib.ListN.{length}
use Rattle.std.specs.Prelude.{Ok}
use Rattle.task_set.specs.Code.Tasks.{tasks_of}
use Rattle.task_set.specs.Code.Partition.{partition_of}
use Rattle.utilisation.specs.Code.Utilisation.{share_in}
use Rattle.candidates.specs.declared.Kept.{Kept}
use Rattle.candidates.specs.Candidates.{kept_list, kept_answer}
use Rattle.reader.specs.declared.PartRead.{PartRead}
use Rattle.offers.specs.Code.Gathered.{part_in, list_in, StoredAt, OfferedAt}
use Rattle.offers.proofs.Gathering.{parts_long, part_read, part_fine, list_most, gather_room, gather_step}
use Rattle.offers.proofs.Over.{shares_next, shares_over}
use Rattle.offers.proofs.Rows.{offers_fine}
use Rattle.offers.proofs.Choosing.{no_budget, none_found, rows_found}
use Rattle.offers.proofs.plan_rows.Goals as goal
use Rattle.offers.proofs.plan_rows.Goals.{After-kept_of-kept, After-loop-k}

pub share_of-share-requires : goal.share_of-share-requires
share_of-share-requires c = (part_fine c.args.f.now c.requires.0 c.loop-p.p-index c.loop-p-test.true).0

pub overflow_add-share : goal.overflow_add-share
overflow_add-share c = omega (arith, c.share_of-share.ensures.most, c.loop-p.invariant.most, c.loop-p-test.true, parts_long c.args.f.now c.requires.0, c.requires.0.few)

pub loop-p-preserved : goal.loop-p-preserved
loop-p-preserved c =
    let f = c.args.f.now in
    let at = c.loop-p in
    let k : at.p-index < f.count = omega (arith, c.loop-p-test.true, parts_long f c.requires.0) in
    let value = c.share_of-share.ensures.value ∙ ap (λ (p : PartRead). share_in (tasks_of p.part)) (part_read f c.requires.0 at.p-index c.loop-p-test.true) in
    record {
      left = rw add-one (omega (arith, at.invariant.left, shares_next f at.p-index k, value));
      most = omega (arith, at.invariant.most, c.share_of-share.ensures.most);
    }

pub refusal_of_over-requires : goal.refusal_of_over-requires
refusal_of_over-requires c =
    let l = c.loop-p in
    (c.requires.0, shares_over c.args.f.now l.share l.p-index (omega (arith, c.loop-p-test.false, parts_long c.args.f.now c.requires.0)) l.invariant.left c.if-share-gt-SCALE.true)

pub kept_of-kept-requires : goal.kept_of-kept-requires
kept_of-kept-requires c = part_fine c.args.f.now c.requires.0 c.loop-k.k c.loop-k-test.true

-- the kept list is that of the part at the place k, and so is its count
kept : (c : After-kept_of-kept) → c.kept_of-kept.result ≡ kept_answer (list_in c.args.f.now c.loop-k.k)
kept c =
    c.kept_of-kept.ensures
    ∙ ap (λ (p : PartRead). kept_answer (kept_list (partition_of p.part))) (part_read c.args.f.now c.requires.0 c.loop-k.k c.loop-k-test.true)

count : (c : After-kept_of-kept) → c.kept_of-kept.result.count ≡ length (list_in c.args.f.now c.loop-k.k)
unfolding kept_answer
count c = ap (λ (x : Kept). x.count) (kept c)

within : (c : After-kept_of-kept) → c.loop-k.k < c.args.f.now.count
within c = omega (arith, c.loop-k-test.true, parts_long c.args.f.now c.requires.0)

pub returns-then-kept-eq0 : goal.returns-then-kept-eq0
returns-then-kept-eq0 c =
    let b = (goal.at.returns-then-kept-eq0 c).After-kept_of-kept in
    no_budget c.args.f.now c.requires.0 c.loop-k.k (within b) (sym (count b) ∙ c.if-kept-eq0.true) (λ j h. (c.loop-k.invariant.gathered j h).some)

pub store-requires : goal.store-requires
store-requires c =
    let b = (goal.at.store-requires c).After-kept_of-kept in
    (omega (arith, within b, c.requires.0.few), omega (arith, count b, list_most c.args.f.now c.requires.0 c.loop-k.k (within b)), c.loop-k.invariant.room)

pub loop-k-preserved : goal.loop-k-preserved
loop-k-preserved c =
    let b = (goal.at.loop-k-preserved c).After-kept_of-kept in
    let f = c.args.f.now in
    let at = c.loop-k in
    let some : 1 ≤ length (list_in f at.k) = omega (arith, count b, c.if-kept-eq0.false) in
    let stored : StoredAt at.k (part_in f at.k).period c.kept_of-kept.result at.offers c.store.new.offers =
    subst (λ (p : PartRead). StoredAt at.k p.part.period c.kept_of-kept.result at.offers c.store.new.offers) (part_read f c.requires.0 at.k c.loop-k-test.true) c.store.ensures in
    record {
      room = gather_room f c.requires.0 at.k c.kept_of-kept.result at.invariant.room (within b) (kept b) some stored;
      count = stored.count ∙ at.invariant.count;
      gathered = gather_step f c.requires.0 at.k c.kept_of-kept.result at.invariant.room (within b) (kept b) some stored at.invariant.gathered;
    }

-- behind the loop all parts are gathered
all : (c : After-loop-k) → (k : ℕ) → k < c.args.f.now.count → OfferedAt c.args.f.now c.loop-k.offers k
all c k h = c.loop-k.invariant.gathered k (omega (arith, c.loop-k-test.false, parts_long c.args.f.now c.requires.0))

pub select-requires : goal.select-requires
select-requires c =
    offers_fine c.args.f.now c.requires.0 c.loop-k.offers c.loop-k.invariant.count (all (goal.at.select-requires c).After-loop-k) c.requires.1

pub returns-in_default : goal.returns-in_default
returns-in_default c =
    none_found c.args.f.now c.requires.0 c.loop-k.offers c.loop-k.invariant.count (all (goal.at.returns-in_default c).After-loop-k) c.select.result c.select.ensures c.in_default.is

pub returns : goal.returns
returns c =
    ap Ok c.rows_by.ensures
    ∙ rows_found c.args.f.now c.requires.0 c.loop-k.offers c.loop-k.invariant.count (all (goal.at.returns c).After-loop-k) c.select.result c.select.ensures c.in-Some.chosen c.in-Some.is
