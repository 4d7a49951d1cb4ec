-- `planning::print_plan` meets its contract. What is measured is the listing of the plan; it is written if it fits.
-- Assumes nothing.
use native.Mathlib.Omega.{arith}
use Rattle.printing.proofs.Ceilings.{shown_start, shown_more}
use Rattle.planning.proofs.Answering.{fine, to_print, no_room, printed_is}
use Rattle.planning.proofs.print_plan.Goals as goal

pub loop-k-init : goal.loop-k-init
loop-k-init c = shown_start _ _

pub show_ceilings-requires : goal.show_ceilings-requires
show_ceilings-requires c =
    let a = c.args in
    record { fine_part = fine a.file.now a.f.now a.rows.now c.requires c.loop-k.k c.loop-k-test.true; k_lt_part_limit = (omega (arith, c.requires.read.few), c.loop-k.invariant.room) }

pub loop-k-preserved : goal.loop-k-preserved
loop-k-preserved c =
    let a = c.args in
    shown_more a.f.now a.rows.now (fine a.file.now a.f.now a.rows.now c.requires) c.loop-k.k _ _ c.loop-k-test.true c.loop-k.invariant c.show_ceilings.ensures

pub invariant_of-listing : goal.invariant_of-listing
invariant_of-listing c = record { to_print = to_print c.args.file.now c.args.f.now c.args.rows.now c.requires _ c.weigh-weighed.ensures }

pub returns-then-out-length : goal.returns-then-out-length
returns-then-out-length c =
    no_room _ c.requires c.weigh-weighed.ensures (λ k h. c.loop-k.invariant.each k (omega arith)) c.args.out.now c.length.result c.length.ensures c.if-out-length.true

pub returns : goal.returns
returns c =
    printed_is _ c.requires c.weigh-weighed.ensures (λ k h. c.loop-k.invariant.each k (omega arith)) c.args.out.now c.write.new.out c.length.result c.write.result c.length.ensures c.if-out-length.false c.write.ensures
