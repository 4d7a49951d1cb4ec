-- The theorem of request M-109.
-- Assumes nothing.
use Rattle.layout.proofs.Served.{served_each}
use Rattle.layout.proofs.Chart.{holder_again, chart_length, chart_at, chart_delivers}
use Rattle.layout.proofs.Words.{no_more_each, free_in_cycle}
use Rattle.planner.proofs.ChartRefusals.{all_in_cycle_iff}
use Rattle.cycle_chart.specs.CycleChart.{CycleChart}
use Rattle.cycle_chart.proofs.Sentences.{laid_out, one_holder, one_due, no_holding}
use Rattle.cycle_chart.proofs.Operation.{charted_if, if_charted, charted, unplanned, out_of_cycle, no_room}

pub cycle_chart : CycleChart
cycle_chart = record {
  laid_out = laid_out;
  one_holder = one_holder;
  one_due = one_due;
  one_a_tick = chart_length;
  bytes = chart_at;
  served = served_each;
  repeats = λ rows c. holder_again rows ((all_in_cycle_iff rows).1 c);
  again = λ rows p c. chart_delivers rows ((all_in_cycle_iff rows).1 c) p;
  no_more = no_more_each;
  no_holding = no_holding;
  unassigned = λ rows p c. free_in_cycle rows p ((all_in_cycle_iff rows).1 c);
  charted_iff = λ s before r after a. (charted_if s before r after a, if_charted s before r after a);
  unplanned = unplanned;
  out_of_cycle = out_of_cycle;
  no_room = no_room;
  charted = charted;
}
