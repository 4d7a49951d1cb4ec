-- The demands leave nothing free.
-- Assumes nothing.
use Rattle.planner.specs.NothingFree.{NothingFree}
use Rattle.planner.proofs.LocalTest.{lock_holding_settled, holding_settled, blocking_settled, budget_settled, shown_settled}
use Rattle.planner.proofs.SystemTest.{bound_settled, row_settled, load_settled}
use Rattle.planner.proofs.Weighing.{weighed_settled}
use Rattle.planner.proofs.KeptList.{kept_settled}
use Rattle.planner.proofs.Settled.{text_settled, answer_settled, plan_settled, chart_settled}

pub nothing_free : NothingFree
nothing_free = record {
  listing = text_settled;
  answer = λ ps room a b h k. answer_settled h k;
  plan = plan_settled;
  chart = chart_settled;
  kept = λ v a b h k. kept_settled v a b h k;
  weighed = weighed_settled;
  lock_holding = λ ts l r v w h k. lock_holding_settled h k;
  holding = λ v σ X Y h k. holding_settled h k;
  blocking = λ m σ lower b c h k. blocking_settled h k;
  budget = λ v σ Q R h k. budget_settled h k;
  shown = λ v x l q r h k. shown_settled h k;
  bound = λ rows i b c h k. bound_settled h k;
  load = λ rows b c i j h k. (load_settled h k, row_settled h k);
}
