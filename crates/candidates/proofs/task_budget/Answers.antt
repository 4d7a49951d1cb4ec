-- `candidates::task_budget` meets its contract.
-- Assumes nothing.
use Rattle.std.specs.Prelude.{Some}
use mathlib.Core.Path.{◌≡◌, sym, ap, ◌∙◌}
use mathlib.Core.List.{List}
use lib.ListN.{get_or}
use Rattle.task_set.specs.declared.Task.{Task}
use Rattle.budget.specs.Code.Passing.{above}
use Rattle.budget.proofs.Narrow.{passed_at}
use Rattle.candidates.specs.declared.Budgeted.{Budgeted}
use Rattle.candidates.specs.Code.KeptSearch.{due_at}
use Rattle.candidates.proofs.Budgets.{again_same, again_other}
use Rattle.candidates.proofs.task_budget.Goals as goal
use Rattle.candidates.proofs.task_budget.Goals.{Start, in_default-via-in-Some+else-last-k, in_default-via-in_default}

-- the task and those above it
abbrev task : Start → Task
task s = due_at s.args.tables.now s.args.k

abbrev higher : Start → List Task
higher s = above s.args.tables.now.columns.times s.args.k

pub returns-in-Some : goal.returns-in-Some
returns-in-Some c =
    let s = (goal.at.returns-in-Some c).Start in
    let same = again_same c.args.tables.now.period c.args.b (task s) (higher s) c.args.last.now c.args.k c.args.q c.in-Some.last c.in-Some.is c.if-last-k.true in
    passed_at c.args.tables.now.period c.args.b (task s) (higher s) _ c.args.q c.args.start same c.requires.start_some c.requires.none_met

pub returns-in_default : goal.returns-in_default
returns-in_default c =
    let s = (goal.at.returns-in_default c).Start in
    let other : (l : Budgeted) → c.args.last.now ≡ Some l → get_or l.blocked c.args.k 0 ≡ c.args.b → ⊥ = λ l e is.
    elim c.in_default.branch [
      | in_default-via-in-Some+else-last-k w ↦ let same : l ≡ w.in-Some.last = cc (e, w.in-Some.is) in w.if-last-k.false (ap (λ (x : Budgeted). get_or x.blocked c.args.k 0) (sym same) ∙ is)
      | in_default-via-in_default w ↦ w.in_default.not-Some l e
    ] in
    let r = c.least_budget.ensures in
    record { value = r.value ∙ sym (again_other c.args.tables.now.period c.args.b (task s) (higher s) c.args.last.now c.args.k c.args.q other); early = r.early }
