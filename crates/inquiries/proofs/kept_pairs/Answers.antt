-- `inquiries::kept_pairs` meets its contract: the list of the part that the reader handed on, or the first question with a no.
-- Assumes nothing.
use Prim.Native.Nat.{◌-◌}
use native.Mathlib.Omega.{arith}
use mathlib.Core.Path.{◌≡◌, sym, ap, ◌∙◌}
use lib.ListN.{length, get_or}
use Rattle.std.proofs.lemmas.Result.{err_from_is_err_and}
use Rattle.task_set.specs.Code.Partition.{partition_of}
use Rattle.candidates.specs.declared.Kept.{Kept}
use Rattle.candidates.specs.Candidates.{kept_list, kept_answer}
use Rattle.reader.specs.declared.PartRead.{PartRead}
use Rattle.reader.specs.Code.Reader.{blank_part}
use Rattle.reader.proofs.Fine.{handed_fine}
use Rattle.answers.specs.Answers.{candidate_list}
use Rattle.inquiries.specs.Code.Listed.{listed}
use Rattle.inquiries.proofs.Named.{number_range}
use Rattle.inquiries.proofs.Listed.{candidates_refused, candidates_not_given, candidates_none, candidates_given}
use Rattle.inquiries.proofs.kept_pairs.Goals as goal
use Rattle.inquiries.proofs.kept_pairs.Goals.{After-kept_of-kept}

pub returns-in_err-read_file : goal.returns-in_err-read_file
returns-in_err-read_file c =
    let p = err_from_is_err_and c.from_residual.result c.from_residual.ensures.1 in
    rw (p.1, p.2) (candidates_refused _ _ _ c.in_err-read_file.ensures.read)

pub returns-in_err-part_at : goal.returns-in_err-part_at
returns-in_err-part_at c =
    let p = err_from_is_err_and c.from_residual-in_err-part_at.result c.from_residual-in_err-part_at.ensures.1 in
    let g = c.in_err-part_at.ensures in
    rw (p.1, p.2, g.1) (candidates_not_given _ _ _ c.in_ok-read_file.ensures.read g.0)

pub kept_of-kept-requires : goal.kept_of-kept-requires
kept_of-kept-requires c =
    let g = c.in_ok-part_at.ensures in
    let most = number_range c.args.part c.read_file.new.f.count g.0 in
    let f = handed_fine _ _ c.in_ok-read_file.ensures.read (c.args.part - 1) blank_part (omega (arith, most)) in
    rw g.1 (f.fine, f.period_some, omega (arith, f.period_most))

-- the list is that of the part
list_is : (c : After-kept_of-kept) → c.kept_of-kept.result ≡ kept_answer (kept_list (partition_of (get_or c.read_file.new.f.parts (c.args.part - 1) blank_part).part))
list_is c = c.kept_of-kept.ensures ∙ ap (λ (p : PartRead). kept_answer (kept_list (partition_of p.part))) c.in_ok-part_at.ensures.1

count_is : (c : After-kept_of-kept) → c.kept_of-kept.result.count ≡ length (kept_list (partition_of (get_or c.read_file.new.f.parts (c.args.part - 1) blank_part).part))
unfolding kept_answer
count_is c = ap (λ (k : Kept). k.count) (list_is c)

pub returns-then-kept-eq0 : goal.returns-then-kept-eq0
returns-then-kept-eq0 c =
    let k = (goal.at.returns-then-kept-eq0 c).After-kept_of-kept in
    let g = c.in_ok-part_at.ensures in
    let most = number_range c.args.part c.read_file.new.f.count g.0 in
    candidates_none _ _ _ c.in_ok-read_file.ensures.read blank_part g.0 most.0 most.1 (sym (count_is k) ∙ c.if-kept-eq0.true)

pub returns : goal.returns
unfolding candidate_list
returns c =
    let k = (goal.at.returns c).After-kept_of-kept in
    let g = c.in_ok-part_at.ensures in
    let most = number_range c.args.part c.read_file.new.f.count g.0 in
    ap candidate_list (candidates_given _ _ _ c.in_ok-read_file.ensures.read blank_part g.0 most.0 most.1 (omega (arith, count_is k, c.if-kept-eq0.false))) ∙ ap listed (sym (list_is k))
