-- `inquiries::name_span` meets its contract: the stretch that the reader handed on, or the first question with a no.
-- Assumes nothing.
use mathlib.Core.Path.{ap, ◌∙◌}
use Rattle.std.proofs.lemmas.Result.{err_from_is_err_and}
use Rattle.refusal.specs.Questions.Answer.{answered}
use Rattle.reader.specs.Code.Reader.{blank_part}
use Rattle.inquiries.proofs.Named.{name_refused, name_given, name_not_given, name_is, number_range, span_is}
use Rattle.inquiries.proofs.name_span.Goals as goal

pub returns-in_err-read_file : goal.returns-in_err-read_file
returns-in_err-read_file c =
    let p = err_from_is_err_and c.from_residual.result c.from_residual.ensures.1 in
    rw (p.1, p.2) (name_refused _ _ _ c.in_err-read_file.ensures.read)

pub returns-in_err-part_at : goal.returns-in_err-part_at
returns-in_err-part_at c =
    let p = err_from_is_err_and c.from_residual-in_err-part_at.result c.from_residual-in_err-part_at.ensures.1 in
    let g = c.in_err-part_at.ensures in
    rw (p.1, p.2, g.1) (name_not_given _ _ _ c.in_ok-read_file.ensures.read g.0)

pub returns : goal.returns
returns c =
    let is = c.in_ok-read_file.ensures.read in
    let g = c.in_ok-part_at.ensures in
    let most = number_range c.args.part c.read_file.new.f.count g.0 in
    rw g.1 (name_given _ _ _ is g.0 ∙ ap answered (name_is _ _ _ is blank_part most.0 most.1), span_is _ _ is _ blank_part most.0 most.1)
