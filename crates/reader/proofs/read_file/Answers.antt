-- `reader::read_file` meets its contract: the lines, then the marks.
-- Assumes nothing.
use Rattle.reader.proofs.Marking.{lines_marked}
use Rattle.reader.proofs.read_file.Goals as goal

pub returns-clause-read : goal.returns-clause-read
returns-clause-read c = lines_marked c.in_ok-read_lines.ensures.read c.mark_shared.ensures
