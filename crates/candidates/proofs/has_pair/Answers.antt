-- `candidates::has_pair` meets its contract.
-- Assumes nothing.
use mathlib.Core.Path.{◌∙◌}
use Rattle.candidates.proofs.Searching.{prepared, tables_fine}
use Rattle.candidates.proofs.AnyPair.{start_fine, lowest_pair}
use Rattle.candidates.proofs.has_pair.Goals as goal

pub budget_under-requires : goal.budget_under-requires
budget_under-requires c = let d = prepared c.requires c.tables_of-tables.ensures in (tables_fine d, start_fine d)

pub returns : goal.returns
returns c = c.is_some.ensures ∙ lowest_pair (prepared c.requires c.tables_of-tables.ensures) c.lowest_of-lowest.result c.lowest_of-lowest.ensures c.budget_under.result c.budget_under.ensures
