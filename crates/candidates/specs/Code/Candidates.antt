-- The kept list as an answer.
--   kept_of v == the kept list as an answer: up to kept_limit pairs, their count, zeros behind them
-- Assumes nothing.
use Rattle.task_set.specs.Partition.{Partition}
use Rattle.candidates.specs.declared.Kept.{Kept}
use Rattle.candidates.specs.Candidates.{kept_list, kept_answer}

abbrev pub kept_of : Partition → Kept
kept_of v = kept_answer (kept_list v)
