-- What candidates hands over where it is not refused.
--   listed kept == the answer with these pairs
-- Assumes nothing.
use Rattle.refusal.specs.declared.Outcome.TheVariants.{Done}
use Rattle.candidates.specs.declared.Kept.{Kept}
use Rattle.answers.specs.declared.CandidateList.{CandidateList}

abbrev pub listed : Kept → CandidateList
listed kept = record { outcome = Done; kept = kept }
