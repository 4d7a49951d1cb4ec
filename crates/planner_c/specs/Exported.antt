-- The answers of the operations as callers in C and Rust get them: an outcome is its number and its place, 0 and 0 on success.
--   plan_exported, candidates_exported, name_exported, weigh_exported, supply_exported == the answer of each operation so
--   BytesExported Promise s before r after                                             == r is so the result that an operation promises, of the file s and the lent bytes before and after
--   NameExported s k r                                                                 == r is the name of part k in the file s so, and its bytes stand there
-- Assumes nothing.
use Rattle.std.specs.Prelude.{ℕ, ◌≡◌, List, take, drop}
use Rattle.refusal.specs.Number.{number_of, place_of}
use Rattle.load.specs.declared.Weighed.{Weighed}
use Rattle.answers.specs.declared.Planned.{Planned}
use Rattle.answers.specs.declared.CandidateList.{CandidateList}
use Rattle.answers.specs.declared.Supplied.{Supplied}
use Rattle.answers.specs.Answers.{name_of, name_bytes}
use Rattle.inquiries.specs.declared.NameStretch.{NameStretch}
use Rattle.inquiries.specs.Stretch.{name_stretch}
use Rattle.planner_c.specs.declared.PlanAnswer.{PlanAnswer}
use Rattle.planner_c.specs.declared.CandidatesAnswer.{CandidatesAnswer}
use Rattle.planner_c.specs.declared.NameAnswer.{NameAnswer}
use Rattle.planner_c.specs.declared.WeighAnswer.{WeighAnswer}
use Rattle.planner_c.specs.declared.SupplyAnswer.{SupplyAnswer}

unfoldable pub plan_exported : Planned → PlanAnswer
plan_exported a = record { number = number_of a.outcome; place = place_of a.outcome; written = a.written }

pub record BytesExported (Promise : List ℕ → List ℕ → Planned → List ℕ → Type 0) (s before : List ℕ) (r : PlanAnswer) (after : List ℕ) : Type 0 where
  pub answer : Planned
  pub promised : Promise s before answer after
  pub is : r ≡ plan_exported answer

unfoldable pub candidates_exported : CandidateList → CandidatesAnswer
candidates_exported a = record { number = number_of a.outcome; place = place_of a.outcome; kept = a.kept }

-- a name is where it stands in the file: no bytes at 0 on refusal
unfoldable pub name_exported : NameStretch → NameAnswer
name_exported a = record { number = number_of a.outcome; place = place_of a.outcome; start = a.span.start; length = a.span.len }

-- and there stand its bytes
pub record NameExported (s : List ℕ) (k : ℕ) (r : NameAnswer) : Type 0 where
  pub is : r ≡ name_exported (name_stretch s k)
  pub bytes : take r.length (drop r.start s) ≡ name_bytes (name_of s k)

unfoldable pub weigh_exported : Weighed → WeighAnswer
weigh_exported a = record { number = number_of a.outcome; place = place_of a.outcome; bounds = a.bounds; load = a.load; row = a.row }

unfoldable pub supply_exported : Supplied → SupplyAnswer
supply_exported a = record { number = number_of a.outcome; place = place_of a.outcome; ticks = a.ticks }
