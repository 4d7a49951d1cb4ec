-- Demand 1 as a statement: whoever hands over a plan file, hand-set shares or a buffer, of any bytes, numbers and length, gets a complete answer or
-- one numbered refusal, by the fixed order of questions, and a refusal writes nothing into the lent buffer. In which case each refusal comes is demand 2.
--   OfTheFile r          == a refusal by a question of reading: 1 to 9
--   OfThePlan r          == such a refusal, or one by questions 10, 11 or 14
--   OfTheChart r         == such a refusal, or one by questions 10, 11, 19 or 14
--   LentBytes Promise Of == demand 1 of an operation that writes into lent bytes: it promises `Promise` of the file, the lent bytes before, the result
--                      and the lent bytes after, and its refusals are among `Of`
--   Demand1 Promise == demand 1 of the operations, of which a plan promises `Promise`; `plan` promises `PlanAnswered`, and `chart` `ChartAnswered`
-- Assumes nothing.
use Rattle.std.specs.Prelude.{ℕ, ◌≤◌, ◌≡◌, true, ◌⊎◌, List, length, drop}
use Rattle.refusal.specs.declared.Refusal.{Refusal}
use Rattle.refusal.specs.declared.Refusal.TheVariants.{NoBudget, NoChoice, BadHandSet, NoTime, NoRoom, OutOfCycle}
use Rattle.refusal.specs.declared.Outcome.TheVariants.{Refused}
use Rattle.refusal.specs.Number.{is_of_the_file}
use Rattle.refusal.specs.Questions.Answer.{answered, refused}
use Rattle.load.specs.declared.Row.{Row}
use Rattle.load.specs.declared.Rows.{Rows}
use Rattle.load.specs.Weigh.{weigh_of, weigh_rows}
use Rattle.plan_file.specs.Statement.{RefusedAt}
use Rattle.answers.specs.declared.Planned.{Planned}
use Rattle.answers.specs.Answers.{HandedOver, ChartAnswered, candidates_of, name_of, supply_answer}

abbrev pub OfTheFile : Refusal → Type 0
OfTheFile r = is_of_the_file r ≡ true

abbrev pub OfThePlan : Refusal → Type 0
OfThePlan r = OfTheFile r ⊎ (((j : ℕ) × (r ≡ NoBudget j)) ⊎ ((r ≡ NoChoice) ⊎ (r ≡ NoRoom)))

abbrev pub OfTheChart : Refusal → Type 0
OfTheChart r = OfTheFile r ⊎ (((j : ℕ) × (r ≡ NoBudget j)) ⊎ ((r ≡ NoChoice) ⊎ (((k : ℕ) × (r ≡ OutOfCycle k)) ⊎ (r ≡ NoRoom))))

pub record LentBytes (Promise : List ℕ → List ℕ → Planned → List ℕ → Type 0) (Of : Refusal → Type 0) : Type 0 where
  -- bytes that fit the lent ones are handed over, or a refusal; which bytes and which refusal is in demands 2 and 3
  pub complete : (s before : List ℕ) (r : Planned) (after : List ℕ) → Promise s before r after →
      ((text : List ℕ) × (length text ≤ length before) × HandedOver (answered text) before r after) ⊎ ((x : Refusal) × Of x × HandedOver (refused x) before r after)
  -- a file that questions 1 to 9 refuse gets that refusal, with its place
  pub unread : (s before : List ℕ) (r : Planned) (after : List ℕ) (x : Refusal) → Promise s before r after → RefusedAt s x → HandedOver (refused x) before r after
  -- a refusal writes nothing into the lent buffer
  pub untouched : (s before : List ℕ) (r : Planned) (after : List ℕ) (x : Refusal) → Promise s before r after → r.outcome ≡ Refused x → after ≡ before
  -- no byte after those that are counted is written
  pub others : (s before : List ℕ) (r : Planned) (after : List ℕ) → Promise s before r after → drop r.written after ≡ drop r.written before

pub record Demand1 (Promise : List ℕ → List ℕ → Planned → List ℕ → Type 0) : Type 0 where
  -- a plan: refused only by questions 1 to 9, by 10, 11 or 14
  pub plan : LentBytes Promise OfThePlan
  -- a chart: by these, or by 19
  pub chart : LentBytes ChartAnswered OfTheChart
  -- candidates: refused only by questions 1 to 9, by 12, or by 10 for that part
  pub candidates : (s : List ℕ) (k : ℕ) (r : Refusal) → candidates_of s k ≡ refused r → OfTheFile r ⊎ ((r ≡ BadHandSet 0) ⊎ (r ≡ NoBudget k))
  -- a name: by questions 1 to 9, or by 12
  pub name : (s : List ℕ) (k : ℕ) (r : Refusal) → name_of s k ≡ refused r → OfTheFile r ⊎ (r ≡ BadHandSet 0)
  -- weighing, of a lent list and of a struct: by questions 12 or 13
  pub weigh : (rows : List Row) (r : Refusal) → (weigh_of rows).outcome ≡ Refused r → ((j : ℕ) × (r ≡ BadHandSet j)) ⊎ ((j : ℕ) × (r ≡ NoTime j))
  pub weigh_struct : (rows : Rows) (r : Refusal) → (weigh_rows rows).outcome ≡ Refused r → ((j : ℕ) × (r ≡ BadHandSet j)) ⊎ ((j : ℕ) × (r ≡ NoTime j))
  -- supply: by question 12
  pub supply : (P Q t : ℕ) (r : Refusal) → supply_answer P Q t ≡ refused r → r ≡ BadHandSet 0
