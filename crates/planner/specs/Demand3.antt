-- Demand 3 as a statement, for every readable file and all lent bytes, over every setting and every budget.
--   printed_rows shares == the rows that are printed
--   shown_for p s       == the ceilings shown for the X that is printed of the part p
--   PrintedShare p s    == what is printed of the part p is its part of a choice, with the ceilings shown for its X
--   Printed ps text     == what demand 3 says of a printed plan
--   NoBudgetAt ps j     == part j is the first that has no permitted setting with a budget
--   NoneToPlan ps r     == no choice passes, and r is the refusal that says so: 10 at the first part without a budget, else 11
--   Demanded ps room a  == a is what demand 3 asks of a plan of the parts ps, where this many bytes are lent
--   Demand3 Promise     == demand 3 of every operation that promises `Promise` of the file, the lent bytes before, the result and the lent bytes after;
--                         `plan` promises `PlanAnswered`
--   RefusedToPlan r                                   == r is refused with 10 or 11
--   InWords ps before r after, Demand3InWords Promise == the same, sentence by sentence
-- Assumes nothing.
use Rattle.std.specs.Prelude.{ℕ, ◌≤◌, ◌<◌, ◌≡◌, ◌⊎◌, ◌↔◌, true, List, map, length}
use Rattle.least.specs.Each.{Each}
use Rattle.least.specs.Fraction.{◌⊑◌}
use Rattle.refusal.specs.declared.Refusal.{Refusal}
use Rattle.refusal.specs.declared.Refusal.TheVariants.{NoBudget, NoChoice, NoRoom}
use Rattle.refusal.specs.declared.Outcome.TheVariants.{Refused}
use Rattle.refusal.specs.Questions.{Answer}
use Rattle.refusal.specs.Questions.Answer.{answered, refused}
use Rattle.task_set.specs.Blocking.{Setting}
use Rattle.load.specs.declared.Row.{Row}
use Rattle.load.specs.Load.{bounds_of, load_of, passes_system}
use Rattle.candidates.specs.Candidates.{shown_ceiling}
use Rattle.plan_file.specs.Numbers.{PlanPart, part_at, parts_of}
use Rattle.listing.specs.Listing.{Share, ceilings_under, listing_of}
use Rattle.answers.specs.declared.Planned.{Planned}
use Rattle.answers.specs.Answers.{HandedOver}
use Rattle.answers.specs.Choice.{Budgeted, WithoutBudget, row_under, Chosen, PassingChoice, BuiltFromKept}

abbrev pub printed_rows : List Share → List Row
printed_rows shares = map (λ s. s.row) shares

abbrev pub shown_for : PlanPart → Share → Setting
shown_for p s = shown_ceiling p.numbers s.row.holding

pub record PrintedShare (p : PlanPart) (s : Share) : Type 0 where
  -- its name is the part's
  pub name : s.name ≡ p.name
  -- its locks, in order of first mention, at the ceilings shown for its X
  pub ceilings : s.ceilings ≡ ceilings_under (shown_for p s) 1 p.locks
  -- these ceilings are a permitted setting, and its budget passes under them
  pub local : Budgeted p.numbers (shown_for p s) s.row.budget
  -- its row has its period, this budget and the X of these ceilings
  pub is : s.row ≡ row_under p.numbers (shown_for p s) s.row.budget

pub record Printed (ps : List PlanPart) (text : List ℕ) : Type 0 where
  -- what is printed of each part, in file order
  pub shares : List Share
  -- the text is their listing, byte for byte
  pub bytes : text ≡ listing_of shares
  -- what a plan prints is one such choice, that passes the system test too, with that choice's load: the bounds of its rows
  pub choice : Each PrintedShare ps shares
  pub system : passes_system (printed_rows shares) ≡ true
  pub bounds : map (λ s. s.bound) shares ≡ bounds_of (printed_rows shares)
  -- no such choice, of any ceilings and any whole-tick budgets, has a smaller load
  pub least : (rs : List Row) → PassingChoice ps rs → load_of (printed_rows shares) ⊑ load_of rs
  -- it is built from kept pairs
  pub kept : BuiltFromKept ps (printed_rows shares)
  -- every part has the greatest holding time that it has in any choice of that load built from kept pairs
  pub greatest : (rs : List Row) → PassingChoice ps rs → BuiltFromKept ps rs → load_of rs ⊑ load_of (printed_rows shares) → Each (λ s r. r.holding ≤ s.row.holding) shares rs

pub record NoBudgetAt (ps : List PlanPart) (j : ℕ) : Type 0 where
  -- j is the number of a part
  pub from : 1 ≤ j
  pub to : j ≤ length ps
  -- no permitted setting of this part has a budget
  pub none : WithoutBudget (part_at ps j).numbers
  -- every part before it has a row to choose
  pub first : (i : ℕ) → 1 ≤ i → i < j → (r : Row) × Chosen (part_at ps i).numbers r

pub data NoneToPlan (ps : List PlanPart) : Refusal → Type 0 where
  -- some part has no budget: 10 at the first of them
  ten : {j : ℕ} → NoBudgetAt ps j → NoneToPlan ps (NoBudget j)
  -- every part has a row to choose, and no choice passes: 11
  eleven : ((i : ℕ) → 1 ≤ i → i ≤ length ps → (r : Row) × Chosen (part_at ps i).numbers r) → ((rs : List Row) → PassingChoice ps rs → ⊥) → NoneToPlan ps NoChoice

pub data Demanded (ps : List PlanPart) (room : ℕ) : Answer (List ℕ) → Type 0 where
  -- no choice passes: it is refused with 10 or 11
  none_passes : {r : Refusal} → NoneToPlan ps r → Demanded ps room (refused r)
  -- one passes, and the listing fits: it is planned
  fits : {text : List ℕ} → Printed ps text → length text ≤ room → Demanded ps room (answered text)
  -- one passes, and the listing does not fit
  too_long : {text : List ℕ} → Printed ps text → room < length text → Demanded ps room (refused NoRoom)

abbrev pub Demand3 : (List ℕ → List ℕ → Planned → List ℕ → Type 0) → Type 0
Demand3 Promise =
    (s before : List ℕ) (r : Planned) (after : List ℕ) (ps : List PlanPart) → Promise s before r after → parts_of s ≡ answered ps →
    (a : Answer (List ℕ)) × Demanded ps (length before) a × HandedOver a before r after

abbrev pub RefusedToPlan : Planned → Type 0
RefusedToPlan r = ((j : ℕ) × (r.outcome ≡ Refused (NoBudget j))) ⊎ (r.outcome ≡ Refused NoChoice)

-- of a readable file with the parts ps
pub record InWords (ps : List PlanPart) (before : List ℕ) (r : Planned) (after : List ℕ) : Type 0 where
  -- it is refused with 10 or 11 exactly when no choice passes both the local and the system test
  pub refused_iff : RefusedToPlan r ↔ ((rs : List Row) → PassingChoice ps rs → ⊥)
  -- if one passes, the file is planned exactly when its listing fits
  pub planned_iff : (rs : List Row) → PassingChoice ps rs → (text : List ℕ) × Printed ps text × (HandedOver (answered text) before r after ↔ (length text ≤ length before))
  -- what a plan prints is one such choice, and no such choice has a smaller load
  pub least : (text : List ℕ) → HandedOver (answered text) before r after → (p : Printed ps text) × ((rs : List Row) → PassingChoice ps rs → load_of (printed_rows p.shares) ⊑ load_of rs)

abbrev pub Demand3InWords : (List ℕ → List ℕ → Planned → List ℕ → Type 0) → Type 0
Demand3InWords Promise =
    (s before : List ℕ) (r : Planned) (after : List ℕ) (ps : List PlanPart) → Promise s before r after → parts_of s ≡ answered ps → InWords ps before r after
