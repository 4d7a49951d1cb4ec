-- Request M-103: how great a number may be, and how great the sums and products over such numbers become.
--   NumberUpTo limit bs                     == the bytes of a number field are a number from 1 to the limit, in digits, without leading zero
--   number_fields r                         == the number fields of a record
--   SevenAsks limit n questions fields      == one question, between those with lower and those with higher numbers, asks whether all these fields are such numbers; a no is refused with 7 at n
--   RowUpTo limit r, SupplyUpTo limit P Q t == 1 ≤ Q ≤ P ≤ limit and X ≤ limit, or t ≤ limit
--   NumbersUpTo limit                       == file numbers and hand-set numbers may be up to the limit, for all fields, supply and X included
--   Weighable rows                          == question 12 lets these rows through
--   greatest_need limit                     == what a task needs that has only tasks above it, each with C = T = limit − 1, which come twice in so many ticks as the limit has
--   greatest_load limit                     == L(t) of a row at the limit that has only rows above it, each with P = Q = 1 and X at the limit, which come in every tick
--   GreatestValues limit                    == how great each sum and product of such numbers becomes; 64 bits hold the greatest of them
-- Assumes nothing.
use Rattle.std.specs.Prelude.{ℕ, ◌+◌, ◌-◌, ◌*◌, ◌^◌, ◌≤◌, ◌<◌, ◌≡◌, Bool, true, false, ◌↔◌, ltb, length}
use mathlib.Core.List.{List, [], ◌∷◌, ◌++◌, Memᴰ}
use Rattle.least.specs.declared.Frac.{Frac}
use Rattle.least.specs.Lists.{every}
use Rattle.refusal.specs.declared.Refusal.TheVariants.{BadNumber}
use Rattle.refusal.specs.Number.{refusal_number}
use Rattle.refusal.specs.Questions.{Question, ask}
use Rattle.refusal.specs.Questions.Answer.{answered}
use Rattle.text.specs.Bytes.{Line}
use Rattle.text.specs.Decimal.{is_digit, value_of, digits_of}
use Rattle.supply.specs.Supply.{round_of}
use Rattle.task_set.specs.declared.Task.{Task}
use Rattle.task_set.specs.Tasks.{higher, demand_in, greatest_held}
use Rattle.task_set.specs.Blocking.{Setting, blocking_of}
use Rattle.load.specs.declared.Row.{Row}
use Rattle.load.specs.Load.{bounds_of}
use Rattle.load.specs.Weigh.{RowFits}
use Rattle.fields.specs.Fields.{leading_zero}
use Rattle.records.specs.Records.{Record, record_in}
use Rattle.records.specs.Records.Record.{part, task, lock, end, no_record}
use Rattle.plan_file.specs.Above.{Above}
use Rattle.plan_file.specs.Reading.{questions_at}
use Rattle.plan_file.specs.Numbers.{PlanPart}
use Rattle.answers.specs.Answers.{plan_of}
use Rattle.planner.specs.SystemTest.{L}
use Rattle.planner.specs.Weighing.{CountFits}
use Rattle.planner.specs.Refusals.{PartOf, SupplyFits}

pub record NumberUpTo (limit : ℕ) (bs : List ℕ) : Type 0 where
  pub digits : every is_digit bs ≡ true
  pub plain : leading_zero bs ≡ false
  pub from : 1 ≤ value_of bs
  pub to : value_of bs ≤ limit

unfoldable pub number_fields : Record → List (List ℕ)
number_fields (part name P) = P ∷ []
number_fields (task name T C D) = T ∷ C ∷ D ∷ []
number_fields (lock name c) = c ∷ []
number_fields end = []
number_fields no_record = []

pub record SevenAsks (limit n : ℕ) (questions : List Question) (fields : List (List ℕ)) : Type 0 where
  pub before : List Question
  pub yes : Bool
  pub behind : List Question
  pub is : questions ≡ before ++ (ask (BadNumber n) yes ∷ behind)
  pub lower : every (λ q. ltb (refusal_number q.refusal) 7) before ≡ true
  pub higher : every (λ q. ltb 7 (refusal_number q.refusal)) behind ≡ true
  pub asks : (yes ≡ true) ↔ ((bs : List ℕ) → Memᴰ bs fields → NumberUpTo limit bs)

pub record RowUpTo (limit : ℕ) (r : Row) : Type 0 where
  pub budget_some : 1 ≤ r.budget
  pub budget_most : r.budget ≤ r.period
  pub period_most : r.period ≤ limit
  pub holding_most : r.holding ≤ limit

pub record SupplyUpTo (limit P Q t : ℕ) : Type 0 where
  pub budget_some : 1 ≤ Q
  pub budget_most : Q ≤ P
  pub period_most : P ≤ limit
  pub time_most : t ≤ limit

pub record NumbersUpTo (limit : ℕ) : Type 0 where
  -- question 7 asks it of all number fields of a line
  pub fields : (n : ℕ) (a : Above) (l : Line) → 1 ≤ length (number_fields (record_in l)) → SevenAsks limit n (questions_at n a l) (number_fields (record_in l))
  -- from 1 to the limit there is no gap
  pub written : (n : ℕ) → 1 ≤ n → n ≤ limit → NumberUpTo limit (digits_of n) × (value_of (digits_of n) ≡ n)
  -- question 12 takes the same limit
  pub row : (r : Row) → RowFits r ↔ RowUpTo limit r
  pub supply : (P Q t : ℕ) → SupplyFits P Q t ↔ SupplyUpTo limit P Q t

pub record Weighable (rows : List Row) : Type 0 where
  pub count : CountFits rows
  pub fit : (r : Row) → Memᴰ r rows → RowFits r

abbrev pub greatest_need : ℕ → ℕ
greatest_need limit = limit + 15 * (2 * (limit - 1))

abbrev pub greatest_load : ℕ → ℕ
greatest_load limit = 2 * limit + 15 * (limit * (limit + 1))

pub record GreatestValues (limit : ℕ) : Type 0 where
  -- what is asked for while a lock is held: its longest use, and up to fifteen tasks above its ceiling
  pub holding : (s : List ℕ) (k : ℕ) (p : PlanPart) → PartOf s k p → (l r w : ℕ) → 1 ≤ l → l ≤ p.numbers.locks → 1 ≤ r → w ≤ limit
      → greatest_held l p.numbers.tasks + demand_in (higher r p.numbers.tasks) w ≤ greatest_need limit
  -- what a task needs: its C, the tasks above it, and its blocking; and a file with a task that needs it
  pub need : (s : List ℕ) (k : ℕ) (p : PlanPart) → PartOf s k p → (σ : Setting) (lower : List Task) (task : Task) (higher : List Task)
      → lower ++ (task ∷ higher) ≡ p.numbers.tasks → (t : ℕ) → t ≤ limit → task.cost + demand_in higher t + blocking_of p.numbers.locks σ lower ≤ greatest_need limit
  pub need_reached : (s : List ℕ) × (p : PlanPart) × PartOf s 1 p × (task : Task) × (higher : List Task) × (task ∷ higher ≡ p.numbers.tasks) × (task.cost + demand_in higher limit ≡ greatest_need limit)
  -- the supply's (k+1)P
  pub supply : (P Q t : ℕ) → SupplyFits P Q t → (round_of P Q t + 1) * P ≤ 3 * (limit - 1)
  pub supply_reached : (round_of (limit - 1) (limit - 1) limit + 1) * (limit - 1) ≡ 3 * (limit - 1)
  -- L(t) of a row, and rows that reach it
  pub load : (rows : List Row) → Weighable rows → (i t : ℕ) → 1 ≤ i → i ≤ length rows → t ≤ limit → L rows i t ≤ greatest_load limit
  pub load_reached : (rows : List Row) × Weighable rows × (L rows 1 limit ≡ greatest_load limit)
  -- loads are compared as fractions, by cross products
  pub product : (rows : List Row) → Weighable rows → (a b : Frac) → Memᴰ a (bounds_of rows) → Memᴰ b (bounds_of rows) → a.num * b.den ≤ limit * limit
  -- a listing in bytes
  pub listing : (s : List ℕ) (room : ℕ) (text : List ℕ) → plan_of s room ≡ answered text → length text ≤ 3470
  -- the greatest of all these fits in 64 bits
  pub fits : greatest_load limit < 2 ^ 64
