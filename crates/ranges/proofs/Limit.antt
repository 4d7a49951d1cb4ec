-- File numbers and hand-set numbers may be up to 1,000,000: question 7 and question 12 ask for that, and for no less.
-- Assumes nothing.
use Prim.Native.Nat.{ℕ, ◌≤◌}
use native.Mathlib.Omega.{arith}
use mathlib.Core.Path.{◌≡◌, refl, sym, subst}
use mathlib.Core.Bool.{Bool, true, ◌&&◌}
use mathlib.Core.Logic.{◌↔◌}
use mathlib.Core.List.Memᴰ
use mathlib.Core.List.{List, [], ◌∷◌, Memᴰ}
use lib.ListN.{length, take, drop}
use Rattle.least.specs.Lists.{every}
use Rattle.least.proofs.Lists.{and_iff}
use Rattle.text.specs.Bytes.{Line}
use Rattle.text.specs.Decimal.{digits_of}
use Rattle.text.proofs.Decimal.{value_digits}
use Rattle.refusal.specs.declared.Refusal.TheVariants.{BadLine}
use Rattle.refusal.specs.Limits.{number_limit}
use Rattle.refusal.specs.Questions.{Question, ask}
use Rattle.load.specs.declared.Row.{Row}
use Rattle.load.specs.Weigh.{RowFits}
use Rattle.scan.specs.Line.{line_is_good}
use Rattle.fields.specs.Fields.{is_number}
use Rattle.fields.proofs.Fields.{number_iff, number_digits}
use Rattle.records.specs.Records.{Record, record_in}
use Rattle.records.specs.Records.Record.{part, task, lock, end, no_record}
use Rattle.plan_file.specs.Above.{Above}
use Rattle.plan_file.specs.Reading.{part_questions, task_questions, lock_questions, record_questions, questions_at}
use Rattle.planner.specs.Refusals.{SupplyFits}
use Rattle.ranges.specs.Ranges.{NumberUpTo, number_fields, SevenAsks, RowUpTo, SupplyUpTo, NumbersUpTo}

up_to_iff : (bs : List ℕ) → (is_number bs ≡ true) ↔ NumberUpTo number_limit bs
up_to_iff bs = (
  (λ e. let n = (number_iff bs).0 e in record { digits = n.digits; plain = n.plain; from = n.from; to = n.to }),
  (λ n. (number_iff bs).1 (record { digits = n.digits; plain = n.plain; from = n.from; to = n.to })),
)

-- what question 7 asks of one field, and of three
abbrev AllUpTo : List (List ℕ) → Type 0
AllUpTo fields = (bs : List ℕ) → Memᴰ bs fields → NumberUpTo number_limit bs

one_up_to_iff : (P : List ℕ) → (is_number P ≡ true) ↔ AllUpTo (P ∷ [])
one_up_to_iff P = ((λ e bs m. subst (NumberUpTo number_limit) (sym (Memᴰ.eq_of_singleton m)) ((up_to_iff P).0 e)), λ h. (up_to_iff P).1 (h P (Memᴰ.head refl)))

three_up_to_iff : (T C D : List ℕ) → (is_number T && (is_number C && is_number D) ≡ true) ↔ AllUpTo (T ∷ C ∷ D ∷ [])
three_up_to_iff T C D = (to, from)
  where
    to : is_number T && (is_number C && is_number D) ≡ true → AllUpTo (T ∷ C ∷ D ∷ [])
    to e bs (Memᴰ.head s) = rw s ((up_to_iff T).0 ((and_iff (is_number T) (is_number C && is_number D)).0 e).0)
    to e bs (Memᴰ.tail (Memᴰ.head s)) = rw s ((up_to_iff C).0 ((and_iff (is_number C) (is_number D)).0 ((and_iff (is_number T) (is_number C && is_number D)).0 e).1).0)
    to e bs (Memᴰ.tail (Memᴰ.tail m)) = (one_up_to_iff D).0 ((and_iff (is_number C) (is_number D)).0 ((and_iff (is_number T) (is_number C && is_number D)).0 e).1).1 bs m

    from : AllUpTo (T ∷ C ∷ D ∷ []) → is_number T && (is_number C && is_number D) ≡ true
    from h = simp ((up_to_iff T).1 (h T (Memᴰ.head refl)), (up_to_iff C).1 (h C (Memᴰ.tail (Memᴰ.head refl))), (one_up_to_iff D).1 (λ bs m. h bs (Memᴰ.tail (Memᴰ.tail m))))

module _ (n : ℕ) (a : Above) (good : Bool) where
  -- questions 2 to 9 of a record
  abbrev asked : Record → List Question
  asked r = ask (BadLine n) good ∷ record_questions n a r

  record_asked : (r : Record) → 1 ≤ length (number_fields r) → SevenAsks number_limit n (asked r) (number_fields r)
  unfolding record_questions part_questions task_questions lock_questions number_fields every
  record_asked (part name P) h = record {
    before = take 4 (asked (part name P));
    yes = is_number P;
    behind = drop 5 (asked (part name P));
    is = refl;
    lower = refl;
    higher = refl;
    asks = one_up_to_iff P;
  }
  record_asked (task name T C D) h = record {
    before = take 4 (asked (task name T C D));
    yes = is_number T && (is_number C && is_number D);
    behind = drop 5 (asked (task name T C D));
    is = refl;
    lower = refl;
    higher = refl;
    asks = three_up_to_iff T C D;
  }
  record_asked (lock name c) h = record {
    before = take 4 (asked (lock name c));
    yes = is_number c;
    behind = drop 5 (asked (lock name c));
    is = refl;
    lower = refl;
    higher = refl;
    asks = one_up_to_iff c;
  }
  record_asked end h = absurd (omega arith)
  record_asked no_record h = absurd (omega arith)

line_asked : (n : ℕ) (a : Above) (l : Line) → 1 ≤ length (number_fields (record_in l)) → SevenAsks number_limit n (questions_at n a l) (number_fields (record_in l))
unfolding questions_at
line_asked n a l h = record_asked n a (line_is_good l) (record_in l) h

row_fits_iff : (r : Row) → RowFits r ↔ RowUpTo number_limit r
row_fits_iff r = (
  (λ f. record { budget_some = f.budget_some; budget_most = f.budget_most; period_most = f.period_most; holding_most = f.holding_most }),
  (λ f. record { budget_some = f.budget_some; budget_most = f.budget_most; period_most = f.period_most; holding_most = f.holding_most }),
)

supply_fits_iff : (P Q t : ℕ) → SupplyFits P Q t ↔ SupplyUpTo number_limit P Q t
supply_fits_iff P Q t = (
  (λ f. record { budget_some = f.budget_some; budget_most = f.budget_most; period_most = f.period_most; time_most = f.time_most }),
  (λ f. record { budget_some = f.budget_some; budget_most = f.budget_most; period_most = f.period_most; time_most = f.time_most }),
)

pub numbers_up_to : NumbersUpTo 1000000
numbers_up_to = record { fields = line_asked; written = λ n h k. ((up_to_iff (digits_of n)).0 (number_digits n h k), value_digits n); row = row_fits_iff; supply = supply_fits_iff }
