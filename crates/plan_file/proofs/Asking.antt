-- What a record enters, by how far its questions have the answer yes: one law for each way through `ask_part`, `ask_task` and `ask_lock`.
-- Assumes nothing.
use Prim.Native.Nat.{ℕ, suc, ◌≤◌, ◌<◌}
use native.Mathlib.Omega.{arith}
use mathlib.Core.Path.{◌≡◌, refl, sym, ◌∙◌}
use mathlib.Core.Bool.{Bool, true, false, cond, not, ◌&&◌, and-false}
use mathlib.Core.List.{List}
use borrow.Author.Tests.{lt-ltb, le-ltb, le-leb, lt-leb, not-false}
use lib.Dec.{leb, ltb}
use lib.ListN.{length}
use Rattle.text.specs.Bytes.{among, mention}
use Rattle.text.specs.Decimal.{value_of}
use Rattle.refusal.specs.declared.Refusal.TheVariants.{Misplaced, BadName, KnownName, BadNumber, BadOrder, TooMany}
use Rattle.refusal.specs.Limits.{lock_limit}
use Rattle.refusal.specs.Questions.{first_no}
use Rattle.stretch.specs.declared.Span.{Span}
use Rattle.stretch.specs.Stretch.{bytes_of}
use Rattle.std.proofs.Common.{Option, Some, None, Ok, Err, ◌⊎◌, inl, inr}
use Rattle.std.specs.Option.{is_some}
use Rattle.fields.specs.Fields.{is_name, is_number}
use Rattle.fields.specs.Code.Fields.{number_in}
use Rattle.task_set.specs.declared.Task.{Task as TaskNumbers}
use Rattle.plan_file.specs.declared.Names.{Names}
use Rattle.plan_file.specs.declared.Entry.TheVariants.{Part, Task, Lock}
use Rattle.plan_file.specs.Reading.{part_questions, task_questions, lock_questions}
use Rattle.plan_file.specs.Code.Entries.{names_of, FineNames, place_in, place_among, entry_if, part_entry, task_entry, use_at, lock_entry}
use Rattle.plan_file.proofs.Places.{place_in_is, mention_limit, names_length}

-- a number field that was read
pub record NumberIs (bs : List ℕ) (v : ℕ) : Type 0 where
  pub good : is_number bs ≡ true
  pub value : value_of bs ≡ v

pub number_is : (bs : List ℕ) (v : ℕ) → number_in bs ≡ Some v → NumberIs bs v
unfolding number_in
number_is bs v e = go (is_number bs) refl
  where
    go : (b : Bool) → is_number bs ≡ b → NumberIs bs v
    go true t = let f : Some (value_of bs) ≡ Some v = simp t at e in record { good = t; value = cc }
    go false t = let f : ◌≡◌ {A = Option ℕ} None (Some v) = simp t at e in cc

pub number_none : (bs : List ℕ) → number_in bs ≡ None → is_number bs ≡ false
unfolding number_in
number_none bs e = go (is_number bs) refl
  where
    go : (b : Bool) → is_number bs ≡ b → is_number bs ≡ false
    go true t = let f : Some (value_of bs) ≡ None = simp t at e in cc
    go false t = t

-- the three numbers of a task that were read
abbrev pub numbers : List ℕ → List ℕ → List ℕ → Bool
numbers T C D = is_number T && (is_number C && is_number D)

pub record TimesAre (T C D : List ℕ) (t c d : ℕ) : Type 0 where
  pub good : numbers T C D ≡ true
  pub separation : value_of T ≡ t
  pub cost : value_of C ≡ c
  pub deadline : value_of D ≡ d

pub times_are : (T C D : List ℕ) {t c d : ℕ} → NumberIs T t → NumberIs C c → NumberIs D d → TimesAre T C D t c d
times_are T C D x y z = record { good = simp (x.good, y.good, z.good); separation = x.value; cost = y.value; deadline = z.value }

-- one of them is malformed
module _ (T C D : List ℕ) where
  pub separation_malformed : is_number T ≡ false → numbers T C D ≡ false
  separation_malformed e = simp e

  pub cost_malformed : is_number C ≡ false → numbers T C D ≡ false
  cost_malformed e = simp (e, and-false)

  pub deadline_malformed : is_number D ≡ false → numbers T C D ≡ false
  deadline_malformed e = simp (e, and-false)

-- question 4 and question 5 have the answer yes
pub record Named (allowed : Bool) (name : List ℕ) : Type 0 where
  pub here : allowed ≡ true
  pub good : is_name name ≡ true

-- question 6 by what a search among the names found
pub found_among : (name : List ℕ) (names : List (List ℕ)) → is_some (place_in name names) ≡ among name names
found_among name names = rw place_in_is (go (among name names))
  where
    go : (b : Bool) → is_some (cond b (Some (place_among name names)) None) ≡ b
    go true = refl
    go false = refl

-- question 6 of a part or a task, and whether there is room for one name more
module _ (s : List ℕ) (names : Names) (fine : FineNames names) where
  no_room : 16 ≤ names.count → leb (suc (length (names_of s names))) 16 ≡ false
  no_room l = lt-leb (suc (length (names_of s names))) 16 (omega (arith, names_length s names fine))

  room : names.count < 16 → leb (suc (length (names_of s names))) 16 ≡ true
  room l = le-leb (suc (length (names_of s names))) 16 (omega (arith, names_length s names fine))

-- of a `part`
module _ (s : List ℕ) (n : ℕ) (allowed : Bool) (parts : Names) (name P : Span) (fine : FineNames parts) where
  pub part_misplaced : allowed ≡ false → Err (Misplaced n) ≡ part_entry s n allowed parts name P
  unfolding part_entry part_questions first_no entry_if
  part_misplaced a = simp a

  pub part_misnamed : allowed ≡ true → is_name (bytes_of s name) ≡ false → Err (BadName n) ≡ part_entry s n allowed parts name P
  unfolding part_entry part_questions first_no entry_if
  part_misnamed a b = simp (a, b)

  pub part_known : Named allowed (bytes_of s name) → is_some (place_in (bytes_of s name) (names_of s parts)) ≡ true → Err (KnownName n) ≡ part_entry s n allowed parts name P
  unfolding part_entry part_questions first_no entry_if
  part_known a l = simp (a.here, a.good, sym (found_among _ _) ∙ l)

  pub part_misnumbered : Named allowed (bytes_of s name) → is_some (place_in (bytes_of s name) (names_of s parts)) ≡ false → is_number (bytes_of s P) ≡ false → Err (BadNumber n) ≡ part_entry s n allowed parts name P
  unfolding part_entry part_questions first_no entry_if
  part_misnumbered a l b = simp (a.here, a.good, sym (found_among _ _) ∙ l, b)

  pub part_too_many : {v : ℕ} → Named allowed (bytes_of s name) → is_some (place_in (bytes_of s name) (names_of s parts)) ≡ false → NumberIs (bytes_of s P) v → 16 ≤ parts.count → Err (TooMany n) ≡ part_entry s n allowed parts name P
  unfolding part_entry part_questions first_no entry_if
  part_too_many a l b h = simp (a.here, a.good, sym (found_among _ _) ∙ l, b.good, no_room s parts fine h)

  pub part_enters : {v : ℕ} → Named allowed (bytes_of s name) → is_some (place_in (bytes_of s name) (names_of s parts)) ≡ false → NumberIs (bytes_of s P) v → parts.count < 16 → Ok (Part name v) ≡ part_entry s n allowed parts name P
  unfolding part_entry part_questions first_no entry_if
  part_enters a l b h = simp (a.here, a.good, sym (found_among _ _) ∙ l, b.good, b.value, room s parts fine h)

-- of a `task`
module _ (s : List ℕ) (n : ℕ) (allowed : Bool) (tasks : Names) (name T C D : Span) (fine : FineNames tasks) where
  pub task_misplaced : allowed ≡ false → Err (Misplaced n) ≡ task_entry s n allowed tasks name T C D
  unfolding task_entry task_questions first_no entry_if
  task_misplaced a = simp a

  pub task_misnamed : allowed ≡ true → is_name (bytes_of s name) ≡ false → Err (BadName n) ≡ task_entry s n allowed tasks name T C D
  unfolding task_entry task_questions first_no entry_if
  task_misnamed a b = simp (a, b)

  pub task_known : Named allowed (bytes_of s name) → is_some (place_in (bytes_of s name) (names_of s tasks)) ≡ true → Err (KnownName n) ≡ task_entry s n allowed tasks name T C D
  unfolding task_entry task_questions first_no entry_if
  task_known a l = simp (a.here, a.good, sym (found_among _ _) ∙ l)

  pub task_misnumbered : Named allowed (bytes_of s name) → is_some (place_in (bytes_of s name) (names_of s tasks)) ≡ false → numbers (bytes_of s T) (bytes_of s C) (bytes_of s D) ≡ false → Err (BadNumber n) ≡ task_entry s n allowed tasks name T C D
  unfolding task_entry task_questions first_no entry_if
  task_misnumbered a l b = simp (a.here, a.good, sym (found_among _ _) ∙ l, b)

  pub task_misordered : {t c d : ℕ} → Named allowed (bytes_of s name) → is_some (place_in (bytes_of s name) (names_of s tasks)) ≡ false → TimesAre (bytes_of s T) (bytes_of s C) (bytes_of s D) t c d → (d < c) ⊎ ((c ≤ d) × (t < d)) → Err (BadOrder n) ≡ task_entry s n allowed tasks name T C D
  unfolding task_entry task_questions first_no entry_if
  task_misordered a l b (inl h) = simp (a.here, a.good, sym (found_among _ _) ∙ l, b.good, b.separation, b.cost, b.deadline, lt-leb _ _ h)
  task_misordered a l b (inr h) = simp (a.here, a.good, sym (found_among _ _) ∙ l, b.good, b.separation, b.cost, b.deadline, lt-leb _ _ h.1, and-false)

  pub task_too_many : {t c d : ℕ} → Named allowed (bytes_of s name) → is_some (place_in (bytes_of s name) (names_of s tasks)) ≡ false → TimesAre (bytes_of s T) (bytes_of s C) (bytes_of s D) t c d → c ≤ d → d ≤ t → 16 ≤ tasks.count → Err (TooMany n) ≡ task_entry s n allowed tasks name T C D
  unfolding task_entry task_questions first_no entry_if
  task_too_many a l b g k h = simp (a.here, a.good, sym (found_among _ _) ∙ l, b.good, b.separation, b.cost, b.deadline, le-leb _ _ g, le-leb _ _ k, no_room s tasks fine h)

  pub task_enters : {t c d : ℕ} → Named allowed (bytes_of s name) → is_some (place_in (bytes_of s name) (names_of s tasks)) ≡ false → TimesAre (bytes_of s T) (bytes_of s C) (bytes_of s D) t c d → c ≤ d → d ≤ t → tasks.count < 16 → Ok (Task name t c d) ≡ task_entry s n allowed tasks name T C D
  unfolding task_entry task_questions first_no entry_if
  task_enters a l b g k h = simp (a.here, a.good, sym (found_among _ _) ∙ l, b.good, b.separation, b.cost, b.deadline, le-leb _ _ g, le-leb _ _ k, room s tasks fine h)

-- of a `lock` whose name has the place j
module _ (s : List ℕ) (n : ℕ) (allowed : Bool) (last : TaskNumbers) (locks : Names) (name held : Span) (fine : FineNames locks) (few : locks.count ≤ 8) (j : ℕ) (at : j ≡ place_among (bytes_of s name) (names_of s locks)) where
  mentions : leb (length (mention (names_of s locks) (bytes_of s name))) lock_limit ≡ ltb j lock_limit
  mentions = rw at (mention_limit (names_of s locks) (bytes_of s name) (omega (arith, names_length s locks fine)))

  pub lock_misplaced : allowed ≡ false → Err (Misplaced n) ≡ lock_entry s n allowed last locks name held
  unfolding lock_entry lock_questions first_no entry_if
  lock_misplaced a = simp a

  pub lock_misnamed : allowed ≡ true → is_name (bytes_of s name) ≡ false → Err (BadName n) ≡ lock_entry s n allowed last locks name held
  unfolding lock_entry lock_questions first_no entry_if
  lock_misnamed a b = simp (a, b)

  pub lock_known : Named allowed (bytes_of s name) → 1 ≤ use_at last j → Err (KnownName n) ≡ lock_entry s n allowed last locks name held
  unfolding lock_entry lock_questions first_no entry_if
  lock_known a l = simp (a.here, a.good, ← at, le-leb 1 (use_at last j) l)

  pub lock_misnumbered : Named allowed (bytes_of s name) → use_at last j < 1 → is_number (bytes_of s held) ≡ false → Err (BadNumber n) ≡ lock_entry s n allowed last locks name held
  unfolding lock_entry lock_questions first_no entry_if
  lock_misnumbered a l b = simp (a.here, a.good, ← at, lt-leb 1 (use_at last j) l, b)

  pub lock_held_over_cost : {v : ℕ} → Named allowed (bytes_of s name) → use_at last j < 1 → NumberIs (bytes_of s held) v → last.cost < v → Err (BadOrder n) ≡ lock_entry s n allowed last locks name held
  unfolding lock_entry lock_questions first_no entry_if
  lock_held_over_cost a l b h = simp (a.here, a.good, ← at, lt-leb 1 (use_at last j) l, b.good, b.value, lt-leb _ _ h)

  pub lock_enters : {v : ℕ} → Named allowed (bytes_of s name) → use_at last j < 1 → NumberIs (bytes_of s held) v → v ≤ last.cost → j < 8 → Ok (Lock name j v) ≡ lock_entry s n allowed last locks name held
  unfolding lock_entry lock_questions first_no entry_if
  lock_enters a l b h g = simp (a.here, a.good, ← at, lt-leb 1 (use_at last j) l, b.good, b.value, le-leb _ _ h, mentions, lt-ltb j lock_limit g)

  pub lock_too_many : {v : ℕ} → Named allowed (bytes_of s name) → use_at last j < 1 → NumberIs (bytes_of s held) v → v ≤ last.cost → 8 ≤ j → Err (TooMany n) ≡ lock_entry s n allowed last locks name held
  unfolding lock_entry lock_questions first_no entry_if
  lock_too_many a l b h g = simp (a.here, a.good, ← at, lt-leb 1 (use_at last j) l, b.good, b.value, le-leb _ _ h, mentions, le-ltb j lock_limit g)
