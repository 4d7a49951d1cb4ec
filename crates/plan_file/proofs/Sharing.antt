-- Shared locks: a lock of a part is shared just if another part of the file names it. So which locks of a part are shared depends on its own lines and on which of
-- its locks another part names.
--   AnotherNames ps k name == a part other than part k has this lock name
-- Assumes nothing.
use Prim.Native.Nat.{ℕ, ◌≤◌}
use native.Mathlib.Omega.{arith}
use mathlib.Core.Path.{◌≡◌, refl, sym, ap, subst, subst₂, ◌∙◌}
use mathlib.Core.Bool.{Bool, true, false}
use mathlib.Core.Logic.{◌↔◌}
use mathlib.Core.List.{List, [], ◌∷◌, Memᴰ}
use borrow.Author.Tests.{leb-true, le-leb}
use lib.Dec.{leb}
use lib.ListN.{length, length-map}
use Rattle.least.specs.Lists.{nth_or, joined}
use Rattle.least.proofs.Lists.{same_test, map_same, nth_member, nth_of_map}
use Rattle.least.proofs.Passing.{PassesAt, passing_two, two_passing}
use Rattle.refusal.specs.Questions.Answer.{answered}
use Rattle.text.specs.Bytes.{among, distinct_after}
use Rattle.text.proofs.Bytes.{among_iff}
use Rattle.task_set.specs.Partition.{is_shared}
use Rattle.plan_file.specs.Above.{FilePart, no_part, lock_mentions, lock_names}
use Rattle.plan_file.specs.PartLines.{lines_of_part}
use Rattle.plan_file.specs.Statement.{NamedByAnother}
use Rattle.plan_file.specs.Numbers.{PlanPart, tasks_in, namers, is_shared_in, plan_part, plan_parts, parts_of, part_at}
use Rattle.plan_file.proofs.Reading.{parts_read}
use Rattle.plan_file.proofs.PartLines.{part_in, part_by_lines}
use Rattle.plan_file.proofs.FineTasks.{nth_map}

abbrev pub AnotherNames : List FilePart → ℕ → List ℕ → Type 0
AnotherNames ps k name = (j : ℕ) × (1 ≤ j) × (j ≤ length ps) × (j ≡ k → ⊥) × Memᴰ name (lock_names (nth_or no_part j ps))

abbrev names_it_lem : List ℕ → FilePart → Bool
names_it_lem name p = among name (lock_names p)

-- a lock that a part names is shared just if another part names it
pub shared_iff_another : (ps : List FilePart) (name : List ℕ) (k : ℕ) → 1 ≤ k → k ≤ length ps → Memᴰ name (lock_names (nth_or no_part k ps)) → (is_shared_in ps name ≡ true) ↔ AnotherNames ps k name
unfolding is_shared_in
shared_iff_another ps name k h l m = (to, from)
  where
    to : leb 2 (length (namers ps name)) ≡ true → AnotherNames ps k name
    to e =
        let p = two_passing (names_it_lem name) no_part ps k (leb-true 2 (length (namers ps name)) e) in
        (p.0, p.2.from, p.2.to, p.1, (among_iff name (lock_names (nth_or no_part p.0 ps))).0 p.2.passes)

    at : (j : ℕ) → 1 ≤ j → j ≤ length ps → Memᴰ name (lock_names (nth_or no_part j ps)) → PassesAt (names_it_lem name) no_part ps j
    at j a b n = record { from = a; to = b; passes = (among_iff name (lock_names (nth_or no_part j ps))).1 n }

    from : AnotherNames ps k name → leb 2 (length (namers ps name)) ≡ true
    from p = le-leb 2 (length (namers ps name)) (passing_two (names_it_lem name) no_part ps p.0 k (at p.0 p.1 p.2 p.4) (at k h l m) p.3)

-- a file with one part has no shared lock
pub alone_private : (p : FilePart) (name : List ℕ) → is_shared_in (p ∷ []) name ≡ false
unfolding is_shared_in
alone_private p name = go (is_shared_in (p ∷ []) name) refl
  where
    go : (b : Bool) → is_shared_in (p ∷ []) name ≡ b → b ≡ false
    go true e = let j = two_passing (names_it_lem name) no_part (p ∷ []) 1 (leb-true 2 (length (namers (p ∷ []) name)) e) in absurd (j.1 (omega (arith, j.2.from, j.2.to)))
    go false e = refl

-- a part of two files, where another part names a lock of it in both or in none, is the same in both
pub shared_same : (ps qs : List FilePart) (p : FilePart) (j k : ℕ) → 1 ≤ j → j ≤ length ps → nth_or no_part j ps ≡ p → 1 ≤ k → k ≤ length qs → nth_or no_part k qs ≡ p
    → ((name : List ℕ) → Memᴰ name (lock_names p) → AnotherNames ps j name ↔ AnotherNames qs k name) → plan_part ps p ≡ plan_part qs p
shared_same ps qs p j k a b e c d f both =
    ap (λ (marks : List Bool). record { name = p.name; locks = lock_names p; numbers = record { period = p.period; tasks = tasks_in p; locks = length (lock_names p); shared = marks } })
    (map_same (is_shared_in ps) (is_shared_in qs) (lock_names p) marked)
  where
    marked : (name : List ℕ) → Memᴰ name (lock_names p) → is_shared_in ps name ≡ is_shared_in qs name
    marked name m =
        let x = shared_iff_another ps name j a b (subst (λ (r : FilePart). Memᴰ name (lock_names r)) (sym e) m) in
        let y = shared_iff_another qs name k c d (subst (λ (r : FilePart). Memᴰ name (lock_names r)) (sym f) m) in
        same_test (is_shared_in ps name) (is_shared_in qs name) ((λ t. y.1 ((both name m).0 (x.0 t))), λ t. x.1 ((both name m).1 (y.0 t)))

-- part k of the parts of a file is what part k of the file says among them
pub part_of_parts : (ps : List FilePart) (k : ℕ) → part_at (plan_parts ps) k ≡ plan_part ps (nth_or no_part k ps)
unfolding lock_names lock_mentions joined distinct_after
part_of_parts ps k = nth_of_map (plan_part ps) no_part k ps

pub names_of_parts : (ps : List FilePart) (k : ℕ) → (part_at (plan_parts ps) k).locks ≡ lock_names (nth_or no_part k ps)
names_of_parts ps k = ap (λ (p : PlanPart). p.locks) (part_of_parts ps k)

another_iff : (ps : List FilePart) (k : ℕ) (name : List ℕ) → AnotherNames ps k name ↔ NamedByAnother (plan_parts ps) k name
another_iff ps k name = (
  (λ h. (h.0, h.1, rw (length-map ps (plan_part ps)) h.2, h.3, rw (names_of_parts ps h.0) h.4)),
  (λ h. (h.0, h.1, rw (length-map ps (plan_part ps)) at h.2, h.3, rw (names_of_parts ps h.0) at h.4)),
)

-- lock l of part k, by its name
module _ (ps : List FilePart) (k l : ℕ) (a : 1 ≤ k) (b : k ≤ length ps) (c : 1 ≤ l) (d : l ≤ length (lock_names (nth_or no_part k ps))) where
  abbrev lock : List ℕ
  lock = nth_or [] l (lock_names (nth_or no_part k ps))

  lock_marked : is_shared (plan_part ps (nth_or no_part k ps)).numbers l ≡ is_shared_in ps lock
  unfolding is_shared
  lock_marked = nth_map (is_shared_in ps) [] false l (lock_names (nth_or no_part k ps)) c d

  lock_shared_iff : (is_shared (plan_part ps (nth_or no_part k ps)).numbers l ≡ true) ↔ NamedByAnother (plan_parts ps) k lock
  lock_shared_iff =
      let x = shared_iff_another ps lock k a b (nth_member [] l (lock_names (nth_or no_part k ps)) c d) in
      let y = another_iff ps k lock in
      ((λ t. y.0 (x.0 (sym lock_marked ∙ t))), λ h. lock_marked ∙ x.1 (y.1 h))

-- of a readable file: lock l of part k is shared just if another part names it
abbrev SharedIffAnother : List PlanPart → Type 0
SharedIffAnother qs =
    (k : ℕ) → 1 ≤ k → k ≤ length qs → (l : ℕ) → 1 ≤ l → l ≤ (part_at qs k).numbers.locks → (is_shared (part_at qs k).numbers l ≡ true) ↔ NamedByAnother qs k (nth_or [] l (part_at qs k).locks)

parts_shared : (ps : List FilePart) → SharedIffAnother (plan_parts ps)
parts_shared ps k a b l c d =
    let e = part_of_parts ps k in
    rw e (lock_shared_iff ps k l a (rw (length-map ps (plan_part ps)) at b) c (rw e at d))

pub shared_iff_another_part : (s : List ℕ) (qs : List PlanPart) (k : ℕ) → parts_of s ≡ answered qs → 1 ≤ k → k ≤ length qs → (l : ℕ) → 1 ≤ l → l ≤ (part_at qs k).numbers.locks
    → (is_shared (part_at qs k).numbers l ≡ true) ↔ NamedByAnother qs k (nth_or [] l (part_at qs k).locks)
shared_iff_another_part s qs k e = let r = parts_read s qs e in subst SharedIffAnother r.2 (parts_shared r.0) k

-- of two readable files: a part depends on its own lines and on which of its locks another part names
abbrev SameNamed : List PlanPart → ℕ → List PlanPart → ℕ → Type 0
SameNamed qs j us k = (name : List ℕ) → Memᴰ name (part_at qs j).locks → NamedByAnother qs j name ↔ NamedByAnother us k name

parts_same : (ps rs : List FilePart) (j k : ℕ) → 1 ≤ j → j ≤ length (plan_parts ps) → 1 ≤ k → k ≤ length (plan_parts rs) → nth_or no_part j ps ≡ nth_or no_part k rs → SameNamed (plan_parts ps) j (plan_parts rs) k → part_at (plan_parts ps) j ≡ part_at (plan_parts rs) k
parts_same ps rs j k a b c d e both =
    part_of_parts ps j
    ∙ shared_same ps rs (nth_or no_part j ps) j k a (rw (length-map ps (plan_part ps)) at b) refl c (rw (length-map rs (plan_part rs)) at d) (sym e) named
    ∙ ap (plan_part rs) e ∙ sym (part_of_parts rs k)
  where
    named : (name : List ℕ) → Memᴰ name (lock_names (nth_or no_part j ps)) → AnotherNames ps j name ↔ AnotherNames rs k name
    named name m =
        let x = another_iff ps j name in
        let y = another_iff rs k name in
        let z = both name (rw (names_of_parts ps j) m) in
        ((λ h. y.1 (z.0 (x.0 h))), λ h. x.1 (z.1 (y.0 h)))

pub part_by_lines_and_names : (s u : List ℕ) (j k : ℕ) (qs us : List PlanPart) → parts_of s ≡ answered qs → parts_of u ≡ answered us → 1 ≤ j → j ≤ length qs → 1 ≤ k → k ≤ length us → lines_of_part j s ≡ lines_of_part k u
    → ((name : List ℕ) → Memᴰ name (part_at qs j).locks → NamedByAnother qs j name ↔ NamedByAnother us k name) → part_at qs j ≡ part_at us k
part_by_lines_and_names s u j k qs us e f a b c d lines both =
    let r = parts_read s qs e in
    let t = parts_read u us f in
    let same : nth_or no_part j r.0 ≡ nth_or no_part k t.0 = part_by_lines s r.0 j r.1 ∙ ap part_in lines ∙ sym (part_by_lines u t.0 k t.1) in
    subst₂ (λ (x y : List PlanPart). 1 ≤ j → j ≤ length x → 1 ≤ k → k ≤ length y → SameNamed x j y k → part_at x j ≡ part_at y k) r.2 t.2
    (λ a' b' c' d' both'. parts_same r.0 t.0 j k a' b' c' d' same both') a b c d both
