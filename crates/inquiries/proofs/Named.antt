-- The name of a part, from what the reader hands on.
-- Assumes nothing.
use Prim.Native.Nat.{ℕ, zero, suc, ◌-◌, ◌≤◌, ◌<◌}
use native.Mathlib.Omega.{arith}
use mathlib.Core.Path.{◌≡◌, refl, sym, ap, ◌∙◌}
use mathlib.Core.Bool.{true, false, ◌&&◌}
use mathlib.Core.List.{List}
use borrow.Author.Tests.{leb-true}
use lib.Dec.{leb}
use lib.ListN.{take, get_or}
use lib.Seq.{get_or-take}
use Rattle.least.specs.Lists.{nth_or}
use Rattle.least.proofs.Lists.{nth_get, nth_of_map, and_iff}
use Rattle.least.proofs.Members.{get_d_any}
use Rattle.refusal.specs.declared.Refusal.{Refusal}
use Rattle.refusal.specs.declared.Refusal.TheVariants.{BadHandSet}
use Rattle.refusal.specs.declared.Outcome.TheVariants.{Done}
use Rattle.refusal.specs.Questions.{Answer, outcome_of, when_answered, when_done, first_no}
use Rattle.refusal.specs.Questions.Answer.{answered, refused}
use Rattle.stretch.specs.declared.Span.{Span}
use Rattle.stretch.specs.Stretch.{bytes_of}
use Rattle.plan_file.specs.Numbers.{PlanPart, parts_of, part_at}
use Rattle.plan_file.specs.Stretches.{no_span, name_spans}
use Rattle.reader.specs.declared.PartRead.{PartRead}
use Rattle.reader.specs.declared.PlanFile.{PlanFile}
use Rattle.reader.specs.Code.Reader.{blank_part, part_of, parts_in, ReadIs}
use Rattle.reader.proofs.Handed.{parts_count, part_number}
use Rattle.answers.specs.Answers.{is_part_number, name_of, name_bytes}
use Rattle.inquiries.specs.Stretch.{no_name, stretched, name_stretch, StretchIs}

pub name_refused : (s : List ℕ) (k : ℕ) (r : Refusal) → parts_of s ≡ refused r → name_of s k ≡ refused r
unfolding name_of when_answered
name_refused s k r e = rw e refl

-- whether k is the number of a part, by the count that was handed on
pub number_is : (s : List ℕ) (k : ℕ) (f : PlanFile) → ReadIs s f → is_part_number k (parts_in s f) ≡ (leb 1 k && leb k f.count)
number_is s k f is = ap (λ (n : ℕ). leb 1 k && leb k n) (parts_count s f is)

module _ (s : List ℕ) (k : ℕ) (f : PlanFile) (is : ReadIs s f) where
  pub name_given : leb 1 k && leb k f.count ≡ true → name_of s k ≡ answered (part_at (parts_in s f) k).name
  unfolding name_of when_answered when_done first_no
  name_given e = rw is.value (simp (number_is s k f is ∙ e))

  pub name_not_given : leb 1 k && leb k f.count ≡ false → name_of s k ≡ refused (BadHandSet 0)
  unfolding name_of when_answered when_done first_no
  name_not_given e = rw is.value (simp (number_is s k f is ∙ e))

pub name_is : (s : List ℕ) (k : ℕ) (f : PlanFile) → ReadIs s f → (d : PartRead) → 1 ≤ k → k ≤ f.count → (part_at (parts_in s f) k).name ≡ bytes_of s (get_or f.parts (k - 1) d).name
unfolding part_of
name_is s k f is d l u = ap (λ (p : PlanPart). p.name) (part_number s f is k d l u)

pub number_range : (k n : ℕ) → leb 1 k && leb k n ≡ true → (1 ≤ k) × (k ≤ n)
number_range k n e = let b = (and_iff (leb 1 k) (leb k n)).0 e in (leb-true 1 k b.0, leb-true k n b.1)

-- the stretch that was handed on for part k is that of its line
span_at : (s : List ℕ) (f : PlanFile) → ReadIs s f → (j : ℕ) (d : PartRead) → j < f.count → nth_or no_span (suc j) (name_spans s) ≡ (get_or f.parts j d).name
span_at s f is j d l =
    ap (nth_or no_span (suc j)) (sym is.spans) ∙ nth_of_map (λ p. p.name) blank_part (suc j) (take f.count f.parts)
    ∙ ap (λ (p : PartRead). p.name) (nth_get blank_part j (take f.count f.parts) ∙ get_or-take f.count f.parts j blank_part l ∙ get_d_any f.parts j blank_part d (omega (arith, is.few, is.room)))

pub span_is : (s : List ℕ) (f : PlanFile) → ReadIs s f → (k : ℕ) (d : PartRead) → 1 ≤ k → k ≤ f.count → nth_or no_span k (name_spans s) ≡ (get_or f.parts (k - 1) d).name
span_is s f is zero d l u = absurd (omega arith)
span_is s f is (suc j) d l u = let e : suc j - 1 ≡ j = omega arith in rw e (span_at s f is j d (omega arith))

-- what is handed over: a refusal, or the stretch of the name
pub stretch_refused : (s : List ℕ) (k : ℕ) (r : Refusal) → name_of s k ≡ refused r → StretchIs s k (no_name r)
unfolding name_stretch stretched no_name name_bytes bytes_of
stretch_refused s k r e = record { is = rw e refl; bytes = sym (ap name_bytes e) }

pub stretch_given : (s : List ℕ) (k : ℕ) (name : List ℕ) (p : Span) → name_of s k ≡ answered name → name ≡ bytes_of s p → nth_or no_span k (name_spans s) ≡ p → StretchIs s k (record { outcome = Done; span = p })
unfolding name_stretch stretched name_bytes
stretch_given s k name p e is at = record { is = rw (e, at) refl; bytes = sym (ap name_bytes e ∙ is) }

pub stretch_outcome : (s : List ℕ) (k : ℕ) → (name_stretch s k).outcome ≡ outcome_of (name_of s k)
unfolding name_stretch stretched no_name outcome_of
stretch_outcome s k = go (name_of s k) (nth_or no_span k (name_spans s))
  where
    go : (a : Answer (List ℕ)) (p : Span) → (stretched a p).outcome ≡ outcome_of a
    go (answered name) p = refl
    go (refused r) p = refl
