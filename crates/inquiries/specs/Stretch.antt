-- Where the name of a part stands in its file.
--   no_name r        == a refusal: no bytes, at 0
--   stretched a p    == the answer a as it is handed over: with the stretch p, or with none on refusal
--   name_stretch s k == the name of part k in the file s, as the stretch of its `part` line
--   StretchIs s k r  == r is that, and the bytes of the stretch are the name's
--   NameIs s k r     == r is the name of part k as that stretch of the lent file s
-- Assumes nothing.
use Rattle.std.specs.Prelude.{ℕ, ◌≡◌, List}
use Rattle.std.specs.Borrow.{Bor}
use Rattle.least.specs.Lists.{nth_or}
use Rattle.refusal.specs.declared.Refusal.{Refusal}
use Rattle.refusal.specs.declared.Outcome.TheVariants.{Done, Refused}
use Rattle.refusal.specs.Questions.{Answer}
use Rattle.refusal.specs.Questions.Answer.{answered, refused}
use Rattle.stretch.specs.declared.Span.{Span}
use Rattle.stretch.specs.Stretch.{bytes_of, StretchOf}
use Rattle.plan_file.specs.Stretches.{no_span, name_spans}
use Rattle.answers.specs.Answers.{name_of, name_bytes}
use Rattle.inquiries.specs.declared.NameStretch.{NameStretch}

unfoldable pub no_name : Refusal → NameStretch
no_name r = record { outcome = Refused r; span = no_span }

unfoldable pub stretched : Answer (List ℕ) → Span → NameStretch
stretched (answered name) p = record { outcome = Done; span = p }
stretched (refused r) p = no_name r

unfoldable pub name_stretch : List ℕ → ℕ → NameStretch
name_stretch s k = stretched (name_of s k) (nth_or no_span k (name_spans s))

pub record StretchIs (s : List ℕ) (k : ℕ) (r : NameStretch) : Type 0 where
  pub is : r ≡ name_stretch s k
  pub bytes : bytes_of s r.span ≡ name_bytes (name_of s k)

pub record NameIs (s : Bor (List ℕ)) (k : ℕ) (r : Bor (List ℕ)) : Type 0 where
  pub bytes : r.now ≡ name_bytes (name_of s.now k)
  pub stretch : StretchOf s (name_stretch s.now k).span r
