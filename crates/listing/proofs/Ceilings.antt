-- The ceilings of a part, one lock after another.
-- Assumes nothing.
use Prim.Native.Nat.{ℕ, suc, ◌+◌, ◌≤◌, ◌<◌}
use native.Mathlib.Nat.{add-zero}
use native.Mathlib.Numerals.{add-one}
use native.Mathlib.Omega.{arith}
use mathlib.Core.Path.{◌≡◌, refl, sym, ap, ap₂, ◌∙◌}
use mathlib.Core.List.{List, [], ◌∷◌, ◌++◌}
use lib.ListN.{length, take, drop, get_or, length-append, length-map, length-take, length-drop, get_or-map, drop_of_length-le}
use lib.Seq.{drop-cons}
use Rattle.least.specs.Lists.{joined}
use Rattle.stretch.specs.declared.Span.{Span}
use Rattle.stretch.specs.Stretch.{bytes_of}
use Rattle.plan_file.specs.Stretches.{no_span}
use Rattle.plan_file.specs.Code.Entries.{names_of}
use Rattle.listing.specs.declared.ShareLines.{ShareLines}
use Rattle.task_set.specs.Blocking.{Setting}
use Rattle.task_set.specs.Code.ByLock.{setting_of}
use Rattle.task_set.proofs.BlockingAt.{setting_at}
use Rattle.listing.specs.Listing.{Ceiling, Share, ceilings_under, ceiling_line, share_line, share_lines}
use Rattle.listing.specs.Code.Shares.{ceiling_lines}

-- a stretch is no longer than its file
pub stretch_length : (s : List ℕ) (p : Span) → length (bytes_of s p) ≤ length s
unfolding bytes_of
stretch_length s p = omega (arith, length-take p.len (drop p.start s), length-drop p.start s)

pub lines_none : ceiling_lines [] ≡ []
unfolding ceiling_lines joined
lines_none = refl

pub lines_cons : (c : Ceiling) (cs : List Ceiling) → ceiling_lines (c ∷ cs) ≡ ceiling_line c ++ ceiling_lines cs
unfolding ceiling_lines joined
lines_cons c cs = refl

-- the lines of a part: its share line, then its ceilings
pub share_pieces : (s : Share) → share_lines s ≡ share_line s ++ ceiling_lines s.ceilings
unfolding share_lines ceiling_lines
share_pieces s = refl

pub share_length : (s : Share) → length (share_lines s) ≡ length (share_line s) + length (ceiling_lines s.ceilings)
share_length s = ap length (share_pieces s) ∙ length-append (share_line s) (ceiling_lines s.ceilings)

ceilings_cons : (σ : Setting) (l : ℕ) (name : List ℕ) (names : List (List ℕ)) → ceilings_under σ l (name ∷ names) ≡ record { lock = name; number = σ l } ∷ ceilings_under σ (suc l) names
unfolding ceilings_under
ceilings_cons σ l name names = refl

ceilings_none : (σ : Setting) (l : ℕ) → ceilings_under σ l [] ≡ []
unfolding ceilings_under
ceilings_none σ l = refl

-- settings that agree on the locks from the number l on show the same ceilings
pub ceilings_agree : (σ τ : Setting) (l : ℕ) (names : List (List ℕ)) → ((j : ℕ) → j < length names → σ (l + j) ≡ τ (l + j)) → ceilings_under σ l names ≡ ceilings_under τ l names
unfolding ceilings_under
ceilings_agree σ τ l [] same = refl
ceilings_agree σ τ l (name ∷ names) same =
    let first : σ l ≡ τ l = ap σ (sym (add-zero l)) ∙ same 0 (omega arith) ∙ ap τ (add-zero l) in
    let later = ceilings_agree σ τ (suc l) names (λ j h. let e : suc l + j ≡ l + suc j = omega arith in ap σ e ∙ same (suc j) (omega arith) ∙ ap τ (sym e)) in
    ap₂ (λ (n : ℕ) (rest : List Ceiling). record { lock = name; number = n } ∷ rest) first later

-- the ceilings of a part, from the place i on
module _ (l : ShareLines) where
  abbrev names : List (List ℕ)
  names = names_of l.file.now l.locks.now

  abbrev spans : List Span
  spans = take l.locks.now.count l.locks.now.span

  abbrev pub locks_from : ℕ → List Ceiling
  locks_from i = ceilings_under (setting_of l.ceilings.now) (suc i) (drop i names)

  names_count : length names ≡ length spans
  unfolding names_of
  names_count = length-map spans (bytes_of l.file.now)

  -- the first of them is that of the lock at the place i
  pub locks_more : (i : ℕ) {lock : List ℕ} → i < length spans → lock ≡ bytes_of l.file.now (get_or spans i no_span)
      → ceiling_lines (locks_from i) ≡ ceiling_line (record { lock = lock; number = get_or l.ceilings.now i 0 }) ++ ceiling_lines (locks_from (i + 1))
  unfolding names_of
  locks_more i {lock} h e =
      let of = bytes_of l.file.now in
      let σ = setting_of l.ceilings.now in
      let cut : drop i names ≡ lock ∷ drop (suc i) names =
      drop-cons names i (of no_span) (omega (arith, names_count))
      ∙ ap (λ (x : List ℕ). x ∷ drop (suc i) names) (get_or-map of spans i no_span ∙ sym e) in
      ap (λ (rest : List (List ℕ)). ceiling_lines (ceilings_under σ (suc i) rest)) cut
      ∙ ap ceiling_lines (ceilings_cons σ (suc i) lock (drop (suc i) names)
      ∙ ap₂ (λ (c k : ℕ). record { lock = lock; number = c } ∷ locks_from k) (setting_at l.ceilings.now i) (sym (add-one i)))
      ∙ lines_cons (record { lock = lock; number = get_or l.ceilings.now i 0 }) (locks_from (i + 1))

  pub locks_more_length : (i : ℕ) {lock : List ℕ} → i < length spans → lock ≡ bytes_of l.file.now (get_or spans i no_span)
      → length (ceiling_lines (locks_from i)) ≡ length (ceiling_line (record { lock = lock; number = get_or l.ceilings.now i 0 })) + length (ceiling_lines (locks_from (i + 1)))
  locks_more_length i {lock} h e =
      ap length (locks_more i h e) ∙ length-append (ceiling_line (record { lock = lock; number = get_or l.ceilings.now i 0 })) (ceiling_lines (locks_from (i + 1)))

  -- behind the last lock there are none
  pub locks_end : (i : ℕ) → length spans ≤ i → ceiling_lines (locks_from i) ≡ []
  locks_end i h =
      ap (λ (rest : List (List ℕ)). ceiling_lines (ceilings_under (setting_of l.ceilings.now) (suc i) rest)) (drop_of_length-le names {i = i} (omega (arith, names_count)))
      ∙ ap ceiling_lines (ceilings_none (setting_of l.ceilings.now) (suc i)) ∙ lines_none
