-- What stands in the program's buffer, zeros before, is what is to be printed: the listing behind a plan, the line behind a refusal.
-- Assumes nothing.
use Prim.Native.Nat.{ℕ, ◌^◌, ◌≤◌, ◌<◌}
use native.Mathlib.Omega.{arith}
use mathlib.Core.Path.{◌≡◌, refl, sym, ap, ap₂, subst, ◌∙◌}
use mathlib.Core.List.{List, [], ◌++◌}
use lib.ListN.{length, drop, replicate, length-replicate}
use Rattle.least.specs.Lists.{pad}
use Rattle.least.proofs.Pad.{pad_none, pad_over}
use Rattle.refusal.specs.declared.Refusal.{Refusal}
use Rattle.refusal.specs.declared.Outcome.TheVariants.{Done, Refused}
use Rattle.refusal.specs.Number.{number_of, place_of}
use Rattle.refusal.specs.Questions.{Answer}
use Rattle.refusal.specs.Questions.Answer.{answered, refused}
use Rattle.writer.specs.Code.Written.{Written}
use Rattle.writer.proofs.Digits.{digits_most}
use Rattle.writer.proofs.Written.{written_whole}
use Rattle.listing.specs.Listing.{refused_line}
use Rattle.listing.proofs.Lines.{refused_length}
use Rattle.answers.specs.declared.Planned.{Planned}
use Rattle.answers.specs.Answers.{plan_of, planned, buffer_after, PlanAnswered}
use Rattle.answers.proofs.PlanRows.{plan_fits}
use Rattle.console.specs.declared.Printed.{Printed}
use Rattle.console.specs.Printed.{program_room, printed_text, printed_of, printed}

-- the program's buffer before a plan
abbrev pub zeros : List ℕ
zeros = replicate program_room 0

zeros_pad : zeros ≡ pad program_room 0 []
zeros_pad = pad_none program_room 0

printed_over : (text : List ℕ) → length text ≤ program_room → ◌≡◌ {A = Printed} (record { text = text ++ drop (length text) zeros; count = length text }) (printed text)
unfolding printed
printed_over text h = ap (λ (l : List ℕ). record { text = l; count = length text }) (ap (λ (l : List ℕ). text ++ drop (length text) l) zeros_pad ∙ pad_over program_room 0 text h)

-- a refusal's line has at most 50 bytes
refusal_short : (n k : ℕ) → n < 2 ^ 64 → k < 2 ^ 64 → length (refused_line n k) ≤ 50
refusal_short n k n-fits k-fits = omega (arith, refused_length n k, digits_most n n-fits, digits_most k k-fits)

pub refusal_room : (n k : ℕ) (buffer : List ℕ) → n < 2 ^ 64 → k < 2 ^ 64 → 50 ≤ length buffer → length (refused_line n k) ≤ length buffer
refusal_room n k buffer n-fits k-fits h = omega (arith, refusal_short n k n-fits k-fits)

-- what stands in it behind a plan with the answer a
done_printed : (a : Answer (List ℕ)) → ((text : List ℕ) → a ≡ answered text → length text ≤ program_room) → (planned a).outcome ≡ Done
    → ◌≡◌ {A = Printed} (record { text = buffer_after a zeros; count = (planned a).written }) (printed (printed_text a))
unfolding planned buffer_after printed_text
done_printed (answered text) fits e = printed_over text (fits text refl)
done_printed (refused r) fits e = absurd (let z : ◌≡◌ {A = ℕ} 0 1 = cc in omega arith)

refused_printed : (a : Answer (List ℕ)) (r : Refusal) → (planned a).outcome ≡ Refused r → (n k : ℕ) → n ≡ number_of (planned a).outcome → k ≡ place_of (planned a).outcome
    → length (refused_line n k) ≤ program_room → (last : List ℕ) (count : ℕ) → Written 0 (refused_line n k) (buffer_after a zeros) last count
    → ◌≡◌ {A = Printed} (record { text = last; count = count }) (printed (printed_text a))
unfolding planned buffer_after printed_text
refused_printed (answered text) r e n k n-is k-is room last count w = absurd (let z : ◌≡◌ {A = ℕ} 0 1 = cc in omega arith)
refused_printed (refused q) r e n k n-is k-is room last count w =
    let whole = written_whole w in
    ap₂ (λ (l : List ℕ) (i : ℕ). record { text = l; count = i }) whole.0 whole.1
    ∙ printed_over (refused_line n k) room ∙ ap₂ (λ (i j : ℕ). printed (refused_line i j)) n-is k-is

-- the same, of a plan of the file s with the program's buffer
module _ (s : List ℕ) (p : Planned) (after : List ℕ) (h : PlanAnswered s zeros p after) where
  lent : plan_of s (length zeros) ≡ plan_of s program_room
  lent = ap (plan_of s) (length-replicate {A = ℕ} program_room 0)

  answer_is : p ≡ planned (plan_of s program_room)
  answer_is = h.result ∙ ap planned lent

  buffer_is : after ≡ buffer_after (plan_of s program_room) zeros
  buffer_is = h.bytes ∙ ap (λ (a : Answer (List ℕ)). buffer_after a zeros) lent

  pub print_listing : p.outcome ≡ Done → ◌≡◌ {A = Printed} (record { text = after; count = p.written }) (printed (printed_of s))
  unfolding printed_of
  print_listing e =
      ap₂ (λ (l : List ℕ) (q : Planned). record { text = l; count = q.written }) buffer_is answer_is
      ∙ done_printed (plan_of s program_room) (plan_fits s program_room) (ap (λ (q : Planned). q.outcome) (sym answer_is) ∙ e)

  pub print_refusal : (r : Refusal) → p.outcome ≡ Refused r → (n k : ℕ) → n ≡ number_of p.outcome → k ≡ place_of p.outcome → n < 2 ^ 64 → k < 2 ^ 64
      → (last : List ℕ) (count : ℕ) → Written 0 (refused_line n k) after last count → ◌≡◌ {A = Printed} (record { text = last; count = count }) (printed (printed_of s))
  unfolding printed_of
  print_refusal r e n k n-is k-is n-fits k-fits last count w =
      let o : p.outcome ≡ (planned (plan_of s program_room)).outcome = ap (λ (q : Planned). q.outcome) answer_is in
      refused_printed (plan_of s program_room) r (sym o ∙ e) n k (n-is ∙ ap number_of o) (k-is ∙ ap place_of o) (omega (arith, refusal_short n k n-fits k-fits)) last count
      (subst (λ (l : List ℕ). Written 0 (refused_line n k) l last count) buffer_is w)

-- the bytes that a plan counts lie within the lent ones
planned_within : (a : Answer (List ℕ)) (room : ℕ) → ((text : List ℕ) → a ≡ answered text → length text ≤ room) → (planned a).written ≤ room
unfolding planned
planned_within (answered text) room fits = fits text refl
planned_within (refused r) room fits = omega arith

pub plan_within : (s before : List ℕ) (p : Planned) (after : List ℕ) → PlanAnswered s before p after → p.written ≤ length before
plan_within s before p after h =
    subst (λ (q : Planned). q.written ≤ length before) (sym h.result) (planned_within (plan_of s (length before)) (length before) (plan_fits s (length before)))
