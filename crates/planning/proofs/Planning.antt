-- A plan, from what the reader hands on: the parts are fine to search and to print, and their numbers are those of the file's parts.
-- Assumes nothing.
use Prim.Native.Nat.{ℕ, zero, suc, ◌+◌, ◌≤◌}
use native.Mathlib.Omega.{arith}
use mathlib.Core.Path.{◌≡◌, sym, ap, ◌∙◌}
use mathlib.Core.List.{List, ◌++◌, map, append-nil, map-map}
use lib.ListN.{length, take, drop}
use Rattle.least.specs.Lists.{first_of, joined}
use Rattle.least.specs.Fraction.{at_most, greatest_of}
use Rattle.least.proofs.Lists.{nth_get}
use Rattle.writer.specs.Code.Written.{written, Written}
use Rattle.plan_file.specs.Numbers.{PlanPart}
use Rattle.plan_file.proofs.PlanParts.{parts_some}
use Rattle.listing.specs.Listing.{Share, share_lines, load_line, listing_of}
use Rattle.listing.proofs.Shares.{load_share_lem}
use Rattle.reader.specs.declared.PlanFile.{PlanFile}
use Rattle.reader.specs.Code.Reader.{blank_part, part_of, parts_in, ReadIs}
use Rattle.reader.proofs.Fine.{counts_at, handed_fine}
use Rattle.reader.proofs.Handed.{parts_count}
use Rattle.answers.specs.Plan.{partitions}
use Rattle.offers.specs.Code.Gathered.{FineParts}
use Rattle.offers.specs.Code.Least.{partitions_in}
use Rattle.printing.specs.Code.ToPrint.{FineFile}
use Rattle.printing.specs.Code.Printing.{no_share, listing_at, EachFine}

module _ (s : List ℕ) (f : PlanFile) (is : ReadIs s f) where
  -- the numbers of the parts are the same, by whatever names they go
  pub partitions_same : partitions (parts_in s f) ≡ partitions_in f
  unfolding part_of
  partitions_same = map-map (λ (p : PlanPart). p.numbers) (part_of s) (take f.count f.parts)

  pub file_fine : FineFile f
  file_fine = record { few = is.few; room = is.room; counts = λ k l. counts_at s f is k blank_part l }

  pub each_fine : EachFine f
  each_fine k l = (handed_fine s f is k blank_part l).fine

  -- what the choice of its rows asks for
  pub to_choose : FineParts f × (1 ≤ f.count)
  to_choose = (
    record {
      few = is.few;
      room = is.room;
      fine = each_fine;
      period_some = λ k l. (handed_fine s f is k blank_part l).period_some;
      period_most = λ k l. (handed_fine s f is k blank_part l).period_most;
    },
    omega (arith, parts_count s f is, parts_some s (parts_in s f) is.value),
  )

-- the load line is that of the first share that reaches the load
pub listing_same : (shares : List Share) (k : ℕ) → 1 ≤ k → first_of (at_most (greatest_of (map (λ x. x.bound) shares))) (map (λ x. x.bound) shares) ≡ k → listing_at k shares ≡ listing_of shares
unfolding listing_at listing_of joined
listing_same shares zero l e = absurd (omega arith)
listing_same shares (suc j) l e =
    ap (λ (bytes : List ℕ). bytes ++ joined (map share_lines shares))
    (ap load_line (nth_get no_share j shares) ∙ sym (append-nil _) ∙ sym (ap (λ (xs : List Share). joined (map load_line xs)) (load_share_lem shares no_share j e)))

-- the bytes of a listing in front, and behind it what was there
pub buffer_same : (text before after : List ℕ) (n : ℕ) → Written 0 text before after n → after ≡ text ++ drop (length text) before
unfolding written
buffer_same text before after n w = let e : 0 + length text ≡ length text = omega arith in w.bytes ∙ ap (λ (k : ℕ). text ++ drop k before) e
