-- The shares of a file's parts, one part after another, and the listing as its pieces.
-- Assumes nothing.
use Prim.Native.Nat.{ℕ, suc, ◌+◌, ◌-◌, ◌≤◌, ◌<◌}
use native.Mathlib.Omega.{arith}
use mathlib.Core.Path.{◌≡◌, sym, ap, ◌∙◌}
use mathlib.Core.List.{List, [], ◌++◌, map}
use lib.ListN.{length, get_or, drop_of_length-le}
use Rattle.least.specs.Lists.{nth_or, joined}
use Rattle.least.proofs.Lists.{nth_get}
use Rattle.least.proofs.Columns.{column_length, column_get}
use Rattle.listing.specs.Listing.{Share, share_lines, load_line}
use Rattle.listing.proofs.Shares.{shares_from, shares_more}
use Rattle.printing.specs.declared.Listing.{Listing}
use Rattle.printing.specs.Code.Printing.{no_share, listing_at, share_in, shares_in}

module _ (l : Listing) where
  abbrev shares : List Share
  shares = shares_in l

  -- the lines of the shares from the place k on, and the load line of the row with this number
  abbrev pub lines_from : ℕ → List ℕ
  lines_from k = shares_from shares no_share k

  pub shares_count : length shares ≡ l.plan.now.count
  unfolding shares_in
  shares_count = column_length (share_in l) l.plan.now.count

  pub share_at : (k : ℕ) → k < l.plan.now.count → get_or shares k no_share ≡ share_in l k
  unfolding shares_in
  share_at k h = column_get (share_in l) no_share k l.plan.now.count h

  -- the lines of the part at the place k are the first of them
  pub parts_more : (k : ℕ) {s : Share} → k < l.plan.now.count → s ≡ share_in l k → lines_from k ≡ share_lines s ++ lines_from (k + 1)
  parts_more k h e =
      shares_more shares no_share k (omega (arith, shares_count)) ∙ ap (λ (x : Share). share_lines x ++ lines_from (k + 1)) (share_at k h ∙ sym e)

  pub parts_end : (k : ℕ) → l.plan.now.count ≤ k → lines_from k ≡ []
  unfolding joined
  parts_end k h = ap (λ (x : List Share). joined (map share_lines x)) (drop_of_length-le shares {i = k} (omega (arith, shares_count)))

  -- the listing: its load line, then the parts
  pub listing_pieces : {s : Share} → s ≡ share_in l (l.weighed.now.row - 1) → listing_at l.weighed.now.row shares ≡ load_line s ++ lines_from 0
  unfolding listing_at
  listing_pieces {s} e =
      let row = l.weighed.now.row in
      let number : row ≡ suc (row - 1) = omega (arith, l.to_print.row_some) in
      ap (λ (x : Share). load_line x ++ lines_from 0)
      (ap (λ (k : ℕ). nth_or no_share k shares) number ∙ nth_get no_share (row - 1) shares ∙ share_at (row - 1) (omega (arith, l.to_print.row_some, l.to_print.row_most)) ∙ sym e)
