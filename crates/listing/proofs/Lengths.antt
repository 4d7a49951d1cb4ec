-- How long a listing can be.
--   listing_limit  == at most 30 bytes of a load line and, of each share, 55 bytes and 20 for each ceiling
--   ShortCeiling c == a name of at most 8 bytes and a number of at most 16, that of a task
--   ShortShare s   == a name of at most 8 bytes, numbers of at most 1,000,000, and at most 8 ceilings
-- Assumes nothing.
use Prim.Native.Nat.{ℕ, ◌+◌, ◌*◌, ◌≤◌}
use native.Mathlib.Omega.{arith}
use mathlib.Core.Bool.{Bool}
use mathlib.Core.List.{List, map, Memᴰ}
use lib.ListN.{length, length-append, length-take}
use Rattle.least.specs.Lists.{those, joined}
use Rattle.least.specs.Fraction.{at_most, greatest_of}
use Rattle.least.proofs.Lists.{those_member}
use Rattle.least.proofs.Members.{take_member}
use Rattle.least.proofs.Sums.{joined_most}
use Rattle.refusal.specs.Limits.{number_limit, name_limit, task_limit, lock_limit, part_limit}
use Rattle.text.specs.Decimal.{digits_of}
use Rattle.writer.proofs.Digits.{digits_few}
use Rattle.listing.specs.Listing.{Ceiling, Share, ceiling_line, share_line, share_lines, load_line, load_share, listing_of}
use Rattle.listing.proofs.Lines.{bound_length, load_length, share_length, ceiling_length}

abbrev pub listing_limit : ℕ
listing_limit = 30 + part_limit * (55 + lock_limit * 20)

pub record ShortCeiling (c : Ceiling) : Type 0 where
  pub lock : length c.lock ≤ name_limit
  pub number : c.number ≤ task_limit

pub record ShortShare (s : Share) : Type 0 where
  pub name : length s.name ≤ name_limit
  pub period : s.row.period ≤ number_limit
  pub budget : s.row.budget ≤ number_limit
  pub holding : s.row.holding ≤ number_limit
  pub num : s.bound.num ≤ number_limit
  pub den : s.bound.den ≤ number_limit
  pub few : length s.ceilings ≤ lock_limit
  pub each : (c : Ceiling) → Memᴰ c s.ceilings → ShortCeiling c

seven_digits : (n : ℕ) → n ≤ number_limit → length (digits_of n) ≤ 7
seven_digits n h = digits_few 6 n (omega arith)

two_digits : (n : ℕ) → n ≤ task_limit → length (digits_of n) ≤ 2
two_digits n h = digits_few 1 n (omega arith)

ceiling_most : (c : Ceiling) → ShortCeiling c → length (ceiling_line c) ≤ 20
ceiling_most c h = omega (arith, ceiling_length c.lock c.number, h.lock, two_digits c.number h.number)

module _ (s : Share) (h : ShortShare s) where
  load_most : length (load_line s) ≤ 30
  load_most =
      omega (arith, load_length s, bound_length s.bound, h.name, seven_digits s.bound.num h.num, seven_digits s.bound.den h.den)

  share_line_most : length (share_line s) ≤ 55
  share_line_most =
      omega (arith, share_length s, bound_length s.bound, h.name, seven_digits s.row.period h.period, seven_digits s.row.budget h.budget, seven_digits s.row.holding h.holding, seven_digits s.bound.num h.num, seven_digits s.bound.den h.den)

  share_lines_most : length (share_lines s) ≤ 55 + lock_limit * 20
  unfolding share_lines
  share_lines_most =
      omega (arith, length-append (share_line s) (joined (map ceiling_line s.ceilings)), share_line_most, joined_most ceiling_line 20 s.ceilings (λ c m. ceiling_most c (h.each c m)), h.few)

pub listing_most : (shares : List Share) → length shares ≤ part_limit → ((s : Share) → Memᴰ s shares → ShortShare s) → length (listing_of shares) ≤ listing_limit
unfolding listing_of load_share
listing_most shares few short =
    let test : Share → Bool = λ s. at_most (greatest_of (map (λ k. k.bound) shares)) s.bound in
    let loads = load_share shares in
    let one : length loads ≤ 1 = omega (arith, length-take 1 (those test shares)) in
    let first = joined_most load_line 30 loads (λ s m. load_most s (short s (those_member test shares (take_member 1 (those test shares) m)).0)) in
    let rest = joined_most share_lines (55 + lock_limit * 20) shares (λ s m. share_lines_most s (short s m)) in
    omega (arith, length-append (joined (map load_line loads)) (joined (map share_lines shares)), first, rest)
