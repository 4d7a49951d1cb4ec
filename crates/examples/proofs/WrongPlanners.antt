-- Demand 3 shuts out the wrong planners of paper 01: on one file each, whoever meets demand 3 answers as `plan` does, and they do not.
-- Assumes nothing.
use Prim.Native.Nat.{ℕ, ◌≤◌}
use native.Mathlib.Omega.{arith}
use mathlib.Core.Path.{◌≡◌, refl, sym, ap, subst, ◌∙◌}
use mathlib.Core.Logic.{inl, inr}
use mathlib.Core.Bool.{true, false, not}
use mathlib.Core.List.{List, [], ◌∷◌, ◌++◌, map, append_assoc, append-nil}
use lib.ListN.{length, take, drop, get_or, replicate, length-replicate, length-append}
use lib.Seq.{drop-append_seam}
use Rattle.least.specs.Lists.{is_empty, every, joined}
use Rattle.least.specs.Each.{Each}
use Rattle.least.specs.Each.Each.{none, more}
use Rattle.refusal.specs.declared.Outcome.TheVariants.{Done}
use Rattle.refusal.specs.Questions.{Answer}
use Rattle.refusal.specs.Questions.Answer.{answered}
use Rattle.refusal.proofs.Answers.{done_not_refused}
use Rattle.text.specs.Bytes.{bytes}
use Rattle.load.specs.Load.{passes_system}
use Rattle.plan_file.specs.Numbers.{PlanPart, parts_of, part_at}
use Rattle.listing.specs.Listing.{Ceiling, Share, ceiling_line, share_line, share_lines, load_line, load_share, listing_of}
use Rattle.answers.specs.declared.Planned.{Planned}
use Rattle.answers.specs.Parts.{kept_rows}
use Rattle.answers.specs.Answers.{plan_of, planned, buffer_after, HandedOver}
use Rattle.planner.specs.Demand3.{Demand3}
use Rattle.planner.proofs.Settled.{demand_3_settled}
use Rattle.examples.specs.Files.{file_a, listing_a, card_at, listing_c, file_top, listing_top, file_second, listing_second}
use Rattle.examples.specs.Table.{parts_in}
use Rattle.examples.specs.WrongPlanners.{Planner, Does, AnswersEleven, PrintsA, LeavesBlank, AtTop, TopAfterFirst, first_choice, StopsAtFirst, ShutOut, AllShutOut}
use Rattle.examples.proofs.Opened.{opened}

-- a blank buffer of the program's size
abbrev blank : List ℕ
blank = replicate 8192 0

-- a file that is planned in it, as `plan` does it
record PlannedAs (s text : List ℕ) : Type 0 where
  read : parts_of s ≡ answered (parts_in s)
  plan : plan_of s 8192 ≡ answered text

planned-A : PlannedAs file_a listing_a
unfolding opened
planned-A = record { read = refl; plan = refl }

planned-C : PlannedAs (card_at 10) listing_c
unfolding opened
planned-C = record { read = refl; plan = refl }

planned_top : PlannedAs file_top listing_top
unfolding opened
planned_top = record { read = refl; plan = refl }

planned_second : PlannedAs file_second listing_second
unfolding opened
planned_second = record { read = refl; plan = refl }

-- whoever meets demand 3 hands over this listing
module _ (planner : Planner) (met : Demand3 (Does planner)) (s text : List ℕ) (p : PlannedAs s text) where
  hands_over : HandedOver (answered text) blank (planner s blank).result (planner s blank).bytes
  hands_over =
      subst (λ (a : Answer (List ℕ)). HandedOver a blank (planner s blank).result (planner s blank).bytes)
      (ap (plan_of s) (length-replicate {A = ℕ} 8192 0) ∙ p.plan)
      (demand_3_settled (Does planner) met s blank (planner s blank).result (planner s blank).bytes (parts_in s) p.read (refl, refl))

  is_done : (planner s blank).result.outcome ≡ Done
  unfolding planned
  is_done = ap (λ (r : Planned). r.outcome) hands_over.result

  writes : (planner s blank).bytes ≡ text ++ drop (length text) blank
  unfolding buffer_after
  writes = hands_over.bytes

answers_eleven : ShutOut AnswersEleven
answers_eleven planner kind met = done_not_refused (sym (is_done planner met file_a listing_a planned-A) ∙ kind file_a blank (parts_in file_a) planned-A.read)

-- C's listing, as long as A's, has another load
prints_a : ShutOut PrintsA
unfolding opened
prints_a planner kind met =
    let room : length listing_a ≤ length blank = omega (arith, length-replicate {A = ℕ} 8192 0) in
    let same : take (length listing_a) (listing_c ++ drop (length listing_c) blank) ≡ listing_a = subst (λ (l : List ℕ). take (length listing_a) l ≡ listing_a) (writes planner met (card_at 10) listing_c planned-C) (kind (card_at 10) blank (parts_in (card_at 10)) planned-C.read room) in
    let byte : ◌≡◌ {A = ℕ} 48 55 = ap (λ (l : List ℕ). get_or l 11 0) same in
    omega arith

-- the first byte of a listing is not blank
leaves_blank : ShutOut LeavesBlank
unfolding opened
leaves_blank planner kind met =
    let byte : ◌≡◌ {A = ℕ} 108 0 = ap (λ (l : List ℕ). get_or l 0 0) (sym (writes planner met file_a listing_a planned-A) ∙ kind file_a 8192 (parts_in file_a) planned-A.read) in
    omega arith

first_fails : passes_system (first_choice (parts_in file_second)) ≡ false
unfolding opened
first_fails = refl

all_kept : every (λ p. not (is_empty (kept_rows p.numbers))) (parts_in file_second) ≡ true
unfolding opened
all_kept = refl

stops_at_first : ShutOut StopsAtFirst
stops_at_first planner kind met =
    done_not_refused (sym (is_done planner met file_second listing_second planned_second) ∙ kind file_second blank (parts_in file_second) planned_second.read all_kept first_fails)

-- a listing of two parts ends with the last ceiling of the second
listing_ends : (s u : Share) (c : Ceiling) → u.ceilings ≡ c ∷ [] → (front : List ℕ) × (listing_of (s ∷ u ∷ []) ≡ front ++ ceiling_line c)
unfolding listing_of share_lines joined
listing_ends s u c e =
    let load = joined (map load_line (load_share (s ∷ u ∷ []))) in
    let first = share_line s ++ joined (map ceiling_line s.ceilings) in
    (load ++ (first ++ share_line u), rw e (simp (append_assoc, append-nil)))

abbrev top_ceiling : Ceiling
top_ceiling = record { lock = bytes "l"; number = 2 }

-- the second part of the file has one lock; the top is 2, and the ceiling shown for the X of the top is 2 too
second_top : drop 1 (parts_in file_top) ≡ part_at (parts_in file_top) 2 ∷ []
unfolding opened
second_top = refl

at_top : (u : Share) → AtTop (part_at (parts_in file_top) 2) u → u.ceilings ≡ top_ceiling ∷ []
unfolding opened
at_top u (inl e) = e
at_top u (inr (inl e)) = e
at_top u (inr (inr e)) = e

only_share : {p : PlanPart} {shares : List Share} → Each AtTop (p ∷ []) shares → (u : Share) × (shares ≡ u ∷ []) × AtTop p u
only_share (more {y = u} h none) = (u, refl, h)

two_shares : (p : PlanPart) (shares : List Share) → Each AtTop (p ∷ []) (drop 1 shares) → (s : Share) × (u : Share) × (shares ≡ s ∷ u ∷ []) × AtTop p u
two_shares p [] h = elim h [ ]
two_shares p (s ∷ shares) h = let o = only_share h in (s, o.0, ap (λ (l : List Share). s ∷ l) o.1, o.2)

-- the last ceiling printed for it is 1, and the top is 2
top_after_first : ShutOut TopAfterFirst
unfolding opened
top_after_first planner kind met =
    let k = kind file_top blank (parts_in file_top) listing_top planned_top.read (hands_over planner met file_top listing_top planned_top) in
    let t = two_shares (part_at (parts_in file_top) 2) k.0 (subst (λ (ps : List PlanPart). Each AtTop ps (drop 1 k.0)) second_top k.2) in
    let l = listing_ends t.0 t.1 top_ceiling (at_top t.1 t.3) in
    let text : listing_top ≡ l.0 ++ ceiling_line top_ceiling = k.1 ∙ ap listing_of t.2 ∙ l.1 in
    let front : length l.0 ≡ 59 = omega (arith, ap length text, length-append l.0 (ceiling_line top_ceiling)) in
    let line : drop 59 listing_top ≡ ceiling_line top_ceiling = subst (λ (n : ℕ). drop n listing_top ≡ ceiling_line top_ceiling) front (ap (drop (length l.0)) text ∙ drop-append_seam l.0 (ceiling_line top_ceiling)) in
    let byte : ◌≡◌ {A = ℕ} 49 50 = ap (λ (l : List ℕ). get_or l 10 0) line in
    omega arith

pub all_shut_out : AllShutOut
all_shut_out = record { answers_eleven = answers_eleven; prints_a = prints_a; leaves_blank = leaves_blank; top_after_first = top_after_first; stops_at_first = stops_at_first }
