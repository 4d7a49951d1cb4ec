-- A pair that is pushed to a kept list: from its end those that are not lighter go, then the pair is stored behind the others.
--   Popped k c l == of the list k the first pairs are left in l, and no other was lighter than c
-- Assumes nothing.
use Prim.Native.Nat.{ℕ, suc, ◌+◌, ◌-◌, ◌≤◌, ◌<◌}
use native.Mathlib.Nat.{le_refl}
use native.Mathlib.Omega.{arith}
use mathlib.Core.Path.{◌≡◌, refl, sym, ap, ap₂, ◌∙◌}
use mathlib.Core.List.{List, [], ◌∷◌, ◌++◌}
use lib.ListN.{length, take, get_or, set, replicate, length-append}
use lib.Seq.{length-take-le, take-suc, get_or-take, set-set}
use Rattle.least.specs.Lists.{pad}
use Rattle.least.proofs.Members.{each_place}
use Rattle.least.proofs.Pad.{length_pad, set_pad, pad_none, pad_filler, get_d_pad_fits, take_pad}
use Rattle.refusal.specs.Limits.{kept_limit}
use Rattle.candidates.specs.declared.Pair.{Pair}
use Rattle.candidates.specs.declared.Kept.{Kept}
use Rattle.candidates.specs.Candidates.{pair, kept_answer}
use Rattle.candidates.specs.Code.KeptSearch.{sum_of, pairs_of, lighter, pushed, FinePush}
use Rattle.candidates.proofs.Walk.{lighter_drop, lighter_all}

-- what stands in an answer
abbrev pub pad_of : List Pair → List Pair
pad_of cs = pad kept_limit (pair 0 0) cs

kept_pairs : (cs : List Pair) → (kept_answer cs).pairs ≡ pad_of cs
unfolding kept_answer
kept_pairs cs = refl

pub kept_count : (cs : List Pair) → (kept_answer cs).count ≡ length cs
unfolding kept_answer
kept_count cs = refl

pub kept_room : (cs : List Pair) → length (kept_answer cs).pairs ≡ kept_limit
kept_room cs = ap length (kept_pairs cs) ∙ length_pad kept_limit (pair 0 0) cs

kept_is : (pairs : List Pair) (count : ℕ) (cs : List Pair) → pairs ≡ pad_of cs → count ≡ length cs → ◌≡◌ {A = Kept} (record { pairs = pairs; count = count }) (kept_answer cs)
unfolding kept_answer
kept_is pairs count cs e n = ap₂ (λ (ps : List Pair) (k : ℕ). record { pairs = ps; count = k }) e n

-- an array without pairs
pub no_pairs : ◌≡◌ {A = Kept} (record { pairs = replicate kept_limit (pair 0 0); count = 0 }) (kept_answer [])
no_pairs = kept_is (replicate kept_limit (pair 0 0)) 0 [] (pad_none kept_limit (pair 0 0)) refl

-- an answer holds its list
pub pairs_answer : (cs : List Pair) → length cs ≤ kept_limit → pairs_of (kept_answer cs) ≡ cs
unfolding kept_answer
pairs_answer cs h = take_pad kept_limit (pair 0 0) cs h

-- one more pair behind a list, and one fewer
pad_push : (cs : List Pair) (c : Pair) → length cs < kept_limit → set (pad_of cs) (length cs) c ≡ pad_of (cs ++ (c ∷ []))
pad_push cs c h = set_pad kept_limit (pair 0 0) cs c h

pad_pop : (cs : List Pair) (c : Pair) → length cs < kept_limit → set (pad_of (cs ++ (c ∷ []))) (length cs) (pair 0 0) ≡ pad_of cs
pad_pop cs c h =
    ap (λ (ps : List Pair). set ps (length cs) (pair 0 0)) (sym (pad_push cs c h))
    ∙ set-set (pad_of cs) (length cs) c (pair 0 0)
    ∙ pad_push cs (pair 0 0) h
    ∙ pad_filler kept_limit (pair 0 0) cs

pub record Popped (k : Kept) (c : Pair) (l : Kept) : Type 0 where
  pub few : l.count ≤ k.count
  pub answer : l ≡ kept_answer (take l.count k.pairs)
  pub light : lighter (sum_of c) (take l.count k.pairs) ≡ lighter (sum_of c) (pairs_of k)

module _ {k : Kept} {c : Pair} (fine : FinePush k c) where
  abbrev front : ℕ → List Pair
  front n = take n k.pairs

  pub popped_start : Popped k c k
  popped_start = record { few = le_refl k.count; answer = fine.answer; light = refl }

  room : k.count ≤ length k.pairs
  room = omega (arith, ap (λ (x : Kept). length x.pairs) fine.answer, kept_room (pairs_of k), fine.few)

  front_length : (n : ℕ) → n ≤ k.count → length (front n) ≡ n
  front_length n h = length-take-le n k.pairs (omega (arith, room))

  module _ {l : Kept} (p : Popped k c l) where
    pairs_are : l.pairs ≡ pad_of (front l.count)
    pairs_are = ap (λ (x : Kept). x.pairs) p.answer ∙ kept_pairs (front l.count)

    -- the pairs that are left are as they were
    pub popped_get : (i : ℕ) → i < l.count → get_or l.pairs i (pair 0 0) ≡ get_or k.pairs i (pair 0 0)
    popped_get i h =
        ap (λ (ps : List Pair). get_or ps i (pair 0 0)) pairs_are
        ∙ get_d_pad_fits kept_limit (pair 0 0) (front l.count) i (omega (arith, front_length l.count p.few, p.few, fine.few))
        ∙ get_or-take l.count k.pairs i (pair 0 0) h

    pub popped_next : (n : ℕ) → l.count ≡ suc n → sum_of c ≤ sum_of (get_or l.pairs n (pair 0 0)) → Popped k c (record { pairs = set l.pairs n (pair 0 0); count = n })
    popped_next n e heavy =
        let g = get_or k.pairs n (pair 0 0) in
        let split : front l.count ≡ front n ++ (g ∷ []) = ap front e ∙ take-suc k.pairs n (pair 0 0) (omega (arith, room, p.few)) in
        let long : length (front n) ≡ n = front_length n (omega (arith, p.few)) in
        record {
          few = omega (arith, p.few);
          answer = kept_is (set l.pairs n (pair 0 0)) n (front n)
              (ap₂ (λ (ps : List Pair) (i : ℕ). set ps i (pair 0 0)) (pairs_are ∙ ap pad_of split) (sym long) ∙ pad_pop (front n) g (omega (arith, p.few, fine.few)))
              (sym long);
          light = sym (lighter_drop (sum_of c) (front n) g (omega (arith, ap sum_of (popped_get n (omega arith))))) ∙ ap (lighter (sum_of c)) (sym split) ∙ p.light;
        }

    -- what is left is lighter, where the last of it is
    pub popped_light : ((n : ℕ) → l.count ≡ suc n → sum_of (get_or l.pairs n (pair 0 0)) < sum_of c) → lighter (sum_of c) (pairs_of k) ≡ front l.count
    popped_light last = sym p.light ∙ lighter_all (sum_of c) (front l.count) (each_place (pair 0 0) (λ d. sum_of d < sum_of c) (front l.count) each)
      where
        each : (i : ℕ) → i < length (front l.count) → sum_of (get_or (front l.count) i (pair 0 0)) < sum_of c
        each i h =
            let few : i < l.count = omega (arith, front_length l.count p.few) in
            let n = l.count - 1 in
            let e : l.count ≡ suc n = omega arith in
            omega (arith, ap sum_of (get_or-take l.count k.pairs i (pair 0 0) few), fine.rising i n (omega arith) (omega (arith, p.few)), ap sum_of (popped_get n (omega arith)), last n e)

    module _ (light : lighter (sum_of c) (pairs_of k) ≡ front l.count) where
      -- there is room for one pair more
      pub popped_room : l.count < kept_limit
      popped_room =
          omega (arith, fine.room, length-append (lighter (sum_of c) (pairs_of k)) (c ∷ []), ap length light, front_length l.count p.few)

      pub popped_push : ◌≡◌ {A = Kept} (record { pairs = set l.pairs l.count c; count = l.count + 1 }) (kept_answer (pushed c (pairs_of k)))
      popped_push =
          let long : length (front l.count) ≡ l.count = front_length l.count p.few in
          kept_is (set l.pairs l.count c) (l.count + 1) (front l.count ++ (c ∷ []))
          (ap₂ (λ (ps : List Pair) (i : ℕ). set ps i c) pairs_are (sym long) ∙ pad_push (front l.count) c (omega (arith, popped_room)))
          (omega (arith, long, length-append (front l.count) (c ∷ [])))
          ∙ ap (λ (cs : List Pair). kept_answer (cs ++ (c ∷ []))) (sym light)
