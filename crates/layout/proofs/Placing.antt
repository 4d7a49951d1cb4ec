-- Laws for the code that makes the chart: the first Q free ticks from a tick on, and those of each period, which are what a part gets.
-- Assumes nothing.
use Prim.Native.Nat.{ℕ, zero, suc, ◌+◌, ◌-◌, ◌*◌, ◌/◌, ◌%◌, min, ◌≤◌, ◌<◌}
use native.Mathlib.Nat.{add-zero, zero-add, suc-mul, mul-add-div_right, mul-add-mod_self_right, div-eq_of_lt, mod-eq_of_lt}
use native.Mathlib.Decide.{dec_lt}
use native.Mathlib.Omega.{arith}
use native.Mathlib.Numerals.{add-one}
use mathlib.Core.Path.{◌≡◌, refl, sym, ap, ◌∙◌}
use mathlib.Core.Bool.{Bool, true, false, cond, ◌&&◌}
use mathlib.Core.List.{List}
use lib.Dec.{eqb, ltb}
use mathlib.Core.Logic.{inl, inr, ⊎_elim}
use borrow.Author.Tests.{lt-ltb, le-ltb, eq-eqb, ne_eqb}
use borrow.Rule.Slice.PartMut.{put_mid}
use Rattle.std.proofs.Common.{rules}
use Rattle.std.proofs.lemmas.List.{places}
use lib.ListN.{length, get_or, set, take, drop, length-take, length-drop, length-append}
use lib.Seq.{get_or-take, get_or-drop, length-take-le}
use Rattle.least.specs.Code.Stored.{Stored}
use Rattle.least.proofs.Stores.{store_start, store_step, store_end, store_rest}
use Rattle.refusal.specs.Limits.{cycle}
use Rattle.delivery.specs.Assignment.{Assignment, given}
use Rattle.delivery.proofs.Given.{tick, given_none, given_last, given_inside, given_same_in}
use Rattle.layout.specs.Code.Placing.{free_in, placed_at, PlacedIn, Placed}

module _ (before : List ℕ) (Q k : ℕ) where
  -- the free ticks among the first i
  abbrev pub free_to : ℕ → ℕ
  free_to i = given (free_in before) 0 i

  placed_free : (i : ℕ) → free_in before i ≡ true → free_to i < Q → placed_at before 0 Q k i ≡ k
  unfolding placed_at
  placed_free i f l = rw (zero-add i, f, lt-ltb _ _ l) refl

  placed_taken : (i : ℕ) → free_in before i ≡ false → placed_at before 0 Q k i ≡ get_or before i 0
  unfolding placed_at
  placed_taken i f = rw (zero-add i, f) refl

  placed_none : (i : ℕ) → Q ≤ free_to i → placed_at before 0 Q k i ≡ get_or before i 0
  unfolding placed_at
  placed_none i l = rw zero-add (go (free_in before i))
    where
      go : (b : Bool) → cond (b && ltb (free_to i) Q) k (get_or before i 0) ≡ get_or before i 0
      go true = rw (le-ltb _ _ l) refl
      go false = refl

  -- i ticks are looked at, and so many of the Q are left
  pub record Placing (i left : ℕ) (after : List ℕ) : Type 0 where
    pub rest : left ≡ Q - free_to i
    pub stored : Stored (placed_at before 0 Q k) 0 i before after

  pub placing_start : Placing 0 Q before
  placing_start = record { rest = omega (arith, given_none (free_in before) 0); stored = store_start _ _ _ }

  -- the next tick is as it was
  next_same : (i left : ℕ) (after : List ℕ) → Placing i left after → get_or after i 0 ≡ get_or before i 0
  next_same i left after p = p.stored.others i (inr (omega arith))

  -- the tick is free, and the part gets it
  pub placing_free : (i left : ℕ) (after : List ℕ) → Placing i left after → i < length before → 1 ≤ left → get_or after i 0 ≡ 0 → Placing (i + 1) (left - 1) (set after i k)
  placing_free i left after p l s f =
      let free : free_in before i ≡ true = eq-eqb _ _ (sym (next_same i left after p) ∙ f) in
      record {
        rest = rw (add-one i) (omega (arith, p.rest, given_last (free_in before) 0 i, ap (λ (y : ℕ). tick (free_in before y)) (zero-add i), ap tick free));
        stored = rw (zero-add i) at (store_step _ _ _ after i k p.stored (omega arith) (sym (placed_free i free (omega (arith, p.rest)))));
      }

  -- the tick is taken
  pub placing_taken : (i left : ℕ) (after : List ℕ) → Placing i left after → (get_or after i 0 ≡ 0 → ⊥) → Placing (i + 1) left after
  placing_taken i left after p g =
      let f : free_in before i ≡ false = ne_eqb _ _ (λ e. g (next_same i left after p ∙ e)) in
      record {
        rest = rw (add-one i) (omega (arith, p.rest, given_last (free_in before) 0 i, ap (λ (y : ℕ). tick (free_in before y)) (zero-add i), ap tick f));
        stored = store_rest _ _ _ after i (i + 1) p.stored (omega arith) (λ j a b. let e : j ≡ i = omega arith in rw (e, zero-add i) (placed_taken i f));
      }

  -- nothing is left, or no tick
  pub placing_done : (i : ℕ) (after : List ℕ) → Placing i 0 after → i ≤ length before → PlacedIn Q k before after
  placing_done i after p l =
      store_rest _ _ _ after i (length before) p.stored l (λ j a b. rw zero-add (placed_none j (omega (arith, p.rest, given_inside (free_in before) 0 j 0 i (omega arith) (omega arith)))))

-- the bytes from `from` on, as a list of their own, have the same free ticks, and give them alike
given_behind : (A B : Assignment) (from t : ℕ) → ((z : ℕ) → z < t → A z ≡ B (from + z)) → given A 0 t ≡ given B from t
given_behind A B from zero h = given_none A 0 ∙ sym (given_none B from)
given_behind A B from (suc t) h =
    omega (arith, given_last A 0 t, given_last B from t, given_behind A B from t (λ z l. h z (omega arith)), ap (λ (y : ℕ). tick (A y)) (zero-add t), ap tick (h t (omega arith)))

placed_behind : (bytes : List ℕ) (from Q k i : ℕ) (part : List ℕ) → ((z : ℕ) → z ≤ i → get_or part z 0 ≡ get_or bytes (from + z) 0) → placed_at part 0 Q k i ≡ placed_at bytes from Q k i
unfolding placed_at
placed_behind bytes from Q k i part h =
    let b = h i (omega arith) in
    let g = given_behind (free_in part) (free_in bytes) from i (λ z l. ap (λ (x : ℕ). eqb x 0) (h z (omega arith))) in
    rw (zero-add, b, g) refl

-- the part gets its ticks among n bytes from `from` on
placed_part : (xs ys : List ℕ) (from n Q k : ℕ) → from + n ≤ length xs → PlacedIn Q k (take n (drop from xs)) ys → Stored (placed_at xs from Q k) from n xs (put_mid from n xs ys)
placed_part xs ys from n Q k l p = record {
  each = λ i h. here i h ∙ (rw (zero-add i) at (p.each i (omega (arith, part)))) ∙ placed_behind xs from Q k i (take n (drop from xs)) (λ z m. get_or-take n (drop from xs) z 0 (omega arith) ∙ get_or-drop from xs z 0);
  others = λ j u. ⊎_elim (λ h. low j h) (λ h. high j h) u;
  room = simp (length-append, length-take, length-drop) (omega (arith, long));
}
  where
    part : length (take n (drop from xs)) ≡ n
    part = length-take-le n (drop from xs) (omega (arith, length-drop from xs))

    long : length ys ≡ n
    long = p.room ∙ part

    here : (i : ℕ) → i < n → get_or (put_mid from n xs ys) (from + i) 0 ≡ get_or ys i 0
    here i h = search (rules, places)

    low : (j : ℕ) → j < from → get_or (put_mid from n xs ys) j 0 ≡ get_or xs j 0
    low j h = search (rules, places)

    high : (j : ℕ) → from + n ≤ j → get_or (put_mid from n xs ys) j 0 ≡ get_or xs j 0
    high j h = search (rules, places)

-- only the bytes from `from` on count
placed_same : (xs ys : List ℕ) (from Q k i : ℕ) → ((z : ℕ) → from ≤ z → get_or xs z 0 ≡ get_or ys z 0) → placed_at xs from Q k i ≡ placed_at ys from Q k i
unfolding placed_at
placed_same xs ys from Q k i h =
    let b = h (from + i) (omega arith) in
    let g = given_same_in (free_in xs) (free_in ys) from i (λ z l m. ap (λ (x : ℕ). eqb x 0) (h z l)) in
    rw (b, g) refl

module _ (before : List ℕ) (P Q k : ℕ) where
  abbrev placed_tick : ℕ → ℕ
  placed_tick y = placed_at before (y / P * P) Q k (y % P)

  in_period : (m i : ℕ) → 1 ≤ P → i < P → placed_tick (m * P + i) ≡ placed_at before (m * P) Q k i
  in_period m i some l =
      let d : (m * P + i) / P ≡ m = mul-add-div_right some m i ∙ ap (λ (x : ℕ). m + x) (div-eq_of_lt l) ∙ add-zero m in
      let r : (m * P + i) % P ≡ i = mul-add-mod_self_right m P i ∙ mod-eq_of_lt l in
      rw (d, r) refl

  -- the periods before tick `from` have their ticks
  pub record PeriodsPlaced (from : ℕ) (after : List ℕ) : Type 0 where
    pub turns : ℕ
    pub from_is : from ≡ turns * P
    pub stored : Stored placed_tick 0 (min from cycle) before after

  module _ (from end : ℕ) (after part : List ℕ) (some : 1 ≤ P) (room : cycle ≤ length before) (p : PeriodsPlaced from after) (l : from < cycle) (upto : end ≡ min cycle (from + P)) (placed : PlacedIn Q k (take (end - from) (drop from after)) part) where
    abbrev next : List ℕ
    next = put_mid from (end - from) after part

    s : Stored (placed_at after from Q k) from (end - from) after next
    s = placed_part after part from (end - from) Q k (omega (arith, p.stored.room)) placed

    untouched : (z : ℕ) → from ≤ z → get_or after z 0 ≡ get_or before z 0
    untouched z h = p.stored.others z (inr (omega arith))

    placed_at_lem : (y : ℕ) → y < min (from + P) cycle → Dec (y < from) → get_or next y 0 ≡ placed_tick y
    placed_at_lem y u (yes h) = s.others y (inl h) ∙ (rw (zero-add y) at (p.stored.each y (omega arith)))
    placed_at_lem y u (no h) =
        let i : y ≡ from + (y - from) = omega arith in
        let j : y ≡ p.turns * P + (y - from) = omega (arith, p.from_is) in
        ap (λ (z : ℕ). get_or next z 0) i
        ∙ s.each (y - from) (omega arith)
        ∙ placed_same after before from Q k (y - from) untouched
        ∙ ap (λ (z : ℕ). placed_at before z Q k (y - from)) p.from_is
        ∙ sym (in_period p.turns (y - from) some (omega arith))
        ∙ sym (ap placed_tick j)

    pub periods_next : PeriodsPlaced (from + P) next
    periods_next = record {
      turns = suc p.turns;
      from_is = omega (arith, p.from_is, suc-mul p.turns P);
      stored = record {
        each = λ y u. rw (zero-add y) (placed_at_lem y u (dec_lt y from));
        others = λ j u. s.others j (inr (⊎_elim (λ q. absurd (omega arith)) (λ q. omega arith) u)) ∙ untouched j (⊎_elim (λ q. absurd (omega arith)) (λ q. omega arith) u);
        room = s.room ∙ p.stored.room;
      };
    }

  pub periods_all : (from : ℕ) (after : List ℕ) → PeriodsPlaced from after → cycle ≤ from → Placed P Q k before after
  periods_all from after p h = store_end _ _ _ after (min from cycle) cycle p.stored (omega arith)
