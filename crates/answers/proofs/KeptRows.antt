-- The kept rows of a part, and the choices built from them: they are choices, and under every choice there is one that is no heavier.
--   Under s r == s has the period of r, and its X and its Q+X are no greater
-- Assumes nothing.
use mathlib.Core.Path.{◌≡◌, refl, sym, subst}
use mathlib.Core.Logic.{◌↔◌}
use mathlib.Core.Bool.{true, false, false≢true}
use mathlib.Core.List.Memᴰ
use mathlib.Core.List.{List, [], ◌∷◌, map, Memᴰ}
use native.Mathlib.Omega.{arith}
use Rattle.least.specs.Lists.{is_empty}
use Rattle.least.specs.Each.{Each}
use Rattle.least.specs.Each.Each.{none, more}
use Rattle.least.specs.Fraction.{◌⊑◌}
use Rattle.least.proofs.Each.{each_map}
use Rattle.least.proofs.Lists.{map_iff}
use Rattle.least.proofs.Fraction.{finite_below}
use Rattle.least.proofs.Pairwise.{Pairwise}
use Rattle.task_set.specs.Partition.{Partition}
use Rattle.load.specs.declared.Row.{Row}
use Rattle.load.specs.Load.{load_of, passes_system}
use Rattle.load.proofs.Load.{Under, load_of_ok, load_mono, passes_finite}
use Rattle.budget.proofs.Passing.{budget_iff}
use Rattle.selection.specs.Selection.{choices}
use Rattle.selection.proofs.Selection.{choices_iff}
use Rattle.selection.proofs.Greatest.{After, Falling, Sorted}
use Rattle.selection.proofs.Greatest.Falling.{empty, single, next}
use Rattle.selection.proofs.Greatest.Sorted.{no_part, part}
use Rattle.candidates.specs.declared.Pair.{Pair}
use Rattle.candidates.specs.Candidates.{pair, kept_list, shown_ceiling}
use Rattle.candidates.proofs.Candidates.{kept_iff, kept_covers}
use Rattle.candidates.proofs.Shown.{kept_shown}
use Rattle.candidates.proofs.Walk.{Behind, kept_ordered}
use Rattle.plan_file.specs.Numbers.{PlanPart}
use Rattle.answers.specs.Parts.{row_of, kept_rows}
use Rattle.answers.specs.Plan.{partitions, offered}
use Rattle.answers.specs.Choice.{Budgeted, row_under, Chosen, FromKept, PassingChoice}

-- a relation between what f makes of each element of a list and another list
module _ {A B C : Type 0} {R : B → C → Type 0} (f : A → B) where
  pub each_of_map : (xs : List A) {ys : List C} → Each R (map f xs) ys → Each (λ x y. R (f x) y) xs ys
  each_of_map [] none = none
  each_of_map (x ∷ xs) (more h hs) = more h (each_of_map xs hs)

  pub map_of_each : {xs : List A} {ys : List C} → Each (λ x y. R (f x) y) xs ys → Each R (map f xs) ys
  map_of_each none = none
  map_of_each (more h hs) = more h (map_of_each hs)

-- an empty list has no member, any other has one
module _ {A : Type 0} where
  empty_member : {x : A} (xs : List A) → is_empty xs ≡ true → Memᴰ x xs → ⊥
  unfolding is_empty
  empty_member [] e m = Memᴰ.not-nil m
  empty_member (y ∷ ys) e m = false≢true e

  first_member : (xs : List A) → is_empty xs ≡ false → (x : A) × Memᴰ x xs
  unfolding is_empty
  first_member [] e = absurd (false≢true (sym e))
  first_member (x ∷ xs) e = (x, Memᴰ.head refl)

module _ (v : Partition) where
  pub kept_rows_iff : (r : Row) → Memᴰ r (kept_rows v) ↔ FromKept v r
  unfolding kept_rows
  kept_rows_iff r = (to, from)
    where
      to : Memᴰ r (kept_rows v) → FromKept v r
      to m =
          let h = (map_iff (row_of v) r (kept_list v)).0 m in
          subst (FromKept v) h.2 (record { kept = (kept_iff v h.0).0 h.1; period = refl })

      from : FromKept v r → Memᴰ r (kept_rows v)
      from k =
          let c : Pair = pair r.budget r.holding in
          let e : row_of v c ≡ r = λ i. record { period = sym k.period i; budget = r.budget; holding = r.holding } in
          (map_iff (row_of v) r (kept_list v)).1 (c, (kept_iff v c).1 k.kept, e)

  -- the ceilings shown for a kept row are its own: its budget passes under them, and they have its X
  module _ (r : Row) (k : FromKept v r) where
    pub shown_passes : Budgeted v (shown_ceiling v r.holding) r.budget
    shown_passes =
        let h = kept_shown v (pair r.budget r.holding) k.kept in
        let b = (budget_iff v (shown_ceiling v r.holding) r.budget).0 h.0 in
        record { allowed = h.2; some = b.0.positive; most = b.1; passing = b.0.passes }

    pub shown_row : r ≡ row_under v (shown_ceiling v r.holding) r.budget
    shown_row =
        let h = kept_shown v (pair r.budget r.holding) k.kept in
        λ i. record { period = k.period i; budget = r.budget; holding = sym h.1 i }

    pub kept_chosen : Chosen v r
    kept_chosen = record { setting = shown_ceiling v r.holding; budget = r.budget; local = shown_passes; is = shown_row }

  -- under every row that can be chosen there is a kept one
  pub kept_under : (r : Row) → Chosen v r → (s : Row) × FromKept v s × Under s r
  unfolding kept_rows
  kept_under r c =
      let b = c.local in
      let h = kept_covers v c.setting c.budget b.allowed b.some b.most b.passing in
      let s = row_of v h.0 in
      let k : FromKept v s = record { kept = (kept_iff v h.0).0 h.1; period = refl } in
      (s, k, subst (Under s) (sym c.is) (record { period = refl; sums = h.2.sum; holds = h.2.holding }))

  -- no kept row: no row can be chosen; a kept row: one can
  pub none_kept : is_empty (kept_rows v) ≡ true → (r : Row) → Chosen v r → ⊥
  none_kept e r c = let h = kept_under r c in empty_member (kept_rows v) e ((kept_rows_iff h.0).1 h.1)

  pub some_kept : is_empty (kept_rows v) ≡ false → (r : Row) × Chosen v r
  some_kept e = let h = first_member (kept_rows v) e in (h.0, kept_chosen h.0 ((kept_rows_iff h.0).0 h.1))

  -- along the kept rows the period stays, Q+X rises and X falls
  rows_fall : {cs : List Pair} → Pairwise Behind cs → Falling (map (row_of v) cs)
  rows_fall Pairwise.none = empty
  rows_fall (Pairwise.more {xs = []} h q) = single
  rows_fall (Pairwise.more {x = c} {xs = d ∷ ds} h q) =
      let b = h d (Memᴰ.head refl) in
      let a : After (row_of v c) (row_of v d) = record { period = refl; sums = omega (arith, b.sum); holds = omega (arith, b.holding) } in
      next a (rows_fall q)

  pub kept_rows_fall : Falling (kept_rows v)
  unfolding kept_rows
  kept_rows_fall = rows_fall (kept_ordered v)

pub kept_rows_sorted : (vs : List Partition) → Sorted (offered vs)
kept_rows_sorted [] = no_part
kept_rows_sorted (v ∷ vs) = part (kept_rows_fall v) (kept_rows_sorted vs)

-- choices
pub choices_kept : (vs : List Partition) (rs : List Row) → Memᴰ rs (choices (offered vs)) ↔ Each FromKept vs rs
choices_kept vs rs = (to, from)
  where
    to : Memᴰ rs (choices (offered vs)) → Each FromKept vs rs
    to m = each_map (λ v r. (kept_rows_iff v r).0) (each_of_map kept_rows vs ((choices_iff (offered vs) rs).0 m))

    from : Each FromKept vs rs → Memᴰ rs (choices (offered vs))
    from k = (choices_iff (offered vs) rs).1 (map_of_each kept_rows (each_map (λ v r. (kept_rows_iff v r).1) k))

pub kept_choice : {vs : List Partition} {rs : List Row} → Each FromKept vs rs → Each Chosen vs rs
kept_choice k = each_map kept_chosen k

pub kept_choice_under : {vs : List Partition} {rs : List Row} → Each Chosen vs rs → (ks : List Row) × Each FromKept vs ks × Each Under ks rs
kept_choice_under none = ([], none, none)
kept_choice_under (more {x = v} {y = r} c cs) =
    let h = kept_under v r c in
    let k = kept_choice_under cs in
    (h.0 ∷ k.0, more h.1 k.1, more h.2 k.2)

-- under every choice that passes there is one built from kept pairs that passes too, with a load no greater
pub record KeptUnder (ps : List PlanPart) (rs : List Row) : Type 0 where
  pub rows : List Row
  pub kept : Memᴰ rows (choices (offered (partitions ps)))
  pub system : passes_system rows ≡ true
  pub lighter : load_of rows ⊑ load_of rs

pub passing_under : (ps : List PlanPart) (rs : List Row) → PassingChoice ps rs → KeptUnder ps rs
passing_under ps rs c =
    let k = kept_choice_under c.choice in
    let l = load_mono k.2 in
    record {
      rows = k.0;
      kept = (choices_kept (partitions ps) k.0).1 k.1;
      system = (passes_finite k.0).1 (finite_below (load_of_ok k.0) l ((passes_finite rs).0 c.system));
      lighter = l;
    }
