-- The kept list of a part of a readable file, over every setting and every budget; and only one list is such.
-- Assumes nothing.
use Prim.Native.Nat.{ℕ, zero, suc, ◌≤◌, ◌<◌}
use native.Mathlib.Omega.{arith}
use mathlib.Core.Path.{◌≡◌, refl, sym, ap, ◌∙◌, subst}
use mathlib.Core.Bool.{true, false, not, false≢true}
use mathlib.Core.Logic.{◌↔◌}
use mathlib.Core.List.{List, [], ◌∷◌, Memᴰ}
use lib.ListN.{length}
use Rattle.least.specs.Lists.{is_empty, nth_or, pad}
use Rattle.least.proofs.Lists.{nth_get, nth_member}
use Rattle.least.proofs.Members.{place_of}
use Rattle.least.proofs.Pairwise.{Pairwise, pairwise_unique}
use Rattle.refusal.specs.Limits.{kept_limit}
use Rattle.task_set.specs.Blocking.{Setting}
use Rattle.task_set.specs.Partition.{Partition}
use Rattle.budget.proofs.Passing.{budget_iff}
use Rattle.candidates.specs.declared.Pair.{Pair}
use Rattle.candidates.specs.declared.Kept.{Kept}
use Rattle.candidates.specs.Candidates.{pair, kept_answer, kept_list}
use Rattle.candidates.proofs.Candidates.{kept_iff, kept_falls, kept_none}
use Rattle.candidates.proofs.Walk.{Above, falling_pairwise}
use Rattle.answers.specs.Choice.{Budgeted, WithoutBudget}
use Rattle.planner.specs.Numbers.{KeptIs}

-- a relation between each element and each after it, by their numbers
module _ {A : Type 0} (R : A → A → Type 0) (d : A) where
  abbrev ByNumber : List A → Type 0
  ByNumber xs = (i j : ℕ) → 1 ≤ i → i < j → j ≤ length xs → R (nth_or d i xs) (nth_or d j xs)

  pairwise_number : {xs : List A} → Pairwise R xs → ByNumber xs
  unfolding nth_or
  pairwise_number Pairwise.none i j a b c = absurd (omega arith)
  pairwise_number (Pairwise.more h q) zero j a b c = absurd (omega arith)
  pairwise_number (Pairwise.more h q) (suc i) zero a b c = absurd (omega arith)
  pairwise_number (Pairwise.more h q) (suc i) (suc zero) a b c = absurd (omega arith)
  pairwise_number (Pairwise.more {xs = xs} h q) (suc zero) (suc (suc j)) a b c = h _ (nth_member d (suc j) xs (omega arith) (omega arith))
  pairwise_number (Pairwise.more h q) (suc (suc i)) (suc (suc j)) a b c = pairwise_number q (suc i) (suc j) (omega arith) (omega arith) (omega arith)

  number_pairwise : (xs : List A) → ByNumber xs → Pairwise R xs
  unfolding nth_or
  number_pairwise [] h = Pairwise.none
  number_pairwise (x ∷ xs) h = Pairwise.more after (number_pairwise xs (λ i j a b c. later i j a b c))
    where
      after : (y : A) → Memᴰ y xs → R x y
      after y m =
          let k = place_of d xs m in
          subst (R x) (nth_get d k.0 xs ∙ sym k.2) (h 1 (suc (suc k.0)) (omega arith) (omega arith) (omega (arith, k.1)))

      later : ByNumber xs
      later zero j a b c = absurd (omega arith)
      later (suc i) zero a b c = absurd (omega arith)
      later (suc i) (suc j) a b c = h (suc (suc i)) (suc (suc j)) (omega arith) (omega arith) (omega arith)

module _ (v : Partition) where
  pub kept_is : length (kept_list v) ≤ kept_limit → KeptIs v (kept_answer (kept_list v))
  unfolding kept_answer
  kept_is few = record {
    list = kept_list v;
    members = kept_iff v;
    falling = pairwise_number Above (pair 0 0) (falling_pairwise (kept_falls v));
    few = few;
    count = refl;
    pairs = refl;
  }

  pub kept_settled : (a b : Kept) → KeptIs v a → KeptIs v b → a ≡ b
  kept_settled a b k j = λ i. record { pairs = (k.pairs ∙ ap (pad kept_limit (pair 0 0)) same ∙ sym j.pairs) i; count = (k.count ∙ ap length same ∙ sym j.count) i }
    where
      falls : {c : Kept} (h : KeptIs v c) → Pairwise Above h.list
      falls h = number_pairwise Above (pair 0 0) h.list h.falling

      into : {c d : Kept} (h : KeptIs v c) (g : KeptIs v d) (x : Pair) → Memᴰ x h.list → Memᴰ x g.list
      into h g x m = (g.members x).1 ((h.members x).0 m)

      same : k.list ≡ j.list
      same = pairwise_unique Above (λ c d h g. omega arith) k.list j.list (falls k) (falls j) (into k j) (into j k)

  -- question 10 for this part alone
  none_empty : (cs : List Pair) → not (is_empty cs) ≡ false → cs ≡ []
  unfolding is_empty
  none_empty [] e = refl
  none_empty (c ∷ cs) e = absurd (false≢true (sym e))

  pub no_budget_iff : (not (is_empty (kept_list v)) ≡ false) ↔ WithoutBudget v
  unfolding is_empty
  no_budget_iff =
      let iff = kept_none v in
      ((λ e σ Q b. iff.0 (none_empty (kept_list v) e) σ Q b.allowed b.some b.most b.passing), λ n. ap (λ (cs : List Pair). not (is_empty cs)) (iff.1 (λ σ Q ok a b t. n σ Q (record { allowed = ok; some = a; most = b; passing = t }))))

  pub some_budget : not (is_empty (kept_list v)) ≡ true → (σ : Setting) × (Q : ℕ) × Budgeted v σ Q
  unfolding is_empty
  some_budget e = go (kept_list v) refl e
    where
      go : (cs : List Pair) → kept_list v ≡ cs → not (is_empty cs) ≡ true → (σ : Setting) × (Q : ℕ) × Budgeted v σ Q
      go [] q e = absurd (false≢true e)
      go (c ∷ cs) q e =
          let d = ((kept_iff v c).0 (subst (Memᴰ c) (sym q) (Memᴰ.head refl))).candidate in
          let l = (budget_iff v d.setting c.budget).0 d.budget in
          (d.setting, c.budget, record { allowed = d.allowed; some = l.0.positive; most = l.1; passing = l.0.passes })
