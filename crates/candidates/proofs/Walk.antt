-- The kept list by a walk through falling X: from x on take the pair (Q,X) of the ceilings shown for x, drop from the list the pairs whose sum Q+X is
-- no smaller, put (Q,X) behind it, and go on from X − 1.
--   Behind c d        == d has a smaller X and a greater Q+X than c
--   WalkedFrom v e cs == cs is what the walk keeps of the candidates with X ≥ e
--   Walked v x cs     == of those with X > x
-- Assumes nothing.
use Rattle.std.specs.Prelude.{Some, None}
use Prim.Native.Nat.{ℕ, suc, ◌+◌, ◌-◌, ◌≤◌, ◌<◌}
use native.Mathlib.Nat.{le_refl}
use native.Mathlib.Omega.{arith}
use native.Mathlib.Decide.{dec_le, dec_lt}
use mathlib.Core.Path.{◌≡◌, refl, sym, ap, subst}
use mathlib.Core.Logic.{◌⊎◌, inl, inr, ⊎_elim}
use mathlib.Core.List.Memᴰ
use mathlib.Core.List.{List, [], ◌∷◌, ◌++◌, Memᴰ}
use borrow.Author.Tests.{ltb-true, lt-ltb, le-ltb}
use Rattle.least.specs.Lists.{those}
use Rattle.least.proofs.Lists.{those_member, those_passing}
use Rattle.least.proofs.Those.{those_all, those_dropped}
use Rattle.least.proofs.Pairwise.{Pairwise, pairwise_those, pairwise_map, pairwise_snoc, pairwise_members, pairwise_unique}
use Rattle.task_set.specs.Partition.{Partition}
use Rattle.task_set.specs.Blocking.{Setting}
use Rattle.holding.specs.Holding.{holding_time_of}
use Rattle.budget.specs.Budget.{least_budget}
use Rattle.candidates.specs.declared.Pair.{Pair}
use Rattle.candidates.specs.Candidates.{pair, candidates_in, kept_among, kept_list, shown_ceiling}
use Rattle.candidates.specs.Statement.{Permitted, Candidate}
use Rattle.candidates.specs.Code.KeptSearch.{sum_of, lighter, pushed}
use Rattle.candidates.proofs.Falling.{Falling}
use Rattle.candidates.proofs.Keeping.{pair_same, NoWorse, Alone, Covered, kept_among_iff, kept_among_falls}
use Rattle.candidates.proofs.Candidates.{candidate_iff}
use Rattle.candidates.proofs.Shown.{lowest_within, found_none, candidate_shown, no_budget_below}

pub record Behind (c d : Pair) : Type 0 where
  pub holding : d.holding < c.holding
  pub sum : sum_of c < sum_of d

behind_once : (c d : Pair) → Behind c d → Behind d c → ⊥
behind_once c d h k = omega arith

falling_behind : {c : Pair} {cs : List Pair} → Falling (c ∷ cs) → (d : Pair) → Memᴰ d cs → d.holding < c.holding
falling_behind Falling.one d m = absurd (Memᴰ.not-nil m)
falling_behind (Falling.more h f) d (Memᴰ.head e) = omega (arith, ap (λ p. p.holding) e)
falling_behind (Falling.more h f) d (Memᴰ.tail m) = omega (arith, falling_behind f d m)

-- the same as `Falling`, of each pair and each behind it
abbrev pub Above : Pair → Pair → Type 0
Above c d = d.holding < c.holding

pub falling_pairwise : {cs : List Pair} → Falling cs → Pairwise Above cs
falling_pairwise Falling.none = Pairwise.none
falling_pairwise Falling.one = Pairwise.more (λ d m. absurd (Memᴰ.not-nil m)) Pairwise.none
falling_pairwise (Falling.more {c = c} h f) = Pairwise.more (falling_behind (Falling.more {c = c} h f)) (falling_pairwise f)

-- e is no worse than d, and d no worse than c: d is c, if e is c or one of them stands behind the other
no_worse_same : (c d e : Pair) → NoWorse d c → NoWorse e d → (e ≡ c) ⊎ (Behind e c ⊎ Behind c e) → d ≡ c
no_worse_same c d e h k (inl q) =
    let x = ap (λ p. p.holding) q in
    let b = ap (λ p. p.budget) q in
    pair_same d c (omega arith) (omega arith)
no_worse_same c d e h k (inr (inl b)) = absurd (omega arith)
no_worse_same c d e h k (inr (inr b)) = absurd (omega arith)

-- what is kept of any list of pairs
module _ (all : List Pair) where
  abbrev Kept : Pair → Type 0
  Kept c = Memᴰ c all × Alone all c

  behind_kept : (c d : Pair) → Kept c → Kept d → d.holding < c.holding → Behind c d
  behind_kept c d k j l = go (dec_lt (sum_of c) (sum_of d))
    where
      go : Dec (sum_of c < sum_of d) → Behind c d
      go (yes h) = record { holding = l; sum = h }
      go (no h) = absurd (omega (arith, ap (λ p. p.holding) (k.1 d j.0 (record { holding = omega arith; sum = omega arith }))))

  -- along it X falls and Q+X rises
  pub among_ordered : Pairwise Behind (kept_among all)
  among_ordered =
      pairwise_map (λ c d k j l. behind_kept c d ((kept_among_iff all c).0 k) ((kept_among_iff all d).0 j) l) (falling_pairwise (kept_among_falls all))

  -- Some of the pairs, with one beside each that is no worse, with X falling and Q+X rising along them, are what is kept.
  module _ (cs : List Pair) (from : (c : Pair) → Memᴰ c cs → Memᴰ c all) (ordered : Pairwise Behind cs) (covers : (d : Pair) → Memᴰ d all → Covered cs d) where
    into_kept : (c : Pair) → Memᴰ c cs → Memᴰ c (kept_among all)
    into_kept c k = (kept_among_iff all c).1 (from c k, alone)
      where
        alone : Alone all c
        alone d q n = let e = covers d q in no_worse_same c d e.0 n e.2 (pairwise_members ordered e.1 k)

    from_kept : (c : Pair) → Memᴰ c (kept_among all) → Memᴰ c cs
    from_kept c k =
        let i = (kept_among_iff all c).0 k in
        let e = covers c i.0 in
        Memᴰ.cast (sym (i.1 e.0 (from e.0 e.1) e.2)) e.1

    pub among_criterion : cs ≡ kept_among all
    among_criterion = pairwise_unique Behind behind_once cs (kept_among all) ordered among_ordered into_kept from_kept

-- the same of the candidates of a part
module _ (v : Partition) where
  pub kept_ordered : Pairwise Behind (kept_list v)
  unfolding kept_list
  kept_ordered = among_ordered (candidates_in v)

  pub kept_criterion : (cs : List Pair) → ((c : Pair) → Memᴰ c cs → Candidate v c) → Pairwise Behind cs → ((d : Pair) → Candidate v d → Covered cs d) → cs ≡ kept_list v
  unfolding kept_list
  kept_criterion cs candidates ordered covers =
      among_criterion (candidates_in v) cs (λ c k. (candidate_iff v c).1 (candidates c k)) ordered (λ d m. covers d ((candidate_iff v d).0 m))

-- Found from the end: a last pair that is not lighter goes, until all are.
pub lighter_none : (s : ℕ) → lighter s [] ≡ []
unfolding those
lighter_none s = refl

pub lighter_drop : (s : ℕ) (cs : List Pair) (c : Pair) → s ≤ sum_of c → lighter s (cs ++ (c ∷ [])) ≡ lighter s cs
lighter_drop s cs c l = those_dropped _ cs c (le-ltb (sum_of c) s l)

pub lighter_all : (s : ℕ) (cs : List Pair) → ((d : Pair) → Memᴰ d cs → sum_of d < s) → lighter s cs ≡ cs
lighter_all s cs all = those_all _ cs (λ d k. lt-ltb (sum_of d) s (all d k))

pub record WalkedFrom (v : Partition) (e : ℕ) (cs : List Pair) : Type 0 where
  pub candidates : (c : Pair) → Memᴰ c cs → Candidate v c
  pub above : (c : Pair) → Memᴰ c cs → e ≤ c.holding
  pub ordered : Pairwise Behind cs
  pub covers : (d : Pair) → Candidate v d → e ≤ d.holding → Covered cs d

abbrev pub Walked : Partition → ℕ → List Pair → Type 0
Walked v x cs = WalkedFrom v (suc x) cs

module _ (v : Partition) where
  pub walk_start : (x : ℕ) → ((σ : Setting) → Permitted v σ → holding_time_of v σ ≤ x) → Walked v x []
  walk_start x most = record {
    candidates = λ c k. absurd (Memᴰ.not-nil k);
    above = λ c k. absurd (Memᴰ.not-nil k);
    ordered = Pairwise.none;
    covers = λ d q l. absurd (omega (arith, most q.setting q.allowed, q.holding));
  }

  module _ (x Q X : ℕ) (cs : List Pair) (w : Walked v x cs) (ok : Permitted v (shown_ceiling v x)) (is : holding_time_of v (shown_ceiling v x) ≡ X) (most : X ≤ x) (least : least_budget v (shown_ceiling v x) ≡ Some Q) where
    of_lighter : (c : Pair) → Memᴰ c (lighter (Q + X) cs) → Memᴰ c cs × (sum_of c < Q + X)
    of_lighter c k = let h = those_member _ cs k in (h.0, ltb-true (sum_of c) (Q + X) h.1)

    of_pushed : (R : Pair → Type 0) → ((c : Pair) → Memᴰ c cs → R c) → R (pair Q X) → (c : Pair) → Memᴰ c (pushed (pair Q X) cs) → R c
    of_pushed R old new c k =
        ⊎_elim (λ (q : Memᴰ c (lighter (Q + X) cs)). old c (of_lighter c q).0) (λ (q : Memᴰ c (pair Q X ∷ [])). subst R (sym (Memᴰ.eq_of_singleton q)) new) (Memᴰ.append_cases (lighter (Q + X) cs) k)

    pushed_covers : (d : Pair) → Candidate v d → X ≤ d.holding → Covered (pushed (pair Q X) cs) d
    pushed_covers d q l = go (dec_le d.holding x)
      where
        new : Q + X ≤ sum_of d → Covered (pushed (pair Q X) cs) d
        new h = (pair Q X, Memᴰ.append_right (lighter (Q + X) cs) (Memᴰ.head refl), record { holding = l; sum = h })

        old : Covered cs d → Covered (pushed (pair Q X) cs) d
        old e = keep (dec_lt (sum_of e.0) (Q + X))
          where
            keep : Dec (sum_of e.0 < Q + X) → Covered (pushed (pair Q X) cs) d
            keep (yes h) = (e.0, Memᴰ.append_left _ (those_passing _ cs e.1 (lt-ltb _ _ h)), e.2)
            keep (no h) = new (omega (arith, e.2.sum))

        go : Dec (d.holding ≤ x) → Covered (pushed (pair Q X) cs) d
        go (yes h) =
            let b = candidate_shown v x d q h in
            let same : b.0 ≡ Q = cc b.1 in
            new (omega (arith, b.2))
        go (no h) = old (w.covers d q (omega arith))

    pub walk_push : WalkedFrom v X (pushed (pair Q X) cs)
    walk_push = record {
      candidates = of_pushed (Candidate v) w.candidates (record { setting = shown_ceiling v x; allowed = ok; holding = is; budget = least });
      above = of_pushed (λ c. X ≤ c.holding) (λ c k. omega (arith, w.above c k)) (le_refl X);
      ordered = pairwise_snoc (pairwise_those _ w.ordered) (λ c k. let h = of_lighter c k in record { holding = omega (arith, w.above c h.0); sum = h.1 });
      covers = pushed_covers;
    }

    -- the same, where x can still fall
    pub walk_next : 1 ≤ X → Walked v (X - 1) (pushed (pair Q X) cs)
    walk_next h = let e : X ≡ suc (X - 1) = omega arith in subst (λ (k : ℕ). WalkedFrom v k (pushed (pair Q X) cs)) e walk_push

  -- all candidates are looked at: none has a smaller X
  pub walk_all : (e : ℕ) (cs : List Pair) → WalkedFrom v e cs → ((c : Pair) → Candidate v c → e ≤ c.holding) → cs ≡ kept_list v
  walk_all e cs w all = kept_criterion v cs w.candidates w.ordered (λ d q. w.covers d q (all d q))

  pub walk_end : (x : ℕ) (cs : List Pair) → Walked v x cs → ((c : Pair) → Candidate v c → c.holding ≤ x → ⊥) → cs ≡ kept_list v
  walk_end x cs w no_more = walk_all (suc x) cs w (λ c q. above c q (dec_le c.holding x))
    where
      above : (c : Pair) → Candidate v c → Dec (c.holding ≤ x) → x < c.holding
      above c q (yes h) = absurd (no_more c q h)
      above c q (no h) = omega arith

  -- at 0 nothing is left
  pub walk_zero : (cs : List Pair) → WalkedFrom v 0 cs → cs ≡ kept_list v
  walk_zero cs w = walk_all 0 cs w (λ c q. omega arith)

  -- the walk ends where a lock has no ceiling within x, or no budget passes
  pub walk_missed : (x l : ℕ) (cs : List Pair) → Walked v x cs → 1 ≤ l → l ≤ v.locks → lowest_within v x l ≡ None → cs ≡ kept_list v
  walk_missed x l cs w a b e = walk_end x cs w (λ c q h. found_none v x l a b e q.setting q.allowed (omega (arith, q.holding)))

  pub walk_no_budget : (x : ℕ) (cs : List Pair) → Walked v x cs → least_budget v (shown_ceiling v x) ≡ None → cs ≡ kept_list v
  walk_no_budget x cs w e = walk_end x cs w (no_budget_below v x e)
