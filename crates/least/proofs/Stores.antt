-- Numbers are stored one after another, and the other places stay.
-- Assumes nothing.
use Prim.Native.Nat.{ℕ, ◌+◌, ◌≤◌, ◌<◌}
use native.Mathlib.Omega.{arith}
use native.Mathlib.Decide.{ℕ_discrete, dec_lt}
use mathlib.Core.Path.{◌≡◌, refl, sym, ◌∙◌, subst}
use mathlib.Core.Logic.{inl, inr, ⊎_elim}
use mathlib.Core.List.{List}
use lib.ListN.{length, get_or, set, length-set}
use lib.Seq.{get_or-set_same, get_or-set_other}
use Rattle.least.specs.Code.Stored.{Stored}

module _ (value : ℕ → ℕ) (first : ℕ) (before : List ℕ) where
  pub store_start : Stored value first 0 before before
  store_start = record { each = λ i l. absurd (omega arith); others = λ j l. refl; room = refl }

  pub store_step : (after : List ℕ) (i v : ℕ) → Stored value first i before after → first + i < length before → v ≡ value i → Stored value first (i + 1) before (set after (first + i) v)
  store_step after i v s h e = record {
    each = λ j u. at j u (ℕ_discrete j i);
    others = λ j u. get_or-set_other after (first + i) j v 0 (λ q. ⊎_elim (λ l. absurd (omega arith)) (λ l. absurd (omega arith)) u) ∙ s.others j (⊎_elim inl (λ l. inr (omega arith)) u);
    room = length-set after (first + i) v ∙ s.room;
  }
    where
      at : (j : ℕ) → j < i + 1 → Dec (j ≡ i) → get_or (set after (first + i) v) (first + j) 0 ≡ value j
      at j u (yes q) = rw q (get_or-set_same after (first + i) v 0 (omega (arith, s.room)) ∙ e)
      at j u (no q) = get_or-set_other after (first + i) (first + j) v 0 (λ p. absurd (q (omega arith))) ∙ s.each j (omega arith)

  pub store_end : (after : List ℕ) (i n : ℕ) → Stored value first i before after → i ≡ n → Stored value first n before after
  store_end after i n s e = subst (λ (m : ℕ). Stored value first m before after) e s

  -- where the next values are there already
  pub store_rest : (after : List ℕ) (i n : ℕ) → Stored value first i before after → i ≤ n → ((j : ℕ) → i ≤ j → j < n → value j ≡ get_or before (first + j) 0) → Stored value first n before after
  store_rest after i n s h e = record { each = λ j u. at j u (dec_lt j i); others = λ j u. s.others j (⊎_elim inl (λ l. inr (omega arith)) u); room = s.room }
    where
      at : (j : ℕ) → j < n → Dec (j < i) → get_or after (first + j) 0 ≡ value j
      at j u (yes q) = s.each j q
      at j u (no q) = s.others (first + j) (inr (omega arith)) ∙ sym (e j (omega arith) u)
