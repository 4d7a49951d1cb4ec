-- The ceiling shown for a lock at x, from the one shown at a greater x: the search goes on from there.
--   shown_at v x l  == the ceiling shown for lock l at x, with the time that counts there
--   Known v y l c w == c is shown for lock l at y with the time w; or the lock is shared, nothing is known of it yet, and c is its lowest ceiling
-- Assumes nothing.
use Rattle.std.specs.Prelude.{Option, Some, None}
use Rattle.std.proofs.lemmas.Option.{same_Some}
use Prim.Native.Nat.{ℕ, suc, ◌+◌, ◌-◌, ◌≤◌, ◌<◌}
use native.Mathlib.Nat.{le_refl}
use native.Mathlib.Omega.{arith}
use native.Mathlib.Decide.{dec_le}
use mathlib.Core.Path.{◌≡◌, refl, sym, ap, ap₂, ◌∙◌, fun_ext}
use mathlib.Core.Bool.{Bool, true, false, cond}
use mathlib.Core.Logic.{◌⊎◌, inl, inr}
use mathlib.Core.List.{List}
use lib.Dec.{leb}
use lib.ListN.{length, drop}
use borrow.Author.Tests.{le-leb, lt-leb, leb-false}
use Rattle.least.specs.Search.{least_from, least_up_to, number_or0}
use Rattle.least.proofs.Search.{NoneIn, none_next, least_at, least_found, least_skip}
use Rattle.refusal.specs.Limits.{number_limit}
use Rattle.task_set.specs.declared.Task.{Task}
use Rattle.task_set.specs.declared.Lock.{Lock}
use Rattle.task_set.specs.Tasks.{demand_in, lowest_ceiling, greatest_held, smallest_deadline}
use Rattle.task_set.specs.Partition.{Partition, is_shared}
use Rattle.task_set.specs.Code.ByLock.{lock_of}
use Rattle.holding.specs.declared.Held.{Held}
use Rattle.holding.specs.Holding.{held, holding_of, within, highest_ceiling}
use Rattle.holding.specs.Code.Search.{hold_up_to, with_time, lowest_held}
use Rattle.holding.proofs.Holding.{highest_shared, lowest≤highest, counted_time, counted_shared, counted_private}
use Rattle.raising.specs.Code.Raising.{next_ceiling}
use Rattle.candidates.proofs.Shown.{counted_most, within_iff, lowest_within, within_shared}

abbrev pub held_by : ℕ → ℕ → Option Held
held_by c w = Some (record { ceiling = c; time = w })

-- a ceiling that was found, with its time
abbrev timed_by : (ℕ → Option ℕ) → Option ℕ → Option Held
timed_by time (Some r) = held_by r (number_or0 (time r))
timed_by time None = None

abbrev pub shown_at : Partition → ℕ → ℕ → Option Held
shown_at v x l = timed_by (counted_time v l) (lowest_within v x l)

abbrev pub Known : Partition → ℕ → ℕ → ℕ → ℕ → Type 0
Known v y l c w = ((number_limit < w) × (c ≡ lowest_ceiling l v.tasks) × (is_shared v l ≡ true)) ⊎ (shown_at v y l ≡ held_by c w)

-- tasks that ask for the same have the same holding times
module _ (ts us : List Task) (same : (r w : ℕ) → demand_in (drop r ts) w ≡ demand_in (drop r us) w) (count : length ts ≡ length us) where
  hold_same : (g r limit : ℕ) → hold_up_to ts g r limit ≡ hold_up_to us g r limit
  unfolding hold_up_to
  hold_same g r limit = ap (λ (demand : ℕ → ℕ). least_up_to (λ w. leb (g + demand w) w) limit) (fun_ext (same r))

  timed_same : (g limit : ℕ) (a : Option ℕ) → with_time ts g limit a ≡ with_time us g limit a
  timed_same g limit (Some r) = ap (λ (b : Option ℕ). held_by r (number_or0 b)) (hold_same g r limit)
  timed_same g limit None = refl

  pub lowest_held_same : (g limit x r : ℕ) → lowest_held ts g limit x r ≡ lowest_held us g limit x r
  unfolding lowest_held
  lowest_held_same g limit x r =
      timed_same g limit (least_from (λ k. within x (hold_up_to ts g k limit)) r (suc (length ts) - r))
      ∙ ap₂ (λ (test : ℕ → Bool) (n : ℕ). with_time us g limit (least_from test r (suc n - r))) (fun_ext (λ k. ap (within x) (hold_same g k limit))) count

  pub next_same : (lock : Lock) (c w x : ℕ) → next_ceiling ts lock c w x ≡ next_ceiling us lock c w x
  unfolding next_ceiling
  next_same lock c w x = ap (λ (a : Option Held). cond (leb w x) (held_by c w) a) (lowest_held_same lock.longest lock.deadline x (cond (leb w number_limit) (c + 1) c))

-- the search of the code, up to the smallest deadline, is that of the definition
searched : (ts : List Task) (x l : ℕ) → timed_by (holding_of ts l) (least_from (λ r. within x (holding_of ts l r)) (lowest_ceiling l ts) (suc (length ts) - lowest_ceiling l ts)) ≡ lowest_held ts (greatest_held l ts) (smallest_deadline l ts) x (lowest_ceiling l ts)
unfolding lowest_held holding_of held hold_up_to
searched ts x l = go (least_from (λ r. within x (hold_up_to ts (greatest_held l ts) r (smallest_deadline l ts))) (lowest_ceiling l ts) (suc (length ts) - lowest_ceiling l ts))
  where
    go : (a : Option ℕ) → timed_by (λ r. hold_up_to ts (greatest_held l ts) r (smallest_deadline l ts)) a ≡ with_time ts (greatest_held l ts) (smallest_deadline l ts) a
    go (Some r) = refl
    go None = refl

-- what is shown for lock l at x
module _ (v : Partition) (x l : ℕ) where
  pub shown_missed : shown_at v x l ≡ None → lowest_within v x l ≡ None
  shown_missed e = go (lowest_within v x l) refl
    where
      go : (a : Option ℕ) → lowest_within v x l ≡ a → lowest_within v x l ≡ None
      go (Some r) q = let h = sym e ∙ ap (timed_by (counted_time v l)) q in let z : ◌≡◌ {A = ℕ} 0 1 = cc h in absurd (omega arith)
      go None q = q

  -- c is the lowest ceiling whose time is at most x, and its time is w
  pub record Shows (c w : ℕ) : Type 0 where
    pub lowest : lowest_within v x l ≡ Some c
    pub time : counted_time v l c ≡ Some w
    pub most : w ≤ x

  pub shown_held : (c w : ℕ) → shown_at v x l ≡ held_by c w → Shows c w
  unfolding number_or0
  shown_held c w e = go (lowest_within v x l) refl
    where
      go : (a : Option ℕ) → lowest_within v x l ≡ a → Shows c w
      go None q = let h = sym e ∙ ap (timed_by (counted_time v l)) q in let z : ◌≡◌ {A = ℕ} 0 1 = cc h in absurd (omega arith)
      go (Some r) q =
          let f = least_found _ _ _ r q in
          let t = (within_iff x (counted_time v l r)).0 f.passes in
          let n : number_or0 (counted_time v l r) ≡ t.0 = ap number_or0 t.1 in
          let same = same_Some _ _ (sym e ∙ ap (timed_by (counted_time v l)) q) in
          let rc : c ≡ r = ap (λ (h : Held). h.ceiling) same in
          let wt : w ≡ t.0 = ap (λ (h : Held). h.time) same ∙ n in
          rw (rc, wt) (record { lowest = q; time = t.1; most = t.2 })

  pub shows_shown : (c w : ℕ) → Shows c w → shown_at v x l ≡ held_by c w
  unfolding number_or0
  shows_shown c w s = ap (timed_by (counted_time v l)) s.lowest ∙ ap (λ (a : Option ℕ). held_by c (number_or0 a)) s.time

  -- of a shared lock it is what the code searches for
  pub shared_shown : is_shared v l ≡ true → shown_at v x l ≡ lowest_held v.tasks (greatest_held l v.tasks) (smallest_deadline l v.tasks) x (lowest_ceiling l v.tasks)
  shared_shown s = ap₂ timed_by (fun_ext (λ r. counted_shared v l r s)) (within_shared v x l s) ∙ searched v.tasks x l

  -- a private lock keeps its lowest ceiling, and no time counts
  pub private_shown : is_shared v l ≡ false → shown_at v x l ≡ held_by (lowest_ceiling l v.tasks) 0
  private_shown s = shows_shown (lowest_ceiling l v.tasks) 0 (record { lowest = first; time = counted_private v l _ s; most = omega arith })
    where
      first : lowest_within v x l ≡ Some (lowest_ceiling l v.tasks)
      first =
          least_at (λ r. within x (counted_time v l r)) (suc (highest_ceiling v l) - lowest_ceiling l v.tasks) (lowest_ceiling l v.tasks) (lowest_ceiling l v.tasks)
          (record { from = le_refl _; below = omega (arith, lowest≤highest v l); passes = (within_iff x (counted_time v l (lowest_ceiling l v.tasks))).1 (0, counted_private v l _ s, omega arith); before = λ r a b. absurd (omega arith) })

-- at a smaller x no more is within
within_less : (x y : ℕ) → x ≤ y → (a : Option ℕ) → within y a ≡ false → within x a ≡ false
within_less x y h (Some w) e = lt-leb w x (omega (arith, leb-false w y e))
within_less x y h None e = refl

module _ (v : Partition) (x y l c w : ℕ) (h : x ≤ y) (s : Shows v y l c w) where
  abbrev test : ℕ → ℕ → Bool
  test z r = within z (counted_time v l r)

  none_before : NoneIn (test x) (lowest_ceiling l v.tasks) c
  none_before r a b = within_less x y h (counted_time v l r) ((least_found _ _ _ c s.lowest).before r a b)

  -- it stays where its time is at most x
  pub still_shown : w ≤ x → Shows v x l c w
  still_shown m =
      let f = least_found _ _ _ c s.lowest in
      record { lowest = least_at (test x) _ _ c (record { from = f.from; below = f.below; passes = (within_iff x (counted_time v l c)).1 (w, s.time, m); before = none_before }); time = s.time; most = m }

  -- else the lock is shared, and the search goes on behind it
  later_shared : x < w → is_shared v l ≡ true
  later_shared m = go (is_shared v l) refl
    where
      go : (b : Bool) → is_shared v l ≡ b → is_shared v l ≡ true
      go true e = e
      go false e = let z : 0 ≡ w = cc (counted_private v l c e, s.time) in absurd (omega arith)

  pub shown_later : x < w → shown_at v x l ≡ lowest_held v.tasks (greatest_held l v.tasks) (smallest_deadline l v.tasks) x (c + 1)
  unfolding lowest_held holding_of held hold_up_to
  shown_later m =
      let e = later_shared m in
      let same : (z r : ℕ) → test z r ≡ within z (holding_of v.tasks l r) = λ z r. ap (within z) (counted_shared v l r e) in
      let f = least_found _ _ _ c s.lowest in
      let high = highest_shared v l e in
      let here : within x (holding_of v.tasks l c) ≡ false = sym (same x c) ∙ ap (within x) s.time ∙ lt-leb w x m in
      let none : NoneIn (λ r. within x (holding_of v.tasks l r)) (lowest_ceiling l v.tasks) c = λ r a b. sym (same x r) ∙ none_before r a b in
      let rest : lowest_ceiling l v.tasks + (suc (length v.tasks) - lowest_ceiling l v.tasks) - (c + 1) ≡ suc (length v.tasks) - (c + 1) = omega (arith, f.from, f.below, high) in
      shared_shown v x l e
      ∙ ap (with_time v.tasks (greatest_held l v.tasks) (smallest_deadline l v.tasks))
      (least_skip (λ r. within x (holding_of v.tasks l r)) (suc (length v.tasks) - lowest_ceiling l v.tasks) (lowest_ceiling l v.tasks) (c + 1) (omega (arith, f.from)) (omega (arith, f.below, high)) (none_next (λ r. within x (holding_of v.tasks l r)) (lowest_ceiling l v.tasks) c none here)
      ∙ ap (least_from (λ r. within x (holding_of v.tasks l r)) (c + 1)) rest)

-- the next ceiling is the one shown at x
pub next_shown : (v : Partition) (x y l c w : ℕ) → x ≤ y → x ≤ number_limit → smallest_deadline l v.tasks ≤ number_limit → Known v y l c w → next_ceiling v.tasks (lock_of l v.tasks) c w x ≡ shown_at v x l
unfolding next_ceiling
next_shown v x y l c w h b d (inl (u, e, s)) = rw e (simp (lt-leb w x (omega arith), lt-leb w number_limit u) (sym (shared_shown v x l s)))
next_shown v x y l c w h b d (inr e) = go (dec_le w x)
  where
    s : Shows v y l c w
    s = shown_held v y l c w e

    go : Dec (w ≤ x) → next_ceiling v.tasks (lock_of l v.tasks) c w x ≡ shown_at v x l
    go (yes m) = simp (le-leb w x m) (sym (shows_shown v x l c w (still_shown v x y l c w h s m)))
    go (no m) =
        let most = counted_most v l c w s.time in
        simp (lt-leb w x (omega arith), le-leb w number_limit (omega arith)) (sym (shown_later v x y l c w h s (omega arith)))
