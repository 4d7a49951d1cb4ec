-- A task as the reader keeps it: its numbers, and in eight places how long it holds the locks that the part has so far.
-- Assumes nothing.
use Prim.Native.Nat.{ℕ, ◌≤◌, ◌<◌}
use mathlib.Core.Path.{◌≡◌, refl, sym, ap, ◌∙◌}
use mathlib.Core.Bool.{Bool, true, false}
use mathlib.Core.List.{List, [], ◌∷◌, ◌++◌, map, map-append}
use native.Mathlib.Omega.{arith}
use lib.ListN.{length, set, length-map, length-append}
use Rattle.least.specs.Lists.{pad}
use Rattle.least.proofs.Pad.{set_pad, set_pad_within, get_d_pad_fits, pad_filler, pad_fillers}
use Rattle.text.specs.Bytes.{same, among, mention}
use Rattle.text.proofs.Names.{Different, not_same_sym, mention_known, mention_new}
use Rattle.task_set.specs.declared.Task.{Task}
use Rattle.plan_file.specs.Above.{FileLock, FileTask, with_lock}
use Rattle.plan_file.specs.Reading.{locks_of}
use Rattle.plan_file.specs.Numbers.{held_under}
use Rattle.plan_file.specs.Code.Entries.{place_among, use_at}
use Rattle.plan_file.proofs.SeenNames.{place_known, place_new, get_place, set_place, set_place_new}
use Rattle.plan_file.proofs.SeenLocks.{held_none, held_unknown, held_snoc_other, held_snoc_new}

-- how long a task holds the lock of a name
abbrev pub held_by : FileTask → List ℕ → ℕ
held_by t name = held_under name t.locks

abbrev pub task_with : FileTask → List ℕ → Task
task_with t uses = record { separation = t.separation; cost = t.cost; deadline = t.deadline; uses = uses }

unfoldable pub padded : List (List ℕ) → FileTask → Task
padded names t = task_with t (pad 8 0 (map (held_by t) names))

-- a name that is not among the part's is not that of a lock of the task
abbrev pub Unused : List ℕ → List (List ℕ) → FileTask → Type 0
Unused name names t = among name names ≡ false → among name (locks_of t) ≡ false

module _ (names : List (List ℕ)) (t : FileTask) where
  pub padded_new : t.locks ≡ [] → padded names t ≡ task_with t (pad 8 0 [])
  unfolding padded
  padded_new e = ap (task_with t) (pad_fillers (held_by t) 8 0 names (λ n. ap (held_under n) e ∙ held_none n))

  pub padded_use : (name : List ℕ) → length names ≤ 8 → Unused name names t → use_at (padded names t) (place_among name names) ≡ held_by t name
  unfolding padded use_at
  padded_use name h u =
      get_d_pad_fits 8 0 (map (held_by t) names) (place_among name names) (rw length-map h) ∙ get_place (held_by t) name names (λ e. held_unknown name t.locks (u e))

  -- one mention more changes nothing for a task that does not use the lock
  pub padded_mention : (name : List ℕ) → Unused name names t → padded (mention names name) t ≡ padded names t
  unfolding padded
  padded_mention name u = go (among name names) refl
    where
      go : (b : Bool) → among name names ≡ b → padded (mention names name) t ≡ padded names t
      go true e = rw (mention_known name names e)
      go false e = ap (task_with t) (rw (mention_new name names e, map-append (held_by t), held_unknown name t.locks (u e)) (pad_filler 8 0 (map (held_by t) names)))

-- a lock more of the task is a store at the place of its name
module _ (names : List (List ℕ)) (t : FileTask) (l : FileLock) (new : among l.name (locks_of t) ≡ false) where
  abbrev stored : List ℕ
  stored = set (pad 8 0 (map (held_by t) names)) (place_among l.name names) l.held

  abbrev kept : List (List ℕ) → List ℕ
  kept ns = pad 8 0 (map (held_by (with_lock l t)) ns)

  others_keep : (n : List ℕ) → same l.name n ≡ false → held_by t n ≡ held_by (with_lock l t) n
  others_keep n e = sym (held_snoc_other n t.locks l (not_same_sym l.name n e))

  it_holds : held_by (with_lock l t) l.name ≡ l.held
  it_holds = held_snoc_new t.locks l new

  stored_known : Different names → among l.name names ≡ true → stored ≡ kept names
  stored_known d e =
      set_pad_within 8 0 (map (held_by t) names) (place_among l.name names) l.held (rw length-map (place_known l.name names e))
      ∙ ap (pad 8 0) (rw it_holds at (set_place (held_by t) (held_by (with_lock l t)) l.name others_keep d e))

  stored_new : length names < 8 → among l.name names ≡ false → stored ≡ kept (names ++ (l.name ∷ []))
  stored_new h e =
      let n : place_among l.name names ≡ length (map (held_by t) names) = place_new l.name names e ∙ sym (length-map names (held_by t)) in
      rw n (set_pad 8 0 (map (held_by t) names) l.held (rw length-map h))
      ∙ ap (pad 8 0) (rw it_holds at (set_place_new (held_by t) (held_by (with_lock l t)) l.name others_keep names e))

  pub padded_lock : Different names → length (mention names l.name) ≤ 8 → task_with t (set (padded names t).uses (place_among l.name names) l.held) ≡ padded (mention names l.name) (with_lock l t)
  unfolding padded
  padded_lock d h = ap (task_with t) (go (among l.name names) refl)
    where
      go : (b : Bool) → among l.name names ≡ b → stored ≡ kept (mention names l.name)
      go true e = rw (mention_known l.name names e) (stored_known d e)
      go false e =
          let few : length names < 8 = omega (arith, simp length-append at (ap length (mention_new l.name names e))) in
          rw (mention_new l.name names e) (stored_new few e)
