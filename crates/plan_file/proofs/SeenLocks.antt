-- Laws of the locks of a task and of a part: how long a lock is held by its name, and what one task or one lock more does to the names of a part.
-- Assumes nothing.
use Prim.Native.Nat.{ℕ, ◌≤◌}
use mathlib.Core.Path.{◌≡◌, refl, sym, ap, ◌∙◌}
use mathlib.Core.Bool.{Bool, true, false, false≢true}
use mathlib.Core.List.Memᴰ
use mathlib.Core.List.{List, [], ◌∷◌, ◌++◌, map, map-append, append-nil, append_assoc, drop_last, Memᴰ}
use borrow.Author.Tests.{le-leb}
use lib.Dec.{leb}
use lib.ListN.{length}
use Rattle.least.specs.Lists.{joined, last_or, on_last}
use Rattle.least.proofs.Lists.{some_none, joined_of}
use Rattle.least.proofs.Last.{last_split, on_last_split}
use Rattle.text.specs.Bytes.{same, among, mention, distinct_after}
use Rattle.text.proofs.Bytes.{same_refl}
use Rattle.text.proofs.Names.{among_none, among-cons, among-distinct, distinct_snoc, Different, none, distinct_different}
use Rattle.plan_file.specs.Above.{FileLock, FileTask, FilePart, no_task, lock_mentions, lock_names, with_lock, with_tasks}
use Rattle.plan_file.specs.Reading.{locks_of}
use Rattle.plan_file.specs.Numbers.{held_under}

abbrev pub names_in : List FileLock → List (List ℕ)
names_in ls = map (λ l. l.name) ls

-- how long a lock is held
pub held_here : (name : List ℕ) (l : FileLock) (ls : List FileLock) → same name l.name ≡ true → held_under name (l ∷ ls) ≡ l.held
unfolding held_under
held_here name l ls e = simp e

pub held_later : (name : List ℕ) (l : FileLock) (ls : List FileLock) → same name l.name ≡ false → held_under name (l ∷ ls) ≡ held_under name ls
unfolding held_under
held_later name l ls e = simp e

pub held_none : (name : List ℕ) → held_under name [] ≡ 0
unfolding held_under
held_none name = refl

pub held_unknown : (name : List ℕ) (ls : List FileLock) → among name (names_in ls) ≡ false → held_under name ls ≡ 0
held_unknown name [] e = held_none name
held_unknown name (l ∷ ls) e = go (same name l.name) refl (held_unknown name ls)
  where
    go : (b : Bool) → same name l.name ≡ b → (among name (names_in ls) ≡ false → held_under name ls ≡ 0) → held_under name (l ∷ ls) ≡ 0
    go true h ih = let z : true ≡ false = simp (among-cons name, h) at e in absurd (false≢true (sym z))
    go false h ih = held_later name l ls h ∙ ih (simp (among-cons name, h) at e)

-- each of these locks is held for some time
abbrev pub AllHeld : List FileLock → Type 0
AllHeld ls = (l : FileLock) → Memᴰ l ls → 1 ≤ l.held

-- then a lock is one of them just if it is held
pub known_held : (name : List ℕ) (ls : List FileLock) → AllHeld ls → leb 1 (held_under name ls) ≡ among name (names_in ls)
known_held name [] all = simp (held_none name, among_none name)
known_held name (l ∷ ls) all = go (same name l.name) refl (known_held name ls (λ k m. all k (Memᴰ.tail m)))
  where
    go : (b : Bool) → same name l.name ≡ b → leb 1 (held_under name ls) ≡ among name (names_in ls) → leb 1 (held_under name (l ∷ ls)) ≡ among name (names_in (l ∷ ls))
    go true h ih = simp (held_here name l ls h, among-cons name, h, le-leb 1 l.held (all l (Memᴰ.head refl)))
    go false h ih = simp (held_later name l ls h, among-cons name, h) ih

-- a lock more
pub held_snoc_other : (name : List ℕ) (ls : List FileLock) (l : FileLock) → same name l.name ≡ false → held_under name (ls ++ (l ∷ [])) ≡ held_under name ls
held_snoc_other name [] l e = held_later name l [] e
held_snoc_other name (k ∷ ks) l e = go (same name k.name) refl (held_snoc_other name ks l e)
  where
    go : (b : Bool) → same name k.name ≡ b → held_under name (ks ++ (l ∷ [])) ≡ held_under name ks → held_under name (k ∷ (ks ++ (l ∷ []))) ≡ held_under name (k ∷ ks)
    go true h ih = held_here name k (ks ++ (l ∷ [])) h ∙ sym (held_here name k ks h)
    go false h ih = held_later name k (ks ++ (l ∷ [])) h ∙ ih ∙ sym (held_later name k ks h)

pub held_snoc_new : (ls : List FileLock) (l : FileLock) → among l.name (names_in ls) ≡ false → held_under l.name (ls ++ (l ∷ [])) ≡ l.held
held_snoc_new [] l e = held_here l.name l [] (same_refl l.name)
held_snoc_new (k ∷ ks) l e = go (same l.name k.name) refl (held_snoc_new ks l)
  where
    go : (b : Bool) → same l.name k.name ≡ b → (among l.name (names_in ks) ≡ false → held_under l.name (ks ++ (l ∷ [])) ≡ l.held) → held_under l.name (k ∷ (ks ++ (l ∷ []))) ≡ l.held
    go true h ih = let z : true ≡ false = simp (among-cons l.name, h) at e in absurd (false≢true (sym z))
    go false h ih = held_later l.name k (ks ++ (l ∷ [])) h ∙ ih (simp (among-cons l.name, h) at e)

-- the different names of a part
pub lock_names_different : (p : FilePart) → Different (lock_names p)
unfolding lock_names
lock_names_different p = distinct_different [] (lock_mentions p) none

-- a name that is not among them is not that of a task's lock
pub lock_unmentioned : (name : List ℕ) (p : FilePart) (t : FileTask) → among name (lock_names p) ≡ false → Memᴰ t p.tasks → among name (locks_of t) ≡ false
unfolding among lock_names lock_mentions
lock_unmentioned name p t e m =
    let none = (some_none (same name) (lock_mentions p)).0 (sym (among-distinct name (lock_mentions p)) ∙ e) in
    (some_none (same name) (locks_of t)).1 (λ n k. none n (joined_of (map locks_of p.tasks) (Memᴰ.map locks_of m) k))

joined_map_snoc : (f : FileTask → List (List ℕ)) (ts : List FileTask) (t : FileTask) → joined (map f (ts ++ (t ∷ []))) ≡ joined (map f ts) ++ f t
unfolding joined
joined_map_snoc f [] t = append-nil (f t)
joined_map_snoc f (u ∷ us) t = ap (λ (l : List (List ℕ)). f u ++ l) (joined_map_snoc f us t) ∙ sym (append_assoc (f u) (joined (map f us)) (f t))

-- a task without locks mentions none
pub lock_names_task : (p : FilePart) (t : FileTask) → t.locks ≡ [] → lock_names (with_tasks (λ ts. ts ++ (t ∷ [])) p) ≡ lock_names p
unfolding lock_names lock_mentions
lock_names_task p t e = ap (distinct_after []) (joined_map_snoc locks_of p.tasks t ∙ simp (e, append-nil))

-- a lock more of the last task is one more mention
abbrev mentions_in : List FileTask → List (List ℕ)
mentions_in ts = joined (map locks_of ts)

mentions_lock : (ts : List FileTask) (t : FileTask) (l : FileLock) → mentions_in (ts ++ (with_lock l t ∷ [])) ≡ mentions_in (ts ++ (t ∷ [])) ++ (l.name ∷ [])
mentions_lock ts t l =
    rw (joined_map_snoc locks_of ts (with_lock l t), joined_map_snoc locks_of ts t) (simp (map-append, append_assoc))

pub lock_names_lock : (p : FilePart) (l : FileLock) → 1 ≤ length p.tasks → lock_names (with_tasks (on_last (with_lock l)) p) ≡ mention (lock_names p) l.name
unfolding lock_names lock_mentions
lock_names_lock p l h =
    ap (distinct_after [])
    (ap mentions_in (on_last_split (with_lock l) no_task p.tasks h)
    ∙ mentions_lock (drop_last p.tasks) (last_or no_task p.tasks) l
    ∙ ap (λ (ts : List FileTask). mentions_in ts ++ (l.name ∷ [])) (sym (last_split no_task p.tasks h)))
    ∙ distinct_snoc [] (mentions_in p.tasks) l.name
