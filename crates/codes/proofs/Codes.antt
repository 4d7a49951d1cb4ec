-- The number of a name is not 0 and fits 64 bits, and two names have the same number only if they are the same.
-- Assumes nothing.
use Prim.Native.Nat.{ℕ, zero, suc, ◌+◌, ◌*◌, ◌^◌, ◌≤◌, ◌<◌}
use native.Mathlib.Omega.{arith}
use mathlib.Core.Path.{◌≡◌, refl, sym, ap, ap₂, ◌∙◌}
use mathlib.Core.Bool.{Bool, true, false, false≢true, and-false}
use mathlib.Core.List.{List, [], ◌∷◌, ◌++◌, append-nil, append_assoc}
use borrow.Author.Tests.{leb-true, leb-false, lt-leb}
use lib.Dec.{leb}
use Rattle.std.proofs.Common.{Option, Some, None, ◌⊎◌, inl, inr}
use lib.ListN.{length, get_or, length-append}
use lib.Seq.{get_or-append_seam}
use Rattle.least.specs.Lists.{every}
use Rattle.least.proofs.Lists.{every_none, every_cons, every_pass, every_member}
use Rattle.least.proofs.Members.{get_d_member}
use Rattle.text.specs.Decimal.{is_digit}
use Rattle.fields.specs.Fields.{is_name_byte, is_name}
use Rattle.fields.proofs.Fields.{name_iff}
use Rattle.codes.specs.Code.Codes.{code_of, code_if}

-- a byte of a name is a digit to base 256, and not 0
byte_least : (b : ℕ) → is_name_byte b ≡ true → 48 ≤ b
unfolding is_name_byte is_digit
byte_least b e = go (leb 48 b) refl
  where
    go : (t : Bool) → leb 48 b ≡ t → 48 ≤ b
    go true h = leb-true 48 b h
    go false h =
        let l : b < 48 = leb-false 48 b h in
        let z : false ≡ true = simp (lt-leb 97 b (omega arith), h) at e in absurd (false≢true z)

byte_most : (b : ℕ) → is_name_byte b ≡ true → b ≤ 122
unfolding is_name_byte is_digit
byte_most b e = go (leb b 122) refl
  where
    go : (t : Bool) → leb b 122 ≡ t → b ≤ 122
    go true h = leb-true b 122 h
    go false h =
        let l : 122 < b = leb-false b 122 h in
        let z : false ≡ true = simp (lt-leb b 57 (omega arith), h, and-false) at e in absurd (false≢true z)

pub code_none : code_of [] ≡ 0
unfolding code_of
code_none = refl

code_cons : (b : ℕ) (bs : List ℕ) → code_of (b ∷ bs) ≡ b + 256 * code_of bs
unfolding code_of
code_cons b bs = refl

code_bytes_injective : (as' bs : List ℕ) → every is_name_byte as' ≡ true → every is_name_byte bs ≡ true → code_of as' ≡ code_of bs → as' ≡ bs
unfolding code_of
code_bytes_injective [] [] h k e = refl
code_bytes_injective [] (b ∷ bs) h k e = absurd (omega (arith, byte_least b (every_cons is_name_byte b bs k).0, e))
code_bytes_injective (a ∷ as') [] h k e = absurd (omega (arith, byte_least a (every_cons is_name_byte a as' h).0, e))
code_bytes_injective (a ∷ as') (b ∷ bs) h k e =
    let p = every_cons is_name_byte a as' h in
    let q = every_cons is_name_byte b bs k in
    let m = byte_most a p.0 in
    let n = byte_most b q.0 in
    ap₂ ◌∷◌ (omega (arith, e, m, n)) (code_bytes_injective as' bs p.1 q.1 (omega (arith, e, m, n)))

-- how large it is: k bytes have less than 256 to the k
code_below : (k : ℕ) (xs : List ℕ) → every is_name_byte xs ≡ true → length xs ≤ k → code_of xs < 256 ^ k
code_below zero [] h l = omega (arith, code_none)
code_below (suc k) [] h l = omega (arith, code_none, code_below k [] h (omega arith))
code_below zero (x ∷ xs) h l = absurd (omega arith)
code_below (suc k) (x ∷ xs) h l =
    let p = every_cons is_name_byte x xs h in
    omega (arith, code_cons x xs, byte_most x p.0, code_below k xs p.1 (omega arith))

-- of names
pub code_fits : (bs : List ℕ) → is_name bs ≡ true → code_of bs < 2 ^ 64
code_fits bs e = let n = (name_iff bs).0 e in code_below 8 bs n.bytes n.to

pub code_positive : (bs : List ℕ) → is_name bs ≡ true → 1 ≤ code_of bs
code_positive bs e = go bs ((name_iff bs).0 e).from ((name_iff bs).0 e).bytes
  where
    go : (xs : List ℕ) → 1 ≤ length xs → every is_name_byte xs ≡ true → 1 ≤ code_of xs
    go [] h k = absurd (omega arith)
    go (x ∷ xs) h k = omega (arith, code_cons x xs, byte_least x (every_cons is_name_byte x xs k).0)

-- the number where the bytes are no name, and where they are one
pub code_unnamed : (s : List ℕ) → is_name s ≡ false → code_if s ≡ None
unfolding code_if
code_unnamed s e = simp e

pub code_named : (s : List ℕ) → is_name s ≡ true → code_if s ≡ Some (code_of s)
unfolding code_if
code_named s e = simp e

pub code_stop : (s : List ℕ) (i : ℕ) → i < length s → is_name_byte (get_or s i 0) ≡ false → code_if s ≡ None
code_stop s i h f = go (is_name s) refl
  where
    go : (b : Bool) → is_name s ≡ b → code_if s ≡ None
    go true e = absurd (false≢true (sym f ∙ every_member is_name_byte s ((name_iff s).0 e).bytes (get_d_member s i 0 h)))
    go false e = code_unnamed s e

pub code_of_length : (s : List ℕ) → (length s < 1) ⊎ ((1 ≤ length s) × (8 < length s)) → code_if s ≡ None
unfolding is_name
code_of_length s (inl h) = code_unnamed s (simp (lt-leb 1 (length s) h))
code_of_length s (inr h) = code_unnamed s (simp (lt-leb (length s) 8 h.1, and-false))

pub code_all : (s : List ℕ) → 1 ≤ length s → length s ≤ 8 → every is_name_byte s ≡ true → code_if s ≡ Some (code_of s)
code_all s f l h = code_named s ((name_iff s).1 (record { from = f; to = l; bytes = h }))

-- bytes read from the last on: `code` is the number of those behind `rest`, and they are bytes of a name
pub record Read (s rest : List ℕ) (code : ℕ) : Type 0 where
  pub behind : List ℕ
  pub whole : s ≡ rest ++ behind
  pub bytes : every is_name_byte behind ≡ true
  pub is : code ≡ code_of behind

pub read_none : (s : List ℕ) → Read s s 0
read_none s = record { behind = []; whole = sym (append-nil s); bytes = every_none is_name_byte; is = sym code_none }

-- one byte more, in front of them
module _ (s rest : List ℕ) (b code : ℕ) (read : Read s (rest ++ (b ∷ [])) code) where
  with_front : s ≡ rest ++ (b ∷ read.behind)
  with_front = read.whole ∙ append_assoc rest (b ∷ []) read.behind

  pub read_more : is_name_byte b ≡ true → Read s rest (code * 256 + b)
  read_more e = record { behind = b ∷ read.behind; whole = with_front; bytes = every_pass is_name_byte b read.behind e ∙ read.bytes; is = rw (code_cons, ← read.is) (omega arith) }

  pub read_fits : length s ≤ 8 → is_name_byte b ≡ true → code * 256 + b < 2 ^ 64
  read_fits l e =
      let m = read_more e in
      omega (arith, m.is, code_below 8 m.behind m.bytes (omega (arith, ap length m.whole, length-append rest m.behind)))

  pub read_stop : is_name_byte b ≡ false → code_if s ≡ None
  read_stop e =
      let l : length rest < length s = omega (arith, ap length with_front, length-append rest (b ∷ read.behind)) in
      code_stop s (length rest) l (rw (with_front, get_or-append_seam rest b read.behind 0) e)

pub read_all : (s rest : List ℕ) (code : ℕ) → length rest ≡ 0 → 1 ≤ length s → length s ≤ 8 → Read s rest code → code_if s ≡ Some code
read_all s (b ∷ bs) code n f l read = absurd (omega arith)
read_all s [] code n f l read = code_all s f l (rw read.whole read.bytes) ∙ ap Some (sym (read.is ∙ ap code_of (sym read.whole)))

-- by what was found
pub none_unnamed : (s : List ℕ) → code_if s ≡ None → is_name s ≡ false
none_unnamed s z = go (is_name s) refl
  where
    go : (b : Bool) → is_name s ≡ b → is_name s ≡ false
    go true e = let w : Some (code_of s) ≡ None = sym (code_named s e) ∙ z in cc
    go false e = e

pub record Coded (s : List ℕ) (code : ℕ) : Type 0 where
  pub good : is_name s ≡ true
  pub is : code ≡ code_of s

pub some_named : (s : List ℕ) (code : ℕ) → code_if s ≡ Some code → Coded s code
some_named s code z = go (is_name s) refl
  where
    go : (b : Bool) → is_name s ≡ b → Coded s code
    go true e = let w : Some (code_of s) ≡ Some code = sym (code_named s e) ∙ z in record { good = e; is = cc }
    go false e = let w : ◌≡◌ {A = Option ℕ} None (Some code) = sym (code_unnamed s e) ∙ z in cc

pub code_injective : (a b : List ℕ) → is_name a ≡ true → is_name b ≡ true → code_of a ≡ code_of b → a ≡ b
code_injective a b h k e = code_bytes_injective a b ((name_iff a).0 h).bytes ((name_iff b).0 k).bytes e
