-- The printed lines as pieces one behind another, and how long they are.
-- Assumes nothing.
use Prim.Native.Nat.{ℕ, ◌+◌}
use native.Mathlib.Omega.{arith}
use mathlib.Core.Path.{◌≡◌, refl, sym, ap, ◌∙◌}
use mathlib.Core.List.{List, [], ◌∷◌, ◌++◌, append_assoc}
use lib.ListN.{length, length-append}
use lib.Seq.{append_snoc}
use Rattle.least.specs.declared.Frac.{Frac}
use Rattle.text.specs.Bytes.{bytes, line_of}
use Rattle.text.specs.Decimal.{digits_of}
use Rattle.load.specs.declared.Row.{Row}
use Rattle.listing.specs.Listing.{Share, ceiling_line, share_line, load_line, refused_line}
use Rattle.listing.specs.Code.Shares.{head_of}

-- a field with the byte behind it
abbrev pub closed : List ℕ → ℕ → List ℕ
closed f end = f ++ (end ∷ [])

pub line_first : (f g : List ℕ) (gs : List (List ℕ)) → line_of (f ∷ g ∷ gs) ≡ closed f 9 ++ line_of (g ∷ gs)
unfolding line_of
line_first f g gs = sym (append_snoc f 9 (line_of (g ∷ gs)))

pub line_last : (f : List ℕ) → line_of (f ∷ []) ≡ closed f 10
unfolding line_of
line_last f = refl

line_head : (w n f : List ℕ) (fs : List (List ℕ)) → line_of (w ∷ n ∷ f ∷ fs) ≡ head_of w n ++ line_of (f ∷ fs)
unfolding head_of
line_head w n f fs =
    line_first w n (f ∷ fs) ∙ ap (λ (l : List ℕ). closed w 9 ++ l) (line_first n f fs) ∙ sym (append_assoc (closed w 9) (closed n 9) (line_of (f ∷ fs)))

-- two numbers at the end of a line
abbrev pub last_two : ℕ → ℕ → List ℕ
last_two a b = line_of (digits_of a ∷ digits_of b ∷ [])

pub two_pieces : (a b : ℕ) → last_two a b ≡ closed (digits_of a) 9 ++ closed (digits_of b) 10
two_pieces a b = line_first (digits_of a) (digits_of b) [] ∙ ap (λ (l : List ℕ). closed (digits_of a) 9 ++ l) (line_last (digits_of b))

-- those of a bound
abbrev pub bound_end : Frac → List ℕ
bound_end b = last_two b.num b.den

pub load_pieces : (s : Share) → load_line s ≡ head_of (bytes "load") s.name ++ bound_end s.bound
unfolding load_line
load_pieces s = line_head (bytes "load") s.name (digits_of s.bound.num) (digits_of s.bound.den ∷ [])

-- the numbers of a row and of its bound, at the end of a line
abbrev pub row_end : Row → Frac → List ℕ
row_end r b = closed (digits_of r.period) 9 ++ (closed (digits_of r.budget) 9 ++ (closed (digits_of r.holding) 9 ++ bound_end b))

row_pieces : (r : Row) (b : Frac) → line_of (digits_of r.period ∷ digits_of r.budget ∷ digits_of r.holding ∷ digits_of b.num ∷ digits_of b.den ∷ []) ≡ row_end r b
row_pieces r b =
    let P = digits_of r.period in
    let Q = digits_of r.budget in
    let X = digits_of r.holding in
    let L = digits_of b.num in
    let t = digits_of b.den in
    line_first P Q (X ∷ L ∷ t ∷ [])
    ∙ ap (λ (l : List ℕ). closed P 9 ++ l)
    (line_first Q X (L ∷ t ∷ []) ∙ ap (λ (l : List ℕ). closed Q 9 ++ l) (line_first X L (t ∷ [])))

pub share_head : (s : Share)
    → share_line s ≡ head_of (bytes "share") s.name ++ line_of (digits_of s.row.period ∷ digits_of s.row.budget ∷ digits_of s.row.holding ∷ digits_of s.bound.num ∷ digits_of s.bound.den ∷ [])
unfolding share_line
share_head s =
    line_head (bytes "share") s.name (digits_of s.row.period) (digits_of s.row.budget ∷ digits_of s.row.holding ∷ digits_of s.bound.num ∷ digits_of s.bound.den ∷ [])

share_pieces : (s : Share) → share_line s ≡ head_of (bytes "share") s.name ++ row_end s.row s.bound
share_pieces s = share_head s ∙ ap (λ (l : List ℕ). head_of (bytes "share") s.name ++ l) (row_pieces s.row s.bound)

pub ceiling_pieces : (n : List ℕ) (k : ℕ) → ceiling_line (record { lock = n; number = k }) ≡ head_of (bytes "ceiling") n ++ closed (digits_of k) 10
unfolding ceiling_line
ceiling_pieces n k =
    line_head (bytes "ceiling") n (digits_of k) [] ∙ ap (λ (l : List ℕ). head_of (bytes "ceiling") n ++ l) (line_last (digits_of k))

pub refused_pieces : (n k : ℕ) → refused_line n k ≡ closed (bytes "refused") 9 ++ last_two n k
unfolding refused_line
refused_pieces n k = line_first (bytes "refused") (digits_of n) (digits_of k ∷ [])

-- lengths
closed_length : (f : List ℕ) (end : ℕ) → length (closed f end) ≡ length f + 1
closed_length f end = length-append f (end ∷ [])

head_length : (w n : List ℕ) → length (head_of w n) ≡ length w + length n + 2
unfolding head_of
head_length w n = length-append (closed w 9) (closed n 9) ∙ omega (arith, closed_length w 9, closed_length n 9)

two_length : (a b : ℕ) → length (last_two a b) ≡ length (digits_of a) + length (digits_of b) + 2
two_length a b =
    ap length (two_pieces a b) ∙ length-append (closed (digits_of a) 9) (closed (digits_of b) 10)
    ∙ omega (arith, closed_length (digits_of a) 9, closed_length (digits_of b) 10)

pub bound_length : (b : Frac) → length (bound_end b) ≡ length (digits_of b.num) + length (digits_of b.den) + 2
bound_length b = two_length b.num b.den

row_length : (r : Row) (b : Frac)
    → length (row_end r b) ≡ length (digits_of r.period) + length (digits_of r.budget) + length (digits_of r.holding) + 3 + length (bound_end b)
row_length r b =
    let P = closed (digits_of r.period) 9 in
    let Q = closed (digits_of r.budget) 9 in
    let X = closed (digits_of r.holding) 9 in
    omega
    (arith, length-append P (Q ++ (X ++ bound_end b)), length-append Q (X ++ bound_end b), length-append X (bound_end b), closed_length (digits_of r.period) 9, closed_length (digits_of r.budget) 9, closed_length (digits_of r.holding) 9)

load_word : length (bytes "load") ≡ 4
unfolding bytes
load_word = refl

share_word : length (bytes "share") ≡ 5
unfolding bytes
share_word = refl

ceiling_word : length (bytes "ceiling") ≡ 7
unfolding bytes
ceiling_word = refl

refused_word : length (bytes "refused") ≡ 7
unfolding bytes
refused_word = refl

pub load_length : (s : Share) → length (load_line s) ≡ 6 + length s.name + length (bound_end s.bound)
load_length s =
    ap length (load_pieces s) ∙ length-append (head_of (bytes "load") s.name) (bound_end s.bound) ∙ omega (arith, head_length (bytes "load") s.name, load_word)

pub share_length : (s : Share)
    → length (share_line s) ≡ 10 + length s.name + length (digits_of s.row.period) + length (digits_of s.row.budget) + length (digits_of s.row.holding) + length (bound_end s.bound)
share_length s =
    ap length (share_pieces s) ∙ length-append (head_of (bytes "share") s.name) (row_end s.row s.bound)
    ∙ omega (arith, head_length (bytes "share") s.name, share_word, row_length s.row s.bound)

pub ceiling_length : (n : List ℕ) (k : ℕ) → length (ceiling_line (record { lock = n; number = k })) ≡ 10 + length n + length (digits_of k)
ceiling_length n k =
    ap length (ceiling_pieces n k) ∙ length-append (head_of (bytes "ceiling") n) (closed (digits_of k) 10)
    ∙ omega (arith, head_length (bytes "ceiling") n, ceiling_word, closed_length (digits_of k) 10)

pub refused_length : (n k : ℕ) → length (refused_line n k) ≡ 10 + length (digits_of n) + length (digits_of k)
refused_length n k =
    ap length (refused_pieces n k) ∙ length-append (closed (bytes "refused") 9) (last_two n k)
    ∙ omega (arith, closed_length (bytes "refused") 9, refused_word, two_length n k)
