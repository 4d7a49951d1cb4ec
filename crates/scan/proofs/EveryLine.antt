-- Request M-102: `line_at` says of every line whether question 2 holds and, if so, where its first five tabs stand; and no other answer says so.
-- Assumes nothing.
use Prim.Native.Nat.{ℕ, suc, ◌+◌, ◌<◌}
use native.Mathlib.Decide.{dec_lt}
use native.Mathlib.Omega.{arith}
use mathlib.Core.Path.{◌≡◌, refl, sym, ap, ◌∙◌, subst}
use mathlib.Core.Bool.{Bool, true, false}
use mathlib.Core.List.{List, [], ◌∷◌, ◌++◌}
use lib.ListN.{length, drop, get_or}
use lib.Seq.{drop-drop, ext_get_or}
use Rattle.least.specs.Lists.{sum}
use Rattle.least.proofs.Numbers.{behind_unique}
use Rattle.text.specs.Bytes.{Line, lines_of}
use Rattle.scan.specs.declared.Scanned.{Scanned}
use Rattle.scan.specs.Line.{line_is_good}
use Rattle.scan.specs.Scan.{start_behind, is_tab, Found, ScanIs, EveryLineScanned, ScanSettled}
use Rattle.scan.specs.Positions.{body_of, first_line, line_at}
use Rattle.scan.proofs.FirstLine.{passes_behind, first_scanned}
use Rattle.scan.proofs.Lines.{lines_first, the_line}

-- the line behind some lines begins behind their bytes
lines_are : (xs : List ℕ) (l : Line) (ls : List Line) → lines_of xs ≡ l ∷ ls → (first_line xs ≡ l) × (lines_of (drop (suc (length l.body)) xs) ≡ ls)
unfolding lines_of
lines_are [] l ls e = absurd (omega (arith, ap length e))
lines_are (b ∷ bs) l ls e =
    let h : first_line (b ∷ bs) ∷ lines_of (drop (suc (length (body_of (b ∷ bs)))) (b ∷ bs)) ≡ l ∷ ls = sym (lines_first (b ∷ bs) (omega arith)) ∙ e in
    let f : first_line (b ∷ bs) ≡ l = cc in
    let g : lines_of (drop (suc (length (body_of (b ∷ bs)))) (b ∷ bs)) ≡ ls = cc in
    (f, subst (λ (k : Line). lines_of (drop (suc (length k.body)) (b ∷ bs)) ≡ ls) f g)

line_behind : (s : List ℕ) (above : List Line) (l : Line) (behind : List Line) → lines_of s ≡ above ++ (l ∷ behind) → the_line s (start_behind above) ≡ l
unfolding start_behind sum
line_behind s [] l behind e = (lines_are s l behind e).0
line_behind s (a ∷ above) l behind e =
    let n = suc (length a.body) in
    ap first_line (sym (drop-drop (start_behind above) n s)) ∙ line_behind (drop n s) above l behind (lines_are s a (above ++ (l ∷ behind)) e).1

pub every_line_scanned : EveryLineScanned line_at
every_line_scanned s above l behind e = subst (λ (k : Line). ScanIs k (start_behind above) (line_at s (start_behind above))) (line_behind s above l behind e) (first_scanned s (start_behind above))

-- the words settle every number
abbrev place_of : Scanned → ℕ → ℕ
place_of r k = get_or r.tabs.place k 0

same_place : (l : Line) (at : ℕ) (r q : Scanned) → Found l at r → Found l at q → (k : ℕ) → place_of r k ≡ place_of q k
same_place l at r q f g k = go (dec_lt k r.tabs.count)
  where
    same : r.tabs.count ≡ q.tabs.count
    same = f.count ∙ sym g.count

    go : Dec (k < r.tabs.count) → place_of r k ≡ place_of q k
    go (yes h) =
        let (i, e, t) = f.place k h in
        let (j, d, u) = g.place k (rw same at h) in
        e ∙ ap (λ (n : ℕ). at + n) (behind_unique is_tab 0 l.body k i j (passes_behind l.body k i t) (passes_behind l.body k j u)) ∙ sym d
    go (no h) = f.unused k (omega arith) ∙ sym (g.unused k (omega (arith, same)))

same_answer : (r q : Scanned) → r.good ≡ q.good → r.end ≡ q.end → r.tabs.count ≡ q.tabs.count → length r.tabs.place ≡ length q.tabs.place → ((k : ℕ) → place_of r k ≡ place_of q k)
    → r ≡ q
same_answer r q g e c n p =
    let s : r.tabs.place ≡ q.tabs.place = ext_get_or 0 r.tabs.place q.tabs.place n (λ k _. p k) in
    λ i. record { good = g i; end = e i; tabs = record { count = c i; place = s i } }

pub scan_settled : ScanSettled
scan_settled l at r q w v = go (line_is_good l) refl
  where
    five : length r.tabs.place ≡ length q.tabs.place
    five = w.places ∙ sym v.places

    go : (b : Bool) → line_is_good l ≡ b → r ≡ q
    go true e =
        let f = w.good (w.question2 ∙ e) in
        let g = v.good (v.question2 ∙ e) in
        same_answer r q (w.question2 ∙ sym v.question2) (f.end ∙ sym g.end) (f.count ∙ sym g.count) five (same_place l at r q f g)
    go false e =
        let f = w.bad (w.question2 ∙ e) in
        let g = v.bad (v.question2 ∙ e) in
        same_answer r q (w.question2 ∙ sym v.question2) (f.end ∙ sym g.end) (f.count ∙ sym g.count) five (λ k. f.unused k ∙ sym (g.unused k))
