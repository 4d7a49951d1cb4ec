-- `writer::Writer::word` meets its contract.
-- Assumes nothing.
use Prim.Native.Nat.{ℕ, ◌+◌}
use mathlib.Core.Path.{◌≡◌, refl, sym, ap, ap₂, ◌∙◌}
use mathlib.Core.List.{List, ◌++◌, append_assoc}
use native.Mathlib.Omega.{arith}
use lib.ListN.{length, take, drop}
use lib.Seq.{drop-drop, take_all}
use borrow.Rule.Slice.PartMut.{put_mid}
use Rattle.writer.specs.Code.Written.{written}
use Rattle.writer.proofs.Writer.word.Goals as goal

copied : (at n : ℕ) (word part out : List ℕ) → n ≡ length word → part ≡ word → put_mid at n out part ≡ written at word out
unfolding written
copied at n word part out k e =
    ap₂ (λ (m : ℕ) (p : List ℕ). put_mid at m out p) k e ∙ ap (λ (rest : List ℕ). take at out ++ (word ++ rest)) (drop-drop (length word) at out)
    ∙ sym (append_assoc (take at out) word (drop (at + length word) out))

pub returns : goal.returns
returns c =
    let w = c.args.self.now in
    let word = c.args.word.now in
    let l = c.loop-i in
    let all : l.place-items ≡ word = sym (take_all l.i l.place-items (omega arith)) ∙ l.invariant.1 ∙ take_all l.i word (omega (arith, l.invariant.0)) in
    record { same = refl; bytes = record { bytes = copied w.at _ word _ w.out.now (omega arith) all; place = refl } }
