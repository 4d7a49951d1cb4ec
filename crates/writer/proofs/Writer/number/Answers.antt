-- `writer::Writer::number` meets its contract. The invariant: the digits of what is left of the number, written before the others, give the whole.
-- Assumes nothing.
use Prim.Native.Nat.{ℕ, ◌+◌, ◌/◌, ◌%◌}
use mathlib.Core.Path.{◌≡◌, refl, sym, ap, ◌∙◌}
use lib.ListN.{length, set, length-set}
use native.Mathlib.Omega.{arith}
use mathlib.Core.List.{List}
use Rattle.text.specs.Decimal.{digits_of}
use Rattle.writer.specs.Code.Written.{written}
use Rattle.writer.proofs.Written.{written_one, written_last}
use Rattle.writer.proofs.Digits.{digits_one, digits_more, digits_more_length, digits_some}
use Rattle.writer.proofs.Writer.number.Goals as goal

pub overflow_sub-i : goal.overflow_sub-i
overflow_sub-i c = omega (arith, c.digit_count.ensures.0, digits_some c.args.n)

pub loop-rest-init : goal.loop-rest-init
loop-rest-init c =
    let e = c.digit_count.ensures.0 in
    let s = digits_some c.args.n in
    let room = c.requires.fits in
    record { same = refl; place = refl; long = refl; bytes = refl; left = omega (arith, e, s); within = omega (arith, e, s, room); behind = omega (arith, e) }

pub overflow_sub-i-in-loop-rest : goal.overflow_sub-i-in-loop-rest
overflow_sub-i-in-loop-rest c =
    let l = c.loop-rest in
    omega (arith, digits_more_length l.rest (omega arith), digits_some (l.rest / 10), l.invariant.left)

pub loop-rest-preserved : goal.loop-rest-preserved
loop-rest-preserved c =
    let l = c.loop-rest in
    let i = l.invariant in
    let w = l.self in
    let m = digits_more_length l.rest (omega arith) in
    let s = digits_some (l.rest / 10) in
    let p = digits_of (l.rest / 10) in
    let x = 48 + l.rest % 10 in
    let place : w.at + length p ≡ l.i = omega (arith, m, i.left) in
    let last = written_last w.at p x w.out.now (omega (arith, m, i.left, i.within)) in
    let cut = ap (λ (ds : List ℕ). written w.at ds w.out.now) (digits_more l.rest (omega arith)) in
    let long = length-set w.out.now l.i x in
    record {
      same = i.same;
      place = i.place;
      long = long ∙ i.long;
      bytes = ap (λ (k : ℕ). written w.at p (set w.out.now k x)) (sym place) ∙ sym last ∙ sym cut ∙ i.bytes;
      left = omega (arith, m, s, i.left);
      within = omega (arith, long, i.within);
      behind = i.behind;
    }

pub returns : goal.returns
returns c =
    let l = c.loop-rest in
    let i = l.invariant in
    let w = l.self in
    let one = digits_one l.rest (omega arith) in
    let x = 48 + l.rest in
    let place : w.at ≡ l.i = omega (arith, ap length one, i.left) in
    record {
      same = i.same;
      bytes = record {
        bytes = ap (λ (k : ℕ). set w.out.now k x) (sym place) ∙ sym (written_one w.at x w.out.now (omega (arith, i.within, place)))
            ∙ ap (λ (ds : List ℕ). written w.at ds w.out.now) (sym one) ∙ i.bytes ∙ ap (λ (k : ℕ). written k (digits_of c.args.n) c.args.self.now.out.now) i.place;
        place = omega (arith, i.behind, i.place);
      };
    }
