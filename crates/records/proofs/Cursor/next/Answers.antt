-- `records::Cursor::next` meets its contract.
-- Assumes nothing.
use native.Mathlib.Omega.{arith}
use Rattle.records.proofs.Onward.{tabs_within, tabs_before, end_within, record_at, broken_at}
use Rattle.records.proofs.Within.{first_within}
use Rattle.records.proofs.Cursor.next.Goals as goal

pub within-word-requires : goal.within-word-requires
within-word-requires c =
    let a = c.args in
    let is = c.line_at-l.ensures in
    let g = c.if-not-l.false in
    rw c.first_field.ensures (first_within a.s.now c.line_at-l.result (tabs_before a.s.now a.self c.line_at-l.result is g) (end_within a.s.now a.self c.line_at-l.result is g) a.self.at c.if-s-self.false)

pub shape_of-requires : goal.shape_of-requires
shape_of-requires c = λ j.
    let a = c.args in
    omega (arith, tabs_within a.s.now a.self c.line_at-l.result c.line_at-l.ensures c.if-not-l.false j)

pub overflow_add-result : goal.overflow_add-result
overflow_add-result c =
    let a = c.args in
    omega (arith, end_within a.s.now a.self c.line_at-l.result c.line_at-l.ensures c.if-not-l.false)

pub returns-then-not-l : goal.returns-then-not-l
returns-then-not-l c =
    let a = c.args in
    broken_at a.s.now a.self c.line_at-l.result c.line_at-l.ensures c.if-not-l.true c.if-s-self.false

pub returns : goal.returns
returns c =
    let a = c.args in
    record_at a.s.now a.self c.line_at-l.result c.line_at-l.ensures c.shape_of.result c.if-not-l.false c.if-s-self.false (cc)
